-- `picture` ends.
-- The measure of its recursion: the height, which is one less below.
use Rattle.pontoon.proofs.show.+picture.Given as goal

abbrev pub decreases-picture : goal.decreases-picture
decreases-picture g l = l.h
