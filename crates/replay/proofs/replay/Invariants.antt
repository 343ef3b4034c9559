-- `replay` ends.
-- Its measure: how much of the list is left.
use Rattle.std.proofs.Common.{length}
use Rattle.replay.proofs.replay.Given as goal

abbrev pub decreases-loop-rest : goal.decreases-loop-rest
decreases-loop-rest g l = length l.rest
