-- `show::sound` meets what `taken` and `free` ask: a head that fits is that of a pool with its page map, and with at
-- most 4,096 pages. What `Sized` says first is that there are as many words as the page map ends at.
use Rattle.lend.proofs.Fitting.{headed-sized}
use Rattle.pontoon.proofs.show.sound.Goals as goal

pub taken-taken-requires : goal.taken-taken-requires
taken-taken-requires g c = (headed-sized _ c.requires).0

pub free-requires : goal.free-requires
free-requires g c = headed-sized _ c.requires
