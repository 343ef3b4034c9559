-- `stats::sound` meets what `taken` asks: a head that fits is that of a pool with its page map. What `Sized` says first
-- is that there are as many words.
use Rattle.lend.proofs.Fitting.{headed-sized}
use Rattle.pontoon.proofs.stats.sound.Goals as goal

pub taken-requires : goal.taken-requires
taken-requires g c = (headed-sized _ c.requires).0
