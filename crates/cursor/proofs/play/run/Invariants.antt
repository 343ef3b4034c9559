-- `play::run` meets its contract: each turn takes one more entry along, and each way out is where playback is whole.
use Rattle.cursor.proofs.Playing.{Played}
use Rattle.cursor.proofs.play.run.Given as goal

abbrev pub invariant-loop-i : goal.invariant-loop-i
invariant-loop-i l = Played l.most l.initial.pool l.initial.keys l.initial.values l.pool l.keys l.values l.i
