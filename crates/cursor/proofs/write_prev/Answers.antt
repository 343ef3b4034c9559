-- `write_prev` meets its contract: the entry that the gap names is overwritten where it is found.
use Rattle.cursor.proofs.Backward.{write-prev-end, write-prev-lost, write-prev-over}
use Rattle.cursor.proofs.write_prev.Goals as goal

pub returns-in_default : goal.returns-in_default
returns-in_default c = write-prev-end c.in_ok-ready.ensures c.in_default.ensures _

pub returns-in_default-2 : goal.returns-in_default-2
returns-in_default-2 c = write-prev-lost c.in_ok-ready.ensures c.in-Some.ensures c.in_ok-spot.ensures c.in_default-2.is _

pub returns : goal.returns
returns c = write-prev-over c.in_ok-ready.ensures c.in-Some.ensures c.in_ok-spot.ensures c.in-Some-2.is c.write.ensures
