-- `write_next` meets its contract: the entry ahead is overwritten.
use Rattle.cursor.proofs.Forward.{write-over, write-end}
use Rattle.cursor.proofs.write_next.Goals as goal

pub returns-in-Some : goal.returns-in-Some
returns-in-Some c = write-over c.in_ok-ready.ensures c.in_ok-spot.ensures c.in-Some.is c.write.ensures

pub returns-in-None : goal.returns-in-None
returns-in-None c = write-end c.in_ok-ready.ensures c.in_ok-spot.ensures _ c.in-None.is
