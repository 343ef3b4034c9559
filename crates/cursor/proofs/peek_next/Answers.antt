-- `peek_next` meets its contract: the entry ahead is read.
use Rattle.cursor.proofs.Forward.{peek-over, peek-end}
use Rattle.cursor.proofs.peek_next.Goals as goal

pub returns-in-Some : goal.returns-in-Some
returns-in-Some c = peek-over c.in_ok-ready.ensures c.in_ok-spot.ensures c.in-Some.is c.entry_at.ensures

pub returns-in-None : goal.returns-in-None
returns-in-None c = peek-end c.in_ok-ready.ensures c.in_ok-spot.ensures c.in-None.is
