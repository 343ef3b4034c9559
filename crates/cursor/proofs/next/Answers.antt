-- `next` meets its contract: the entry ahead is read, and the gap laid behind it.
use Rattle.cursor.proofs.Forward.{next-over, next-end}
use Rattle.cursor.proofs.next.Goals as goal

pub returns : goal.returns
returns c = next-over c.in_ok-ready.ensures c.in_ok-spot.ensures c.in-Some.is c.entry_at-e.ensures c.lay_behind.ensures

pub returns-in_default : goal.returns-in_default
returns-in_default c = next-end c.in_ok-ready.ensures c.in_ok-spot.ensures c.in_default.is
