-- `prev` meets its contract: where the gap is not at the start, the path of the search for
-- the entry that it names is the path of the gap before it.
use Rattle.cursor.proofs.Backward.{prev-end, prev-lost, prev-back}
use Rattle.cursor.proofs.prev.Goals as goal

pub returns-in_default : goal.returns-in_default
returns-in_default c = prev-end c.in_ok-ready.ensures c.in_default.ensures

pub returns-in_default-2 : goal.returns-in_default-2
returns-in_default-2 c = prev-lost c.in_ok-ready.ensures c.in-Some.ensures c.in_ok-spot.ensures.finds c.in_default-2.is

pub returns : goal.returns
returns c = prev-back c.in_ok-ready.ensures c.in-Some.ensures c.in_ok-spot.ensures c.in-Some-2.is c.entry_at-value.ensures c.spot_before-behind.ensures c.rest.ensures
