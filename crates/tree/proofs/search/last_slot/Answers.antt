-- `search::last_slot` meets its contract: the last slot is after every key.
use native.Mathlib.Omega.{arith}
use Rattle.tree.proofs.Searching.{last-at}
use Rattle.tree.proofs.search.last_slot.Goals as goal

pub returns : goal.returns
returns c = last-at _ _ _ _ _ c.height.ensures c.if-height-h.false c.count-n.ensures (omega arith) c.if-n-gt-MOST.false
