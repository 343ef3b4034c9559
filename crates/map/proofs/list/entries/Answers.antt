-- `list::entries` writes the keys and the values of a map between two bounds, as many as the shorter slice takes.
use Rattle.map.proofs.Spanning.{lists-both}
use Rattle.map.proofs.list.entries.Goals as goal

pub returns : goal.returns
returns c = lists-both c.fill.ensures c.min-most.ensures
