-- `list::values` writes the values of a map between two bounds: the keys go into a slice of no length.
use mathlib.Core.Path.{refl}
use Rattle.map.proofs.Spanning.{lists-values}
use Rattle.map.proofs.list.values.Goals as goal

pub returns : goal.returns
returns c = lists-values c.fill.ensures refl
