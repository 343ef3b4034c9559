-- `list::keys_of` writes the keys of a pool between two bounds: the values go into a slice of no length. Assumes
-- nothing.
use mathlib.Core.Path.{refl}
use Rattle.map.proofs.Spanning.{lists-keys}
use Rattle.map.proofs.list.keys_of.Goals as goal

pub returns : goal.returns
returns c = lists-keys c.fill.ensures refl
