-- `head::levels` meets its contract: a head that fits has at most six levels.
use mathlib.Core.Path.{refl}
use native.Mathlib.Omega.{arith}
use Rattle.model.specs.Head.{geometry_of}
use Rattle.model.proofs.Head.{head-facts}
use Rattle.lend.proofs.head.levels.Goals as goal

pub bounds-pool-4 : goal.bounds-pool-4
unfolding geometry_of
bounds-pool-4 c = let f = head-facts _ c.requires in omega (arith, f.long, f.some)

pub returns : goal.returns
unfolding geometry_of
returns c = (refl, (head-facts _ c.requires).levels)
