-- `remove::can_remove` meets its contract: a neighbour that is not sound is none of a tree that sits in the pool.
use Rattle.std.proofs.Common.{◌-◌, arith}
use Rattle.tree.specs.Sits.{pages_of, slots_of}
use Rattle.tree.proofs.Neighbours.{can-refuse}
use Rattle.tree.proofs.Paths.{pages-long, page-of, slot-of, spot-at}
use Rattle.tree.proofs.remove.can_remove.Goals as goal
use Rattle.tree.specs.declared.steps.Spot.{Spot}

pub count-requires : goal.count-requires
count-requires c = (spot-at c.args.pool.now c.args.path.now c.requires.path_in (c.loop-i.i - 1) _ (omega arith)).0

pub beside-requires : goal.beside-requires
beside-requires c =
    let a = spot-at c.args.pool.now c.args.path.now c.requires.path_in (c.loop-i.i - 1 - 1) _ (omega arith) in
    (c.requires.today_in_bounds, a.0, a.1)

pub returns-then-not-beside : goal.returns-then-not-beside
returns-then-not-beside c =
    let path = c.args.path.now in
    let j = c.loop-i.i - 1 - 1 in
    let none : Spot = record { page = 0; slot = 0 } in
    can-refuse c.args.pool.now (pages_of path) (slots_of path) j (omega (arith, pages-long path))
    (rw (page-of path j none (omega arith), slot-of path j none (omega arith)) (rw c.if-not-beside.true at c.beside.ensures))
