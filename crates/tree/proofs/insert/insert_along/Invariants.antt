-- `insert::insert_along` meets its contract: at each place of the path, what is handed up is what an insertion below
-- that place hands up.
use Rattle.std.specs.Prelude.{Some}
use Rattle.std.proofs.Common.{◌-◌, length, drop}
use Rattle.tree.specs.Sits.{pages_of, slots_of}
use Rattle.tree.specs.Insert.{InsertsBelow}
use Rattle.tree.proofs.insert.insert_along.Given as goal
use Rattle.page.specs.Page.{plain}

abbrev pub invariant-loop-spot : goal.invariant-loop-spot
invariant-loop-spot l =
    let i = length l.path - length l.yielded in
    InsertsBelow l.initial.pool (drop i (pages_of l.path)) (drop i (slots_of l.path)) (plain l.fn.entry) l.pool (Some l.up)
