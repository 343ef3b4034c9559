-- `remove::remove_along` meets its contract: at each place of the path, what is done is what a removal below that place
-- does; where it stops, nothing is left to do above.
use Rattle.std.proofs.Common.{◌-◌, suc, length, drop}
use Rattle.tree.specs.Sits.{pages_of, slots_of}
use Rattle.tree.specs.Remove.{RemovesBelow}
use Rattle.tree.proofs.remove.remove_along.Given as goal

abbrev pub invariant-loop-spot : goal.invariant-loop-spot
invariant-loop-spot l =
    let i = length l.path - suc (length l.yielded) in
    RemovesBelow l.fn.pool (drop i (pages_of l.path)) (drop i (slots_of l.path)) l.pool l.gone
