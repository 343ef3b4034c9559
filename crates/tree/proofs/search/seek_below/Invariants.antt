-- `search::seek_below` meets its contract. The loop keeps what is left to do: the path from the page at hand, put
-- behind what is recorded, is the whole path.
use Prim.Native.Nat.{◌-◌}
use lib.ListN.{length}
use Rattle.tree.proofs.Seeking.{Rest}
use Rattle.tree.proofs.search.seek_below.Given as goal

abbrev pub invariant-loop-slot : goal.invariant-loop-slot
invariant-loop-slot l = Rest l.pool l.p l.aim l.initial.path l.at l.i l.path

abbrev pub decreases-loop-slot : goal.decreases-loop-slot
decreases-loop-slot l = length l.initial.path - l.i
