-- `pagemap::has_free` meets its contract. The loop's invariant: of the pages passed, so many as counted are free and
-- the others' bits are 1.
use mathlib.Core.Path.{◌≡◌}
use Prim.Native.Nat.{◌+◌, ◌*◌, min}
use Rattle.model.specs.Sums.{sum_to}
use Rattle.model.specs.PageMap.{bit_at}
use Rattle.pagemap.proofs.has_free.Given as goal

abbrev pub invariant-loop-w : goal.invariant-loop-w
invariant-loop-w l = l.free + sum_to (bit_at l.map) (min (64 * l.w) l.pages) ≡ min (64 * l.w) l.pages
