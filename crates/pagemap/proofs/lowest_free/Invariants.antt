-- `pagemap::lowest_free` meets its contract. The loop's invariant: every bit of the words passed is 1.
use mathlib.Core.Path.{◌≡◌}
use Prim.Native.Nat.{ℕ, ◌*◌, ◌<◌}
use Rattle.model.specs.PageMap.{bit_at}
use Rattle.pagemap.proofs.lowest_free.Given as goal

abbrev pub invariant-loop-w : goal.invariant-loop-w
invariant-loop-w l = (q : ℕ) → q < 64 * l.w → bit_at l.map q ≡ 1
