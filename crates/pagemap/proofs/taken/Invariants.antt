-- `pagemap::taken` meets its contract. The loop's invariant: the count is the sum of the bits of the words passed.
use mathlib.Core.Path.{◌≡◌}
use Prim.Native.Nat.{◌*◌}
use Rattle.model.specs.Sums.{sum_to}
use Rattle.model.specs.PageMap.{bit_at}
use Rattle.pagemap.proofs.taken.Given as goal

abbrev pub invariant-loop-word : goal.invariant-loop-word
invariant-loop-word l = l.n ≡ sum_to (bit_at l.map) (64 * l.word-index)
