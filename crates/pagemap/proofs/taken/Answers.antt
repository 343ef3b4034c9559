-- `pagemap::taken` meets its contract. The loop's invariant: the count is the sum of the bits of the words passed.
use mathlib.Core.Path.{◌≡◌}
use Prim.Native.Nat.{◌*◌}
use native.Mathlib.Omega.{arith}
use lib.Count.{ones-le}
use lib.ListN.{length, get_or}
use Rattle.model.specs.Sums.{sum_to}
use Rattle.model.specs.PageMap.{bit_at}
use Rattle.model.proofs.Sums.{sum_to-le}
use Rattle.pagemap.proofs.Map.{bit_at-le, sum-word}
use Rattle.pagemap.specs.Bits.{count_bits}
use Rattle.pagemap.proofs.taken.Goals as goal

pub loop-word-init : goal.loop-word-init
unfolding sum_to
loop-word-init c = omega arith

pub overflow_add-n : goal.overflow_add-n
overflow_add-n c =
    let map = c.args.map.now in
    let i = c.loop-word in
    omega (arith, ones-le 64 (get_or map i.word-index 0) (c.type_inv.map i.word-index).fits, sum_to-le (bit_at map) (64 * i.word-index) (bit_at-le map))

pub loop-word-preserved : goal.loop-word-preserved
loop-word-preserved c =
    let map = c.args.map.now in
    let i = c.loop-word.word-index in
    omega (arith, sum-word map i (c.type_inv.map i).fits)

pub returns : goal.returns
unfolding count_bits
returns c =
    let e : c.loop-word.word-index ≡ length c.args.map.now = omega arith in
    rw (← e) c.loop-word.invariant
