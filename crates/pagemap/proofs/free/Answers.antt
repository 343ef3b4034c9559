-- `pagemap::free` meets its contract: `map[w] & !(1 << b)` is the definition's word, and past the words nothing
-- changes.
use mathlib.Core.Path.{sym, ap}
use Prim.Native.Nat.{ℕ, ◌-◌, ◌%◌, ◌/◌, ◌^◌}
use native.Mathlib.Omega.{arith}
use lib.Bits.{bit_and}
use lib.ListN.{set}
use lib.Seq.{set_out}
use Rattle.model.specs.Layout.{word}
use Rattle.pagemap.specs.Bits.{clear_bit}
use Rattle.model.proofs.Word.{shl_one}
use Rattle.pagemap.proofs.free.Goals as goal

pub returns-then-w-map : goal.returns-then-w-map
unfolding clear_bit
returns-then-w-map c =
    let a = c.args in
    ap (λ (one : ℕ). set a.map.now (a.page / 64) (bit_and (word a.map.now (a.page / 64)) (2 ^ 64 - 1 - one))) (shl_one (a.page % 64) (omega arith))

pub returns-else-w-map : goal.returns-else-w-map
unfolding clear_bit
returns-else-w-map c = sym (set_out c.args.map.now (c.args.page / 64) _ c.if-w-map.false)
