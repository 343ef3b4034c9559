-- `pagemap::lowest_free` meets its contract. The loop's invariant: every bit of the words passed is 1.
use mathlib.Core.Path.{◌≡◌, sym}
use Prim.Native.Nat.{ℕ, ◌+◌, ◌-◌, ◌*◌, ◌^◌, ◌<◌}
use native.Mathlib.Omega.{arith}
use lib.Count.{count_trailing_zeros, trailing_le}
use lib.ListN.{get_or}
use Rattle.model.specs.PageMap.{bit_at}
use Rattle.pagemap.proofs.Map.{full-to, free-there}
use Rattle.pagemap.proofs.Taking.{lowest-page, lowest-none}
use Rattle.pagemap.proofs.lowest_free.Goals as goal
use Rattle.pagemap.proofs.lowest_free.Goals.{In-loop-w}

-- the word read, and what its trailing ones say
abbrev word : In-loop-w → ℕ
word c = get_or c.args.map.now c.loop-w.w 0

fits : (c : In-loop-w) → word c < 2 ^ 64
fits c = (c.type_inv.map c.loop-w.w).fits

full : (c : In-loop-w) (q : ℕ) → q < 64 * c.loop-w.w + count_trailing_zeros 64 (2 ^ 64 - 1 - word c) → bit_at c.args.map.now q ≡ 1
full c = full-to c.args.map.now c.loop-w.w (fits c) c.loop-w.invariant

pub overflow_cast-b : goal.overflow_cast-b
overflow_cast-b c = omega (arith, trailing_le 64 (2 ^ 64 - 1 - word (goal.at.overflow_cast-b c).In-loop-w))

pub returns-then-p-pages : goal.returns-then-p-pages
returns-then-p-pages c = let here = (goal.at.returns-then-p-pages c).In-loop-w in sym (lowest-page _ _ _ (omega arith) (free-there _ _ (fits here) c.if-b-lt64.true) (full here))

pub returns-else-p-pages : goal.returns-else-p-pages
returns-else-p-pages c = sym (lowest-none _ _ (λ q h. full (goal.at.returns-else-p-pages c).In-loop-w q (omega arith)))

pub loop-w-preserved : goal.loop-w-preserved
loop-w-preserved c q h = full (goal.at.loop-w-preserved c).In-loop-w q (omega arith)

pub returns : goal.returns
returns c = sym (lowest-none _ _ (λ q h. c.loop-w.invariant q (omega arith)))
