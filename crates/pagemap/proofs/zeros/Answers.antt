-- `pagemap::zeros` meets its contract: the ones of the word, or of its part under the mask, are the sum of those bits.
use mathlib.Core.Path.{◌≡◌}
use Prim.Native.Nat.{◌-◌, ◌*◌, ◌%◌, ◌^◌, ◌≤◌, min}
use native.Mathlib.Omega.{arith}
use lib.Bits.{bit_and}
use lib.Count.{ones, ones-le}
use lib.Pow.{pow_pos}
use Rattle.model.specs.Sums.{sum_to}
use Rattle.model.specs.PageMap.{bit}
use Rattle.model.proofs.Sums.{sum_to-le}
use Rattle.model.proofs.PageMap.{bit-lt}
use Rattle.model.proofs.Word.{shl_one, ones-sum, ones_low, ones-full}
use Rattle.pagemap.proofs.zeros.Goals as goal
use Rattle.pagemap.proofs.zeros.Goals.{Start, Then-n-lt64}

-- the sum of n bits is n at most
few : (c : Start) → sum_to (bit c.args.word) c.args.n ≤ c.args.n
few c = sum_to-le (bit c.args.word) c.args.n (λ b. omega (arith, bit-lt c.args.word b))

low : (c : Then-n-lt64) → ones (bit_and c.args.word (1 * 2 ^ c.args.n % 2 ^ 64 - 1))
    ≡ sum_to (bit c.args.word) c.args.n
low c = ones_low c.args.word c.args.n c.if-n-lt64.true

all : (c : Start) → ones c.args.word ≤ 64
all c = ones-le 64 c.args.word c.ranges.word.fits

pub overflow_sub-result : goal.overflow_sub-result
overflow_sub-result c = omega (arith, shl_one c.args.n (omega arith), pow_pos c.args.n)

pub overflow_cast-result : goal.overflow_cast-result
overflow_cast-result c = omega (arith, low c, few (goal.at.overflow_cast-result c).Start)

pub overflow_sub-result-then-n-lt64 : goal.overflow_sub-result-then-n-lt64
overflow_sub-result-then-n-lt64 c = omega (arith, low c, few (goal.at.overflow_sub-result-then-n-lt64 c).Start)

pub overflow_cast-result-else-n-lt64 : goal.overflow_cast-result-else-n-lt64
overflow_cast-result-else-n-lt64 c = omega (arith, all (goal.at.overflow_cast-result-else-n-lt64 c).Start)

pub overflow_sub-result-else-n-lt64 : goal.overflow_sub-result-else-n-lt64
overflow_sub-result-else-n-lt64 c = all (goal.at.overflow_sub-result-else-n-lt64 c).Start

pub returns-then-word-eq18446744073709551615 : goal.returns-then-word-eq18446744073709551615
returns-then-word-eq18446744073709551615 c = rw c.if-word-eq18446744073709551615.true (omega (arith, ones-full 64 (min c.args.n 64) (omega arith)))

pub returns-then-n-lt64 : goal.returns-then-n-lt64
returns-then-n-lt64 c =
    let m : min c.args.n 64 ≡ c.args.n = omega arith in
    rw m (omega (arith, low c, few (goal.at.returns-then-n-lt64 c).Start))

pub returns-else-n-lt64 : goal.returns-else-n-lt64
returns-else-n-lt64 c =
    let m : min c.args.n 64 ≡ 64 = omega arith in
    rw m (omega (arith, ones-sum 64 c.args.word c.ranges.word.fits, all (goal.at.returns-else-n-lt64 c).Start))
