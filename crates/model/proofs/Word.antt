-- Laws of the bits of one word under the machine's operations, and of its count of ones.
-- Assumes nothing.
use mathlib.Core.Path.{◌≡◌, refl, sym, ap₂, ◌∙◌}
use Prim.Native.Nat.{ℕ, zero, suc, ◌+◌, ◌-◌, ◌*◌, ◌/◌, ◌%◌, ◌^◌, ◌≤◌, ◌<◌, min, max}
use native.Mathlib.Nat.{pow-suc, one-mul}
use native.Mathlib.Omega.{arith}
use lib.Arith.{digits_mod}
use lib.Bits.{bit_and, bit_or, or_shr, or_step, and_shr, and_step, mask_lt}
use lib.Count.{ones, ones_step, ones-le, count_trailing_zeros, under}
use lib.Pow.{pow_pos, shl_exact}
use Rattle.model.specs.Basics.{same}
use Rattle.model.specs.Sums.{sum_to}
use Rattle.model.specs.PageMap.{bit}
use Rattle.model.proofs.Cases.{either-eq, same_self, same-eq, same-other}
use Rattle.model.proofs.Sums.{sum_to-ext, sum_to-front}
use Rattle.model.proofs.PageMap.{bit-lt, bit-low, bit-suc, bit-zero}

-- ---- the machine's operations, bit by bit

pub bit-or : (x y b : ℕ) → bit (bit_or x y) b ≡ max (bit x b) (bit y b)
unfolding bit
bit-or x y b = rw (or_shr x y b, or_step (x / 2 ^ b) (y / 2 ^ b)) (digits_mod _ (omega arith))

pub bit-and : (x y b : ℕ) → bit (bit_and x y) b ≡ min (bit x b) (bit y b)
unfolding bit
bit-and x y b = rw (and_shr x y b, and_step (x / 2 ^ b) (y / 2 ^ b)) (digits_mod _ (omega arith))

-- `!x` on k bits
pub bit_not : (k x b : ℕ) → x < 2 ^ k → b < k → bit (2 ^ k - 1 - x) b + bit x b ≡ 1
bit_not zero x b h l = omega arith
bit_not (suc k) x zero h l = simp bit-low (omega (arith, pow-suc 2 k))
bit_not (suc k) x (suc b) h l =
    let e : (2 ^ suc k - 1 - x) / 2 ≡ 2 ^ k - 1 - x / 2 = omega (arith, pow-suc 2 k, pow_pos k) in
    rw (bit-suc (2 ^ suc k - 1 - x) b, bit-suc x b, e) (bit_not k (x / 2) b (omega (arith, pow-suc 2 k)) (omega arith))

-- k ones
pub bit-ones : (k b : ℕ) → b < k → bit (2 ^ k - 1) b ≡ 1
bit-ones k b h =
    let e : 2 ^ k - 1 - 0 ≡ 2 ^ k - 1 = omega arith in
    omega (arith, rw e at (bit_not k 0 b (pow_pos k) h), bit-zero b)

-- `1 << c`, and its one bit
pub shl_one : (b : ℕ) → b < 64 → 1 * 2 ^ b % 2 ^ 64 ≡ 2 ^ b
shl_one b h = shl_exact {a = 1} 1 b 64 (omega arith) (omega arith) ∙ one-mul (2 ^ b)

same-suc : (p q : ℕ) → same (suc p) (suc q) ≡ same p q
same-suc p q =
    either-eq p q (λ e. same-eq (suc p) (suc q) (omega arith) ∙ sym (same-eq p q e))
    (λ ne. same-other (suc p) (suc q) (omega arith) ∙ sym (same-other p q ne))

pub bit-pow : (c b : ℕ) → bit (2 ^ c) b ≡ same b c
bit-pow zero zero = bit-low 1 ∙ sym (same_self 0)
bit-pow zero (suc b) = bit-suc 1 b ∙ bit-zero b ∙ sym (same-other (suc b) 0 (omega arith))
bit-pow (suc c) zero = bit-low (2 ^ suc c) ∙ omega (arith, pow-suc 2 c, same-other 0 (suc c) (omega arith))
bit-pow (suc c) (suc b) =
    let e : 2 ^ suc c / 2 ≡ 2 ^ c = omega (arith, pow-suc 2 c) in
    bit-suc (2 ^ suc c) b ∙ rw e (bit-pow c b) ∙ sym (same-suc b c)

-- ---- the count of trailing zeros: below it the bits are 0, and it is the place of a bit that is 1, or k where there is none

pub zeros-below : (k y b : ℕ) → b < count_trailing_zeros k y → bit y b ≡ 0
unfolding count_trailing_zeros
zeros-below zero y b h = omega arith
zeros-below (suc k) y b h = go b (y % 2) refl h (λ c. zeros-below k (y / 2) c)
  where
    go : (c r : ℕ) → y % 2 ≡ r → c < under r (count_trailing_zeros k (y / 2)) → ((c : ℕ) → c < count_trailing_zeros k (y / 2) → bit (y / 2) c ≡ 0) → bit y c ≡ 0
    go zero zero e l ih = bit-low y ∙ e
    go (suc c) zero e l ih = bit-suc y c ∙ ih c (omega arith)
    go c (suc r) e l ih = omega arith

pub one_at : (k y : ℕ) → count_trailing_zeros k y < k → bit y (count_trailing_zeros k y) ≡ 1
unfolding count_trailing_zeros
one_at zero y h = omega arith
one_at (suc k) y h = go (y % 2) refl h (one_at k (y / 2))
  where
    go : (r : ℕ) → y % 2 ≡ r → under r (count_trailing_zeros k (y / 2)) < suc k
        → (count_trailing_zeros k (y / 2) < k → bit (y / 2) (count_trailing_zeros k (y / 2)) ≡ 1) → bit y (under r (count_trailing_zeros k (y / 2))) ≡ 1
    go zero e l ih = bit-suc y (count_trailing_zeros k (y / 2)) ∙ ih (omega arith)
    go (suc r) e l ih = bit-low y ∙ omega arith

-- ---- the count of ones

-- of a number of k bits
pub ones-sum : (k x : ℕ) → x < 2 ^ k → ones x ≡ sum_to (bit x) k
unfolding sum_to
ones-sum zero x h = omega (arith, ones-le 0 x h)
ones-sum (suc k) x h =
    ones_step x ∙ ap₂ (λ (a b : ℕ). a + b) (sym (bit-low x))
    (ones-sum k (x / 2) (omega (arith, pow-suc 2 k)) ∙ sum_to-ext (bit (x / 2)) (λ i. bit x (suc i)) k (λ i l. sym (bit-suc x i)))
    ∙ sym (sum_to-front (bit x) k)

-- of the lowest k bits of a word: `x & ((1 << k) - 1)`
pub ones_low : (x k : ℕ) → k < 64 → ones (bit_and x (1 * 2 ^ k % 2 ^ 64 - 1)) ≡ sum_to (bit x) k
ones_low x k h =
    rw (shl_one k h)
    (ones-sum k (bit_and x (2 ^ k - 1)) (mask_lt x k)
    ∙ sum_to-ext (bit (bit_and x (2 ^ k - 1))) (bit x) k (λ b l. bit-and x (2 ^ k - 1) b ∙ omega (arith, bit-lt x b, bit-ones k b l)))

-- of a word that is full, below n of its bits
pub ones-full : (k n : ℕ) → n ≤ k → sum_to (bit (2 ^ k - 1)) n ≡ n
unfolding sum_to
ones-full k zero h = refl
ones-full k (suc n) h = omega (arith, ones-full k n (omega arith), bit-ones k n (omega arith))
