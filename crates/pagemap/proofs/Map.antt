-- Laws of the map's bits, and what the loops learn of one word of it.
-- Assumes nothing.
use mathlib.Core.Path.{◌≡◌, sym, ap, ◌∙◌}
use mathlib.Core.Logic.{◌≢◌}
use mathlib.Core.List.{List}
use Prim.Native.Nat.{ℕ, ◌+◌, ◌-◌, ◌*◌, ◌/◌, ◌%◌, ◌^◌, ◌≤◌, ◌<◌, min}
use native.Mathlib.Omega.{arith}
use lib.Bits.{bit_and, bit_or}
use lib.Count.{ones, count_trailing_zeros, trailing_le}
use lib.ListN.{length, set, length-set}
use lib.Pow.{pow-lt}
use lib.Seq.{get_or-set_same, get_or-set_other}
use Rattle.model.specs.Basics.{same}
use Rattle.model.specs.Sums.{sum_to}
use Rattle.model.specs.Layout.{word}
use Rattle.model.specs.PageMap.{bit, bit_at}
use Rattle.pagemap.specs.Bits.{count_bits, set_bit, clear_bit}
use Rattle.pagemap.specs.Lowest.{free_in}
use Rattle.model.proofs.Cases.{either_lt, either-eq, same-eq, same-other, same-le}
use Rattle.model.proofs.Sums.{sum_to-ext, sum_to-add, sum_to-le, sum_to-tight}
use Rattle.model.proofs.PageMap.{bit_at_lt, bit_at-word, bit_at-past, free-count}
use Rattle.model.proofs.Word.{bit-or, bit-and, bit_not, bit-pow, zeros-below, one_at, ones-sum}

-- ---- one word is changed

-- pages of one word are equal where their places in it are
same_place : (p q : ℕ) → p / 64 ≡ q / 64 → same (p % 64) (q % 64) ≡ same p q
same_place p q e =
    either-eq p q
    (λ s. same-eq (p % 64) (q % 64) (ap (λ (x : ℕ). x % 64) s) ∙ sym (same-eq p q s))
    (λ n. same-other (p % 64) (q % 64) (omega arith) ∙ sym (same-other p q n))

-- the bit of page q in the word that has page p's bit alone
one_bit : (p q : ℕ) → p / 64 ≡ q / 64 → bit (2 ^ (p % 64)) (q % 64) ≡ same q p
one_bit p q e = bit-pow (p % 64) (q % 64) ∙ same_place q p (sym e)

-- word i made v: the bits of its pages are v's, and every other bit stays
set_word : (words : List ℕ) (i q v x : ℕ) → i < length words → (i ≡ q / 64 → bit v (q % 64) ≡ x) → (i ≢ q / 64 → bit_at words q ≡ x)
    → bit_at (set words i v) q ≡ x
unfolding bit_at
set_word words i q v x h here other =
    either-eq i (q / 64)
    (λ e. rw (← e, get_or-set_same words i v 0) (here e))
    (λ ne. rw (get_or-set_other words i (q / 64) v 0 (λ e. ne (sym e))) (other ne))

bit-here : (words : List ℕ) (i q : ℕ) → i ≡ q / 64 → bit (word words i) (q % 64) ≡ bit_at words q
unfolding bit_at
bit-here words i q e = rw e

module _ (words : List ℕ) (p : ℕ) where
  pub set_long : length (set_bit words p) ≡ length words
  unfolding set_bit
  set_long = length-set words (p / 64) _

  pub clear-long : length (clear_bit words p) ≡ length words
  unfolding clear_bit
  clear-long = length-set words (p / 64) _

  -- a free page is taken: it alone is taken besides
  pub set-bits : p / 64 < length words → bit_at words p ≡ 0 → (q : ℕ) → bit_at (set_bit words p) q ≡ bit_at words q + same q p
  unfolding set_bit
  set-bits h z q =
      let w = word words (p / 64) in
      let once : bit_at words q + same q p ≤ 1 =
      either-eq q p (λ e. omega (arith, ap (bit_at words) e, same-le q p)) (λ ne. omega (arith, bit_at_lt words q, same-other q p ne)) in
      set_word words (p / 64) q (bit_or w (2 ^ (p % 64))) (bit_at words q + same q p) h
      (λ e. bit-or w (2 ^ (p % 64)) (q % 64) ∙ omega (arith, bit-here words (p / 64) q e, one_bit p q e))
      (λ ne. omega (arith, same-other q p (omega arith)))

  -- a taken page is freed: it alone is free besides
  pub clear-bits : p / 64 < length words → bit_at words p ≡ 1 → (q : ℕ) → bit_at (clear_bit words p) q + same q p ≡ bit_at words q
  unfolding clear_bit
  clear-bits h o q =
      let w = word words (p / 64) in
      let most : same q p ≤ bit_at words q = either-eq q p (λ e. omega (arith, ap (bit_at words) e, same-le q p)) (λ ne. omega (arith, same-other q p ne)) in
      let cleared : bit_at (set words (p / 64) (bit_and w (2 ^ 64 - 1 - 2 ^ (p % 64)))) q ≡ bit_at words q - same q p =
      set_word words (p / 64) q (bit_and w (2 ^ 64 - 1 - 2 ^ (p % 64))) (bit_at words q - same q p) h
      (λ e. bit-and w (2 ^ 64 - 1 - 2 ^ (p % 64)) (q % 64)
      ∙ omega (
        arith,
        bit-here words (p / 64) q e,
        bit_at_lt words q,
        one_bit p q e,
        bit_not 64 (2 ^ (p % 64)) (q % 64) (pow-lt {j = 64} (omega arith)) (omega arith),
      ))
      (λ ne. omega (arith, same-other q p (omega arith))) in
      omega arith

-- ---- sums of bits

pub bit_at-le : (words : List ℕ) (p : ℕ) → bit_at words p ≤ 1
bit_at-le words p = omega (arith, bit_at_lt words p)

-- pages met at most as often as their bits say, and as many in all as bits are set, are met just as their bits say
pub met-exactly : (words : List ℕ) (f : ℕ → ℕ) → ((q : ℕ) → f q ≤ bit_at words q) → sum_to f (64 * length words) ≡ count_bits words
    → (q : ℕ) → f q ≡ bit_at words q
unfolding count_bits
met-exactly words f le e q =
    either_lt q (64 * length words) (sum_to-tight f (bit_at words) (64 * length words) le e q) (λ l. omega (arith, le q, bit_at-past words q l))

-- of the first n pages not more are free than of all
pub free_part : (words : List ℕ) (P n : ℕ) → n ≤ P → n ≤ length (free_in words P) + sum_to (bit_at words) n
free_part words P n h =
    let e : P ≡ n + (P - n) = omega arith in
    omega (
      arith,
      free-count (bit_at words) P (bit_at-le words),
      ap (sum_to (bit_at words)) e,
      sum_to-add (bit_at words) n (P - n),
      sum_to-le (λ i. bit_at words (n + i)) (P - n) (λ i. bit_at-le words (n + i)),
    )

-- ---- what the loops learn of word i

module _ (words : List ℕ) (i : ℕ) where
  -- the sum with its lowest n bits
  pub sum-part : (n : ℕ) → n ≤ 64 → sum_to (bit_at words) (64 * i + n) ≡ sum_to (bit_at words) (64 * i) + sum_to (bit (word words i)) n
  sum-part n h =
      sum_to-add (bit_at words) (64 * i) n
      ∙ ap (λ (x : ℕ). sum_to (bit_at words) (64 * i) + x)
      (sum_to-ext (λ b. bit_at words (64 * i + b)) (bit (word words i)) n (λ b l. bit_at-word words i b (omega arith)))

  -- with all of them
  pub sum-word : word words i < 2 ^ 64 → sum_to (bit_at words) (64 * (i + 1)) ≡ sum_to (bit_at words) (64 * i) + ones (word words i)
  sum-word fits =
      let e : 64 * (i + 1) ≡ 64 * i + 64 = omega arith in
      rw (e, ones-sum 64 (word words i) fits) (sum-part 64 (omega arith))

-- of P pages, those of the words before and those of word i
pub free-next : (words : List ℕ) (i P n m : ℕ) → 64 * i < P → n + sum_to (bit_at words) (min (64 * i) P) ≡ min (64 * i) P
    → m + sum_to (bit (word words i)) (min (P - 64 * i) 64) ≡ min (P - 64 * i) 64
    → n + m + sum_to (bit_at words) (min (64 * (i + 1)) P) ≡ min (64 * (i + 1)) P
free-next words i P n m h before here =
    let a : min (64 * i) P ≡ 64 * i = omega arith in
    let b : min (64 * (i + 1)) P ≡ 64 * i + min (P - 64 * i) 64 = omega arith in
    rw b (omega (arith, rw a at before, sum-part words i (min (P - 64 * i) 64) (omega arith)))

module _ (words : List ℕ) (i : ℕ) (fits : word words i < 2 ^ 64) where
  -- where all bits of the words before are 1, all bits up to the lowest 0 of this word are
  pub full-to : ((q : ℕ) → q < 64 * i → bit_at words q ≡ 1) → (q : ℕ) → q < 64 * i + count_trailing_zeros 64 (2 ^ 64 - 1 - word words i) → bit_at words q ≡ 1
  full-to before q h = either_lt q (64 * i) (before q) (λ l. here (q - 64 * i) (omega arith) (omega arith))
    where
      here : (b : ℕ) → q ≡ 64 * i + b → b < count_trailing_zeros 64 (2 ^ 64 - 1 - word words i) → bit_at words q ≡ 1
      here b e l =
          let m : b < 64 = omega (arith, trailing_le 64 (2 ^ 64 - 1 - word words i)) in
          ap (bit_at words) e ∙ bit_at-word words i b m
          ∙ omega (arith, zeros-below 64 (2 ^ 64 - 1 - word words i) b l, bit_not 64 (word words i) b fits m)

  -- and that bit is 0
  pub free-there : count_trailing_zeros 64 (2 ^ 64 - 1 - word words i) < 64 → bit_at words (64 * i + count_trailing_zeros 64 (2 ^ 64 - 1 - word words i)) ≡ 0
  free-there h =
      let b = count_trailing_zeros 64 (2 ^ 64 - 1 - word words i) in
      bit_at-word words i b h ∙ omega (arith, one_at 64 (2 ^ 64 - 1 - word words i) h, bit_not 64 (word words i) b fits h)
