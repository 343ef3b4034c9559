-- How many words stand in front that pass a test: step by step, and by the mask of the words that pass, whose trailing
-- ones they are. Assumes nothing.
use mathlib.Core.Path.{◌≡◌, refl, sym, ap, ◌∙◌}
use mathlib.Core.Bool.{Bool, true, false, cond, ◌&&◌, ◌||◌}
use mathlib.Core.Logic.{◌≢◌}
use mathlib.Core.List.{List, [], ◌∷◌}
use Prim.Native.Nat.{ℕ, zero, suc, ◌+◌, ◌-◌, ◌*◌, ◌%◌, ◌^◌, ◌≤◌, ◌<◌, min}
use native.Mathlib.Numerals.{add-one}
use native.Mathlib.Omega.{arith}
use lib.Bits.{bit_or, or_lt}
use lib.Count.{count_trailing_zeros, trailing_le}
use lib.Dec.{ltb, eqb}
use lib.ListN.{length, take, drop, get_or, drop_of_length-le}
use lib.Seq.{drop-cons}
use borrow.Author.Tests.{lt-ltb, le-ltb, le-leb, lt-leb, eq-eqb, ne_eqb}
use mir.Val.{bool_byte}
use Rattle.model.specs.PageMap.{bit}
use Rattle.page.specs.Runs.{leading, up_to}
use Rattle.model.proofs.Cases.{either-eq, either-le, either_lt, same_self, same-other}
use Rattle.model.proofs.PageMap.{bit-zero}
use Rattle.model.proofs.Word.{bit-or, bit_not, bit-pow, shl_one, zeros-below, one_at}

-- the first n words
pub leading-take : (test : ℕ → Bool) (n : ℕ) (s : List ℕ) → leading test (take n s) ≡ min n (leading test s)
unfolding leading
leading-take test zero s = omega arith
leading-take test (suc n) [] = omega arith
leading-take test (suc n) (x ∷ xs) = go (test x) (leading-take test n xs)
  where
    go : (b : Bool) → leading test (take n xs) ≡ min n (leading test xs) → cond b (suc (leading test (take n xs))) 0 ≡ min (suc n) (cond b (suc (leading test xs)) 0)
    go true e = omega (arith, e)
    go false e = omega arith

-- ---- step by step: the words passed and the place in the rest make the place in all

leading_at : (test : ℕ → Bool) (s : List ℕ) (i : ℕ) → i < length s → leading test (drop i s) ≡ cond (test (get_or s i 0)) (suc (leading test (drop (suc i) s))) 0
unfolding leading
leading_at test s i h = ap (leading test) (drop-cons s i 0 h)

pub leading-here : (test : ℕ → Bool) (s : List ℕ) (i : ℕ) → i < length s → test (get_or s i 0) ≡ false → leading test (drop i s) ≡ 0
leading-here test s i h n = leading_at test s i h ∙ simp n

pub leading-past : (test : ℕ → Bool) (s : List ℕ) (i : ℕ) → i < length s → test (get_or s i 0) ≡ true → leading test (drop i s) ≡ suc (leading test (drop (i + 1) s))
leading-past test s i h y = rw add-one (leading_at test s i h ∙ simp y)

pub leading_end : (test : ℕ → Bool) (s : List ℕ) (i : ℕ) → length s ≤ i → leading test (drop i s) ≡ 0
unfolding leading
leading_end test s i h = rw drop_of_length-le refl

-- ---- by the mask

-- what the machine's tests say
pub stands-up-to : (k x : ℕ) (past : Bool) → (ltb x k || (past && eqb x k)) ≡ up_to k past x
stands-up-to k x false = either_lt x k (λ l. rw (lt-ltb x k l)) (λ g. rw (le-ltb x k g))
stands-up-to k x true =
    either_lt x k (λ l. rw (lt-ltb x k l, le-leb x k (omega arith)))
    (λ g. either-eq x k (λ e. rw (le-ltb x k g, eq-eqb x k e, le-leb x k (omega arith)))
    (λ ne. rw (le-ltb x k g, ne_eqb x k ne, lt-leb x k (omega arith))))

-- the mask of the first i words: bit j says whether word j passes
pub record Mask (test : ℕ → Bool) (s : List ℕ) (i mask : ℕ) : Type 0 where
  pub fits : mask < 2 ^ 64
  pub some : i ≤ length s
  pub told : (j : ℕ) → j < i → bit mask j ≡ bool_byte (test (get_or s j 0))
  pub rest : (j : ℕ) → i ≤ j → bit mask j ≡ 0

pub mask-none : (test : ℕ → Bool) (s : List ℕ) → Mask test s 0 0
mask-none test s = record { fits = omega arith; some = omega arith; told = λ j h. omega arith; rest = λ j h. bit-zero j }

-- one bit, moved to its place
bit-here : (b : Bool) (i : ℕ) → i < 64 → bit (bool_byte b * 2 ^ i % 2 ^ 64) i ≡ bool_byte b
bit-here true i h = rw (shl_one i h) (bit-pow i i ∙ same_self i)
bit-here false i h = let z : 0 * 2 ^ i % 2 ^ 64 ≡ 0 = omega arith in rw z (bit-zero i)

bit-elsewhere : (b : Bool) (i j : ℕ) → i < 64 → j ≢ i → bit (bool_byte b * 2 ^ i % 2 ^ 64) j ≡ 0
bit-elsewhere true i j h ne = rw (shl_one i h) (bit-pow i j ∙ same-other j i ne)
bit-elsewhere false i j h ne = let z : 0 * 2 ^ i % 2 ^ 64 ≡ 0 = omega arith in rw z (bit-zero j)

pub mask-on : (test : ℕ → Bool) (s : List ℕ) (i mask : ℕ) → i < length s → i < 64 → Mask test s i mask
    → Mask test s (i + 1) (bit_or mask (bool_byte (test (get_or s i 0)) * 2 ^ i % 2 ^ 64))
mask-on test s i mask h few m =
    let b : Bool = test (get_or s i 0) in
    let y : ℕ = bool_byte b * 2 ^ i % 2 ^ 64 in
    record {
      fits = or_lt 64 mask y m.fits (omega arith);
      some = omega arith;
      told = λ j l. either-eq j i (λ e. rw e (bit-or mask y i ∙ omega (arith, m.rest i (omega arith), bit-here b i few)))
          (λ ne. bit-or mask y j ∙ omega (arith, m.told j (omega arith), bit-elsewhere b i j few ne));
      rest = λ j l. bit-or mask y j ∙ omega (arith, m.rest j (omega arith), bit-elsewhere b i j few (omega arith));
    }

byte-true : (b : Bool) → bool_byte b ≡ 1 → b ≡ true
byte-true true e = refl
byte-true false e = absurd (omega (arith, e))

byte-false : (b : Bool) → bool_byte b ≡ 0 → b ≡ false
byte-false true e = absurd (omega (arith, e))
byte-false false e = refl

-- the place is told by the words before it, which pass, and the word there, which does not
leading-is : (test : ℕ → Bool) (s : List ℕ) (n : ℕ) → n ≤ length s → ((j : ℕ) → j < n → test (get_or s j 0) ≡ true) → (n < length s → test (get_or s n 0) ≡ false)
    → n ≡ leading test s
unfolding leading
leading-is test [] n h pass fail = omega arith
leading-is test (x ∷ xs) zero h pass fail = rw (fail (omega arith))
leading-is test (x ∷ xs) (suc n) h pass fail =
    rw (pass 0 (omega arith)) (ap suc (leading-is test xs n (omega arith) (λ j l. pass (suc j) (omega arith)) (λ l. fail (omega arith))))

pub mask-leading : (test : ℕ → Bool) (s : List ℕ) (i mask : ℕ) → length s < 64 → length s ≤ i → Mask test s i mask
    → count_trailing_zeros 64 (2 ^ 64 - 1 - mask) ≡ leading test s
mask-leading test s i mask few end m =
    let n : ℕ = count_trailing_zeros 64 (2 ^ 64 - 1 - mask) in
    let most : n ≤ 64 = trailing_le 64 (2 ^ 64 - 1 - mask) in
    let one : (j : ℕ) → j < n → bit mask j ≡ 1 = λ j l. omega (arith, bit_not 64 mask j m.fits (omega arith), zeros-below 64 (2 ^ 64 - 1 - mask) j l) in
    let long : n ≤ length s = either-le n (length s) (λ l. l) (λ far. absurd (omega (arith, one (length s) far, m.rest (length s) (omega (arith, m.some))))) in
    leading-is test s n long (λ j l. byte-true _ (sym (m.told j (omega arith)) ∙ one j l))
    (λ l. byte-false _ (sym (m.told n (omega arith)) ∙ omega (arith, bit_not 64 mask n m.fits (omega arith), one_at 64 (2 ^ 64 - 1 - mask) (omega arith))))
