-- Runs of words with one more or one less. Each loop's invariant says that what is left to do still gives what was to
-- be made; so each loop has a law for a turn and one for its end.
-- Assumes nothing.
use mathlib.Core.Path.{◌≡◌, refl, ap, ◌∙◌}
use mathlib.Core.Bool.{Bool, true, false}
use mathlib.Core.List.{List, [], ◌∷◌, ◌++◌, append-nil}
use Prim.Native.Nat.{ℕ, zero, suc, ◌+◌, ◌-◌, ◌≤◌, ◌<◌, max}
use native.Mathlib.Numerals.{add-one}
use native.Mathlib.Omega.{arith}
use lib.Dec.{leb, ltb}
use lib.ListN.{length, take, get_or, set, drop_of_length-le}
use lib.Seq.{set-get_or}
use borrow.Author.Tests.{ltb-true, ltb-false, leb-true, leb-false}
use mir.Val.{bool_byte}
use Rattle.model.specs.Basics.{ins, del}

-- ---- one more, one less

module _ {A : Type 0} where
  -- Both loops store at each place: where nothing moves, a word over itself. The one word that is not wanted any more
  -- stands at the higher of `at` and `i`; what is left without it is the same before and after a turn.
  up_one : (xs : List A) (i : ℕ) (d : A) → suc i < length xs → del i (set xs (suc i) (get_or xs i d)) ≡ del (suc i) xs
  up_one [] i d h = absurd (omega arith)
  up_one (x ∷ []) i d h = absurd (omega arith)
  up_one (x ∷ y ∷ xs) zero d h = refl
  up_one (x ∷ y ∷ xs) (suc i) d h = ap (λ (r : List A). x ∷ r) (up_one (y ∷ xs) i d (omega arith))

  down-one : (xs : List A) (i : ℕ) (d : A) → suc i < length xs → del (suc i) (set xs i (get_or xs (suc i) d)) ≡ del i xs
  down-one [] i d h = absurd (omega arith)
  down-one (x ∷ []) i d h = absurd (omega arith)
  down-one (x ∷ y ∷ xs) zero d h = refl
  down-one (x ∷ y ∷ xs) (suc i) d h = ap (λ (r : List A). x ∷ r) (down-one (y ∷ xs) i d (omega arith))

  -- a turn of `push_in` and of `pull_out`
  pub up_turn : (xs : List A) (at i : ℕ) (d : A) → 0 < i → i < length xs
      → del (max at (i - 1)) (set xs i (get_or xs (i - bool_byte (ltb at i)) d)) ≡ del (max at i) xs
  up_turn xs at zero d some h = absurd (omega arith)
  up_turn xs at (suc i) d some h = go (ltb at (suc i)) refl
    where
      go : (b : Bool) → ltb at (suc i) ≡ b → del (max at (suc i - 1)) (set xs (suc i) (get_or xs (suc i - bool_byte b) d)) ≡ del (max at (suc i)) xs
      go true e =
          let below : at < suc i = ltb-true at (suc i) e in
          let before : suc i - 1 ≡ i = omega arith in
          let here : max at i ≡ i = omega arith in
          let there : max at (suc i) ≡ suc i = omega arith in
          rw (before, here, there) (up_one xs i d h)
      go false e =
          let above : suc i ≤ at = ltb-false at (suc i) e in
          let before : suc i - 0 ≡ suc i = omega arith in
          let same : max at (suc i - 1) ≡ max at (suc i) = omega arith in
          rw (before, same) (ap (del (max at (suc i))) (set-get_or xs (suc i) d))

  pub down_turn : (xs : List A) (at i : ℕ) (d : A) → i + 1 < length xs → del (max at (i + 1)) (set xs i (get_or xs (i + bool_byte (leb at i)) d)) ≡ del (max at i) xs
  down_turn xs at i d h = go (leb at i) refl
    where
      go : (b : Bool) → leb at i ≡ b → del (max at (i + 1)) (set xs i (get_or xs (i + bool_byte b) d)) ≡ del (max at i) xs
      go true e =
          let below : at ≤ i = leb-true at i e in
          let next : i + 1 ≡ suc i = add-one i in
          let here : max at i ≡ i = omega arith in
          let there : max at (suc i) ≡ suc i = omega arith in
          rw (next, here, there) (down-one xs i d (omega arith))
      go false e =
          let above : i < at = leb-false at i e in
          let stay : i + 0 ≡ i = omega arith in
          let same : max at (i + 1) ≡ max at i = omega arith in
          rw (stay, same) (ap (del (max at i)) (set-get_or xs i d))

  -- without the last
  pub del-last : (xs : List A) (i : ℕ) → length xs ≤ suc i → del i xs ≡ take i xs
  del-last xs i h = ap (λ (r : List A). take i xs ++ r) (drop_of_length-le xs h) ∙ append-nil (take i xs)

  -- a word stored: the one there is left out, and another is put in
  pub set-ins : (xs : List A) (i : ℕ) (v : A) → i < length xs → set xs i v ≡ ins i v (del i xs)
  set-ins [] i v h = absurd (omega arith)
  set-ins (x ∷ xs) zero v h = refl
  set-ins (x ∷ xs) (suc i) v h = ap (λ (r : List A). x ∷ r) (set-ins xs i v (omega arith))

  -- the first words with one more, or one less, come from the first words
  pub take-ins : (n : ℕ) (xs : List A) (i : ℕ) (v : A) → i ≤ n → take (suc n) (ins i v xs) ≡ ins i v (take n xs)
  take-ins n xs zero v hi = refl
  take-ins zero xs (suc i) v hi = absurd (omega arith)
  take-ins (suc n) [] (suc i) v hi = refl
  take-ins (suc n) (x ∷ xs) (suc i) v hi = ap (λ (r : List A). x ∷ r) (take-ins n xs i v (omega arith))

  pub take-del : (n : ℕ) (xs : List A) (i : ℕ) → i ≤ n → take n (del i xs) ≡ del i (take (suc n) xs)
  take-del n (x ∷ xs) zero hi = refl
  take-del zero [] zero hi = refl
  take-del (suc n) [] zero hi = refl
  take-del zero xs (suc i) hi = absurd (omega arith)
  take-del (suc n) [] (suc i) hi = refl
  take-del (suc n) (x ∷ xs) (suc i) hi = ap (λ (r : List A). x ∷ r) (take-del n xs i (omega arith))

-- what a test counts for
pub byte-most : (b : Bool) → bool_byte b ≤ 1
byte-most true = omega arith
byte-most false = omega arith
