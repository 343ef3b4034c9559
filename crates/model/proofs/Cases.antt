-- Cases on numbers, with no motive to write: the goal is proved from each of the two.
-- And what is known of `same`, the 1 or 0 by which pages are counted.
-- Assumes nothing.
use mathlib.Core.Path.{◌≡◌, refl, sym, ◌∙◌}
use mathlib.Core.Bool.{Bool, true, false, true≢false}
use mathlib.Core.Logic.{◌⊎◌, inl, inr, ◌≢◌}
use Prim.Native.Nat.{ℕ, zero, suc, ◌≤◌, ◌<◌}
use native.Mathlib.Omega.{arith}
use lib.Dec.{leb, ltb, eqb}
use borrow.Author.Tests.{leb-true, leb-false, ltb-true, ltb-false, eqb-true, eqb-false, eq-eqb, ne_eqb}
use Rattle.model.specs.Basics.{same}

module _ {ℓ} {C : Type ℓ} where
  pub either-le : (a b : ℕ) → (a ≤ b → C) → (b < a → C) → C
  either-le a b yes-case no-case = go (leb a b) refl
    where
      go : (t : Bool) → leb a b ≡ t → C
      go true e = yes-case (leb-true a b e)
      go false e = no-case (leb-false a b e)

  pub either_lt : (a b : ℕ) → (a < b → C) → (b ≤ a → C) → C
  either_lt a b yes-case no-case = go (ltb a b) refl
    where
      go : (t : Bool) → ltb a b ≡ t → C
      go true e = yes-case (ltb-true a b e)
      go false e = no-case (ltb-false a b e)

  pub either-eq : (a b : ℕ) → (a ≡ b → C) → (a ≢ b → C) → C
  either-eq a b yes-case no-case = go (eqb a b) refl
    where
      go : (t : Bool) → eqb a b ≡ t → C
      go true e = yes-case (eqb-true a b e)
      go false e = no-case (eqb-false a b e)

  -- a test, with what it says
  pub either : (t : Bool) → (t ≡ true → C) → (t ≡ false → C) → C
  either t yes-case no-case = go t refl
    where
      go : (s : Bool) → t ≡ s → C
      go true e = yes-case e
      go false e = no-case e

  -- none, or one more than some number
  pub either-zero : (n : ℕ) → (n ≡ 0 → C) → ((m : ℕ) → n ≡ suc m → C) → C
  either-zero zero none-case some-case = none-case refl
  either-zero (suc m) none-case some-case = some-case m refl

-- from two things that `cc` proves equal and that are not, such as two variants
pub never : {C : Type 0} → ◌≡◌ {A = ℕ} 0 1 → C
never e = absurd (omega arith)

-- in the else of a `let` on an enum of three only the tag is known: it is one of the others
pub other_tag : {tag : ℕ} → tag ≡ 0 → (tag ≡ 1) ⊎ (tag ≡ 2) → ⊥
other_tag first (inl second) = omega arith
other_tag first (inr third) = omega arith

-- a test has one answer
pub contrary : {C : Type 0} {b : Bool} → b ≡ true → b ≡ false → C
contrary holds fails = absurd (true≢false (sym holds ∙ fails))

pub same_self : (p : ℕ) → same p p ≡ 1
unfolding same
same_self p = rw (eq-eqb p p refl)

pub same-eq : (p q : ℕ) → p ≡ q → same p q ≡ 1
unfolding same
same-eq p q e = rw (eq-eqb p q e)

pub same-other : (p q : ℕ) → p ≢ q → same p q ≡ 0
unfolding same
same-other p q n = rw (ne_eqb p q n)

pub same-zero : (p q : ℕ) → same p q ≡ 0 → p ≢ q
same-zero p q z e = let o : same p q ≡ 1 = same-eq p q e in omega arith

pub same-le : (p q : ℕ) → same p q ≤ 1
same-le p q = either-eq p q (λ e. omega (arith, same-eq p q e)) (λ n. omega (arith, same-other p q n))
