-- The head's tests, one after the other, and what a head that fits says of the pool.
-- Assumes nothing.
use mathlib.Core.Path.{◌≡◌, refl, sym, ap, ap₂, ◌∙◌}
use mathlib.Core.Bool.{Bool, true, false, cond}
use mathlib.Core.List.{List, map}
use Prim.Native.Nat.{ℕ, suc, ◌+◌, ◌-◌, ◌≤◌, ◌<◌}
use native.Mathlib.Nat.{add-zero}
use native.Mathlib.Omega.{arith}
use lib.Bits.{bit_or, or_zero_l, or_add_and, and_le_r}
use lib.Dec.{eqb}
use lib.ListN.{length}
use borrow.Author.Tests.{ne_eqb}
use Rattle.model.specs.Basics.{tab, every}
use Rattle.model.specs.Layout.{head_words, most_levels, first_word, pages_in, allowed, word, today}
use Rattle.model.specs.Head.{geometry_of, spare_words, number_tests, fits, headed, count_word, root_word, levels_word}
use Rattle.lend.specs.Pages.{Inside}
use Rattle.lend.specs.Touches.{Sized}
use Rattle.model.proofs.Cases.{either-eq}
use Rattle.model.proofs.Basics.{tab-ext, every_append, every-then, every_one}
use Rattle.model.proofs.Head.{head-facts}
use Rattle.lend.proofs.Lent.{page-inside}

-- ---- the spare words, ORed

cond_both : (a b c : Bool) → cond (cond a b false) c false ≡ cond a (cond b c false) false
cond_both true b c = refl
cond_both false b c = refl

pub or-zero : (a b : ℕ) → eqb (bit_or a b) 0 ≡ cond (eqb a 0) (eqb b 0) false
or-zero a b =
    either-eq a 0
    (λ e. rw (e, or_zero_l b))
    (λ n. rw (ne_eqb a 0 n) (ne_eqb (bit_or a b) 0 (λ z. omega (arith, or_add_and a b, and_le_r a b))))

abbrev zeros : ℕ → (ℕ → ℕ) → Bool
zeros n f = every (map (λ x. eqb x 0) (tab n f))

-- what is left of the test once the words before i are ORed
unfoldable pub spare_left : List ℕ → ℕ → ℕ → Bool
spare_left w all i = cond (eqb all 0) (zeros (head_words - i) (λ k. word w (i + k))) false

module _ (w : List ℕ) where
  pub spare-begins : spare_left w 0 9 ≡ every (map (λ x. eqb x 0) (spare_words w))
  unfolding spare_left
  spare-begins = refl

  pub spare-turn : (all i : ℕ) → i < head_words → spare_left w (bit_or all (word w i)) (i + 1) ≡ spare_left w all i
  unfolding spare_left
  spare-turn all i h =
      let n : ℕ = head_words - (i + 1) in
      let e : head_words - i ≡ suc n = omega arith in
      rw (e, or-zero all (word w i))
      (cond_both (eqb all 0) (eqb (word w i) 0) (zeros n (λ k. word w (i + 1 + k)))
      ∙ ap₂ (λ (x : ℕ) (l : List ℕ). cond (eqb all 0) (cond (eqb x 0) (every (map (λ x. eqb x 0) l)) false) false)
      (ap (word w) (sym (add-zero i)))
      (tab-ext n (λ k. word w (i + 1 + k)) (λ k. word w (i + suc k)) (λ k. ap (word w) (omega arith))))

  pub spare-ends : (all : ℕ) → spare_left w all head_words ≡ eqb all 0
  unfolding spare_left
  spare-ends all = every_one (eqb all 0)

-- ---- the head as it is tested

module _ (w : List ℕ) where
  -- the length is not allowed
  pub headed-no : allowed today (length w) ≡ false → headed w ≡ false
  unfolding headed geometry_of
  headed-no no_length = rw no_length

  module _ (long : allowed today (length w) ≡ true) where
    -- a number does not fit
    pub headed-not : every (number_tests today (pages_in today (length w)) w) ≡ false → headed w ≡ false
    unfolding headed fits geometry_of
    headed-not fails = rw long (every_append (number_tests today (pages_in today (length w)) w) (map (λ x. eqb x 0) (spare_words w)) ∙ rw fails)

    -- the spare words decide
    pub headed-is : every (number_tests today (pages_in today (length w)) w) ≡ true → headed w ≡ every (map (λ x. eqb x 0) (spare_words w))
    unfolding headed fits geometry_of
    headed-is holds = rw long (every-then (number_tests today (pages_in today (length w)) w) (map (λ x. eqb x 0) (spare_words w)) holds)

-- ---- a head that fits

module _ (w : List ℕ) (e : headed w ≡ true) where
  -- there is room for the map, and for a page
  pub headed-sized : Sized w
  unfolding geometry_of
  headed-sized = let f = head-facts w e in omega (arith, f.long, f.most)

  pub head-long : first_word today 1 ≤ length w
  unfolding geometry_of
  head-long = let f = head-facts w e in omega (arith, f.long, f.some)

  pub head-levels : levels_word w ≤ most_levels today
  unfolding geometry_of
  head-levels = (head-facts w e).levels

  -- where there are levels there is a root, inside the pool
  pub head-root : 0 < levels_word w → (0 < root_word w) × Inside (root_word w - 1) w
  unfolding geometry_of
  head-root l =
      let f = head-facts w e in
      let some : 0 < root_word w = either-eq (count_word w) 0 (λ z. absurd (omega (arith, (f.rooted.0 z).1))) (λ n. (f.rooted.1 (omega arith)).0) in
      (some, page-inside w (root_word w - 1) (omega (arith, f.root)))
