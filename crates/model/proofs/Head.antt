-- What a head that fits says, as facts about its words, and the way back: words of which the facts hold have a head
-- that fits.
-- Assumes nothing.
use mathlib.Core.Path.{◌≡◌, refl, sym, ◌∙◌}
use mathlib.Core.Bool.{Bool, true}
use mathlib.Core.List.{List, ◌++◌, map}
use Prim.Native.Nat.{ℕ, zero, suc, ◌+◌, ◌-◌, ◌*◌, ◌≤◌, ◌<◌}
use native.Mathlib.Omega.{arith}
use lib.Dec.{eqb}
use lib.ListN.{length, drop, take}
use borrow.Author.Tests.{leb-true, le-leb, eqb-true, eqb-false, eq-eqb, ne_eqb, not-true}
use Rattle.model.specs.Basics.{tab, All, every}
use Rattle.model.specs.Layout.{head_words, most_pages, most_levels, most_entries, first_word, allowed, word, length_tests}
use Rattle.model.specs.Head.{geometry_of, least_of, page_count, count_word, root_word, levels_word, open_word, after_word, kind_word, fits, headed, both_or_neither, head_tests}
use Rattle.model.proofs.Cases.{either, contrary}
use Rattle.model.proofs.Basics.{all_append, all_right, every-all, every_true, every_append}

-- P, the number of pages, is `page_count w`
pub record HeadFacts (w : List ℕ) : Type 0 where
  pub some : 1 ≤ page_count w
  pub most : page_count w ≤ most_pages (geometry_of w)
  pub long : length w ≡ first_word (geometry_of w) (page_count w)
  pub form : word w 0 ≡ 1
  pub pages : word w 1 ≡ page_count w
  pub count : count_word w ≤ most_entries (least_of w) * page_count w
  pub root : root_word w ≤ page_count w
  pub levels : levels_word w ≤ most_levels (geometry_of w)
  pub opened : open_word w ≤ 1
  pub after : after_word w ≤ 1
  pub kind : kind_word w ≤ 1
  pub set-shut : kind_word w + open_word w ≤ 1
  pub rooted : (count_word w ≡ 0 → (root_word w ≡ 0) × (levels_word w ≡ 0)) × (0 < count_word w → (0 < root_word w) × (0 < levels_word w))
  pub spare : (i : ℕ) → 9 ≤ i → i < head_words → word w i ≡ 0

-- ---- tests

both_true : (a b : ℕ) → both_or_neither a b ≡ true → (a ≡ 0 → b ≡ 0) × (0 < a → 0 < b)
both_true zero b e = (λ z. eqb-true b 0 e, λ l. absurd (omega arith))
both_true (suc a) b e = (λ z. absurd (omega arith), λ l. omega (arith, eqb-false b 0 (not-true (eqb b 0) (rw (ne_eqb (suc a) 0 (omega arith)) at e))))

true-both : (a b : ℕ) → (a ≡ 0 → b ≡ 0) → (0 < a → 0 < b) → both_or_neither a b ≡ true
true-both zero b h k = eq-eqb b 0 (h refl)
true-both (suc a) b h k = let l = k (omega arith) in rw (ne_eqb b 0 (omega arith), ne_eqb (suc a) 0 (omega arith))

zeros-true : (n : ℕ) (f : ℕ → ℕ) → All (λ b. b ≡ true) (map (λ x. eqb x 0) (tab n f)) → (i : ℕ) → i < n → f i ≡ 0
zeros-true zero f a i h = omega arith
zeros-true (suc n) f a zero h = eqb-true (f 0) 0 a.0
zeros-true (suc n) f a (suc i) h = zeros-true n (λ k. f (suc k)) a.1 i (omega arith)

true-zeros : (n : ℕ) (f : ℕ → ℕ) → ((i : ℕ) → i < n → f i ≡ 0) → All (λ b. b ≡ true) (map (λ x. eqb x 0) (tab n f))
true-zeros zero f h = tt
true-zeros (suc n) f h = (eq-eqb (f 0) 0 (h 0 (omega arith)), true-zeros n (λ k. f (suc k)) (λ i l. h (suc i) (omega arith)))

-- ---- the tests of the length and of the head

abbrev tests : List ℕ → List Bool
tests w = length_tests (geometry_of w) (length w) ++ head_tests (geometry_of w) (page_count w) w

-- those of one number or two, and the rest
abbrev word_tests : List ℕ → List Bool
word_tests w = take 12 (tests w)

abbrev other_tests : List ℕ → List Bool
other_tests w = drop 12 (tests w)

headed-tests : (w : List ℕ) → every (tests w) ≡ headed w
unfolding headed fits allowed
headed-tests w = every_append (length_tests (geometry_of w) (length w)) (head_tests (geometry_of w) (page_count w) w)

pub head-facts : (w : List ℕ) → headed w ≡ true → HeadFacts w
head-facts w e = facts (every_true (tests w) (headed-tests w ∙ e))
  where
    facts : All (λ b. b ≡ true) (tests w) → HeadFacts w
    facts a =
        let others : All (λ b. b ≡ true) (other_tests w) = all_right (λ b. b ≡ true) (word_tests w) (other_tests w) a in
        let root = both_true (count_word w) (root_word w) others.0 in
        let levels = both_true (count_word w) (levels_word w) others.1.0 in
        record {
          some = omega (arith, leb-true);
          most = omega (arith, leb-true);
          long = omega (arith, eqb-true);
          form = omega (arith, eqb-true);
          pages = omega (arith, eqb-true);
          count = omega (arith, leb-true);
          root = omega (arith, leb-true);
          levels = omega (arith, leb-true);
          opened = omega (arith, leb-true);
          after = omega (arith, leb-true);
          kind = omega (arith, leb-true);
          set-shut = omega (arith, leb-true);
          rooted = (λ z. (root.0 z, levels.0 z), λ l. (root.1 l, levels.1 l));
          spare = λ i l h. let e : 9 + (i - 9) ≡ i = omega arith in rw e at (zeros-true (head_words - 9) (λ k. word w (9 + k)) others.1.1 (i - 9) (omega arith));
        }

pub head-fits : (w : List ℕ) → HeadFacts w → headed w ≡ true
head-fits w f =
    sym (headed-tests w) ∙ every-all (tests w)
    (all_append (λ b. b ≡ true) (word_tests w) (other_tests w) (omega (arith, le-leb, eq-eqb)) (
      true-both (count_word w) (root_word w) (λ z. (f.rooted.0 z).0) (λ l. (f.rooted.1 l).0),
      (
        true-both (count_word w) (levels_word w) (λ z. (f.rooted.0 z).1) (λ l. (f.rooted.1 l).1),
        true-zeros (head_words - 9) (λ k. word w (9 + k)) (λ k l. f.spare (9 + k) (omega arith) (omega arith)),
      ),
    ))

pub headed-allowed : (w : List ℕ) → headed w ≡ true → allowed (geometry_of w) (length w) ≡ true
unfolding headed
headed-allowed w = either (allowed (geometry_of w) (length w)) (λ y e. y) (λ n. rw n (λ e. contrary e refl))
