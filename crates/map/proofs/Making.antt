-- Pools made, cleared and copied: words copied one after the other, and what `lay` and copy leave, where they fill
-- words with 0.
-- Assumes nothing.
use mathlib.Core.Path.{◌≡◌, refl, sym, ap, ◌∙◌}
use mathlib.Core.Bool.{true}
use mathlib.Core.List.{List, ◌∷◌, ◌++◌}
use Prim.Native.Nat.{ℕ, zero, suc, ◌+◌, ◌≤◌, ◌<◌}
use native.Mathlib.Numerals.{add-one}
use native.Mathlib.Omega.{arith}
use lib.ListN.{replicate, length, take, drop, set, get_or, length-drop}
use lib.Seq.{take_all, take-suc, take-suc-set, length-take-le, drop-drop}
use Rattle.model.specs.Basics.{zeros}
use Rattle.model.specs.Layout.{first_word, pages_in, allowed, today}
use Rattle.model.specs.PoolCalls.{fresh, cursorless}
use Rattle.model.proofs.Lawful.{allowed-facts}

-- ---- words that become those of `target`, one after the other

module _ (words target : List ℕ) (long : length target ≡ length words) where
  pub laid_one : (i : ℕ) → i < length words → take i words ≡ take i target → take (i + 1) (set words i (get_or target i 0)) ≡ take (i + 1) target
  laid_one i h e = let b : i < length target = omega arith in rw (add-one, take-suc-set, take-suc target i 0, e)

  pub laid-all : (n : ℕ) → length words ≤ n → take n words ≡ take n target → words ≡ target
  laid-all n h e = sym (take_all n words h) ∙ e ∙ take_all n target (omega arith)

-- ---- words filled with 0

filled : (n : ℕ) → replicate n 0 ≡ zeros n
filled zero = refl
filled (suc n) = ap (λ (r : List ℕ). 0 ∷ r) (filled n)

-- ---- a pool just made: the words before the pages become 0, and then three of them are given

pub laid-fresh : (w ys : List ℕ) (P kind : ℕ) → allowed today (length w) ≡ true → ys ≡ replicate (length (take (first_word today 0) w)) 0 → P ≡ pages_in today (length w)
    → set (set (set (ys ++ drop (first_word today 0) w) 0 1) 1 P) 8 kind ≡ fresh today kind w
unfolding fresh
laid-fresh w ys P kind sized e pages =
    let room : first_word today 0 ≤ length w = omega (arith, allowed-facts today (length w) sized) in
    let all : ys ≡ zeros (first_word today 0) = e ∙ filled _ ∙ ap zeros (length-take-le (first_word today 0) w room) in
    rw (all, pages)

-- ---- a copy: the source's words, `xs`, of which words 5 to 7 are lent and given back as `ys`

pub copied-cursorless : (w xs ys : List ℕ) → first_word today 1 ≤ length w → xs ≡ w → ys ≡ replicate (length (take 3 (drop 5 xs))) 0
    → take 5 xs ++ (ys ++ drop 3 (drop 5 xs)) ≡ cursorless w
unfolding cursorless
copied-cursorless w xs ys room all none =
    let long : length (take 3 (drop 5 w)) ≡ 3 = length-take-le 3 (drop 5 w) (simp length-drop (omega arith)) in
    rw (none, all, long, drop-drop 3 5 w)
