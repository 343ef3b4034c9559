-- Lists and numbers, in general: what the other files are written with. Nothing here knows of pools.
-- Assumes nothing: these are definitions.
use Rattle.std.specs.Prelude.{Bool, true, false, cond, List, [], ◌∷◌, ◌++◌, ℕ, zero, suc, ◌+◌, eqb, take, drop}

module _ {A : Type 0} where
  -- `x` put at gap `g`
  abbrev pub ins : ℕ → A → List A → List A
  ins g x l = take g l ++ x ∷ drop g l

  -- element `i` left out
  abbrev pub del : ℕ → List A → List A
  del i l = take i l ++ drop (suc i) l

  -- `cs` in the place of element `i`
  abbrev pub splice : ℕ → List A → List A → List A
  splice i cs l = take i l ++ (cs ++ drop (suc i) l)

  -- f 0, f 1, ..: n of them
  abbrev pub tab : ℕ → (ℕ → A) → List A
  tab zero f = []
  tab (suc n) f = f zero ∷ tab n (λ k. f (suc k))

  abbrev pub sum : (A → ℕ) → List A → ℕ
  sum f [] = zero
  sum f (x ∷ xs) = f x + sum f xs

  -- P of each
  abbrev pub All : (A → Type 0) → List A → Type 0
  All P [] = Unit {0}
  All P (x ∷ xs) = P x × All P xs

  -- those that pass the test, in their order
  abbrev pub those : (A → Bool) → List A → List A
  those test [] = []
  those test (x ∷ xs) = cond (test x) (x ∷ those test xs) (those test xs)

  -- the last; d where there is none
  abbrev pub final : A → List A → A
  final d [] = d
  final d (x ∷ xs) = final x xs

-- n words that are 0
abbrev pub zeros : ℕ → List ℕ
zeros n = tab n (λ i. 0)

-- 1 where the two are equal, else 0
unfoldable pub same : ℕ → ℕ → ℕ
same p q = cond (eqb p q) 1 0

-- all of the tests hold
abbrev pub every : List Bool → Bool
every [] = true
every (b ∷ bs) = cond b (every bs) false
