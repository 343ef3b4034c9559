-- A run of words inside a longer one: the part itself, what stands there after it was lent and came back, and what a
-- caller wants to know of that. Nothing here knows of pages.
-- Assumes nothing: these are definitions.
use Rattle.std.specs.Prelude.{◌≡◌, Bool, true, false, cond, List, [], ◌∷◌, ◌++◌, ℕ, suc, ◌+◌, ltb, leb, length, take, drop}

module _ {A : Type 0} where
  -- the n words from a on
  abbrev pub part : ℕ → ℕ → List A → List A
  part a n xs = take n (drop a xs)

  -- ys in the place of the n words from a on: what a part that was lent leaves when it comes back
  abbrev pub with_run : ℕ → ℕ → List A → List A → List A
  with_run a n ys xs = take a xs ++ (ys ++ drop n (drop a xs))

-- xs' is xs with ys in the place of the n words from a on, by what a caller wants to know
pub record Changed {A : Type 0} (a n : ℕ) (ys xs xs' : List A) : Type 0 where
  pub low : take a xs' ≡ take a xs
  pub here : part a n xs' ≡ ys
  pub high : drop (a + n) xs' ≡ drop (a + n) xs
  pub long : length xs' ≡ length xs

-- how many words stand in front that pass a test
unfoldable pub leading : (ℕ → Bool) → List ℕ → ℕ
leading test [] = 0
leading test (x ∷ xs) = cond (test x) (suc (leading test xs)) 0

-- the test of a key: below it or, where `past`, at most it
abbrev pub up_to : ℕ → Bool → ℕ → Bool
up_to k false x = ltb x k
up_to k true x = leb x k
