-- The shapes of a public call's promise. `Meets`, for a call that is lent one pool and answers an A: on any words its
-- refusals by length, head and arguments, exactly then, and whatever the refusal no word changed; on a sound pool its
-- answer and the pool after. `Exact`, for a call that looks at lengths, head and arguments alone.
-- Assumes nothing: these are definitions.
use Rattle.std.specs.Prelude.{◌≡◌, Bool, true, ◌⊎◌, List, [], ◌++◌, ℕ, zero, suc, ◌≤◌, length}
use Rattle.model.specs.Head.{levels_word}
use Rattle.model.specs.Pool.{Pool, pool_of}
use Rattle.model.specs.Sound.{Sound}
use Rattle.model.specs.Refusal.{Test, refusal, names}

pub record Call (A : Type 0) : Type 0 where
  -- refusals 1 to 5, on any words
  pub early : List ℕ → List Test
  -- refusals 6 and 7, by what a sound pool holds
  pub late : Pool → List Test
  pub answer : Pool → A
  pub after : Pool → Pool
  -- an absent key, an end of the list, a call that only reads: nothing changes, no word at all
  pub still : Pool → Bool

-- a call that only reads
abbrev pub reads : {A : Type 0} → (List ℕ → List Test) → (Pool → A) → Call A
reads tests answer = record { early = tests; late = λ p. []; answer = answer; after = λ p. p; still = λ p. true }

-- what a caller is given
pub data Outcome (A : Type 0) : Type 0 where
  refused : ℕ → Outcome A
  answered : A → Outcome A

abbrev pub given : {A : Type 0} → ℕ → A → Outcome A
given zero a = answered a
given (suc n) a = refused (suc n)

-- what is there after, by the number that was given
abbrev pub left : {X : Type 0} → ℕ → X → X → X
left zero old new = new
left (suc n) old new = old

module _ {A : Type 0} (c : Call A) where
  -- the number that a caller is given on a sound pool
  abbrev pub number : List ℕ → ℕ
  number w = refusal (c.early w ++ c.late (pool_of w))

  -- r is what the caller is given, and the lent words go from w to v
  pub record Meets (w v : List ℕ) (r : Outcome A) : Type 0 where
    pub long : length v ≡ length w
    -- on any words
    pub early : (n : ℕ) → refusal (c.early w) ≡ suc n → r ≡ refused (suc n)
    pub late : (n : ℕ) → refusal (c.early w) ≡ 0 → r ≡ refused n → (n ≡ 9) ⊎ (names n (c.late (pool_of w)) ≡ true)
    pub kept : (n : ℕ) → r ≡ refused n → v ≡ w
    -- on a sound pool
    pub sound : Sound w → Sound v
    pub exact : Sound w → r ≡ given (number w) (c.answer (pool_of w))
    pub holds : Sound w → pool_of v ≡ left (number w) (pool_of w) (c.after (pool_of w))
    pub still : Sound w → c.still (pool_of w) ≡ true → v ≡ w

-- on any words, sound or not: what the caller is given, and every lent word after; `new` are the words of an answer
pub record Exact {A : Type 0} (tests : List Test) (answer : A) (w new v : List ℕ) (r : Outcome A) : Type 0 where
  pub exact : r ≡ given (refusal tests) answer
  pub words : v ≡ left (refusal tests) w new

-- a call that tells how many pages it has read: on any words no more than there are levels
pub record ReadsPages {A : Type 0} (c : Call A) (read : A → ℕ) (w v : List ℕ) (r : Outcome A) : Type 0 where
  pub meets : Meets c w v r
  pub few : (a : A) → r ≡ answered a → read a ≤ levels_word w
