-- Document 01, "The calls": list takes a lower and an upper bound and fills lent slices with the entries that are not
-- before the lower one and are before the upper one, in key order. It writes the lesser of their number and the
-- shortest slice, and changes nothing past them. Bounds that cross give none.
-- Assumes nothing: these are definitions.
use Rattle.std.specs.Prelude.{◌≡◌, ◌||◌, List, [], ◌∷◌, ◌++◌, map, ℕ, suc, min, drop, length, take}
use Rattle.model.specs.Basics.{All}
use Rattle.model.specs.Tree.{Entry}
use Rattle.model.specs.Bound.{Bound}
use Rattle.model.specs.Entries.{between}
use Rattle.model.specs.Pool.{Pool, held_by, pool_of}
use Rattle.model.specs.Sound.{Sound}
use Rattle.model.specs.Refusal.{Test, unfit, other_kind, bad_bound, refusal, no_bound}
use Rattle.model.specs.Call.{Outcome, refused, answered}

-- either bound's kind may be bad
abbrev pub list_tests : ℕ → ℕ → ℕ → List ℕ → List Test
list_tests kind lower upper w = unfit w ∷ other_kind kind w ∷ bad_bound (no_bound lower || no_bound upper) ∷ []

-- a lent slice, and which part of an entry it takes: its key or its value
pub record Column : Type 0 where
  pub part : Entry → ℕ
  pub before : List ℕ
  pub after : List ℕ

abbrev pub key_column : List ℕ → List ℕ → Column
key_column before after = record { part = λ e. e.key; before = before; after = after }

abbrev pub value_column : List ℕ → List ℕ → Column
value_column before after = record { part = λ e. e.value; before = before; after = after }

abbrev pub shortest : List Column → ℕ
shortest [] = 0
shortest (c ∷ []) = length c.before
shortest (c ∷ d ∷ cs) = min (length c.before) (shortest (d ∷ cs))

-- the entries that are written
abbrev pub listed : Bound → Bound → List Column → Pool → List Entry
listed low high cs p = take (shortest cs) (between low high (held_by p))

-- a slice with `front` at its front
abbrev pub fronted : List ℕ → List ℕ → List ℕ
fronted front slice = front ++ drop (length front) slice

-- r is what the caller is given: how many entries were written
pub record Lists (tests : List Test) (low high : Bound) (w : List ℕ) (cs : List Column) (r : Outcome ℕ) : Type 0 where
  pub long : All (λ c. length c.after ≡ length c.before) cs
  -- on any words
  pub early : (n : ℕ) → refusal tests ≡ suc n → r ≡ refused (suc n)
  pub late : (n : ℕ) → refusal tests ≡ 0 → r ≡ refused n → n ≡ 9
  pub kept : (n : ℕ) → r ≡ refused n → All (λ c. c.after ≡ c.before) cs
  -- on a sound pool
  pub exact : Sound w → refusal tests ≡ 0 → r ≡ answered (length (listed low high cs (pool_of w)))
  pub writes : Sound w → refusal tests ≡ 0 → All (λ c. c.after ≡ fronted (map c.part (listed low high cs (pool_of w))) c.before) cs
