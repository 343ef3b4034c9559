-- Document 01, "The calls": make, clear, count, is-empty, copy, check. All but check look at lengths and head alone,
-- and are exact on any words, sound or not; check says yes exactly for a sound pool.
-- Assumes nothing: these are definitions.
use Rattle.std.specs.Prelude.{Bool, not, ◌&&◌, true, ◌≡◌, List, [], ◌∷◌, ◌++◌, ℕ, ◌-◌, leb, eqb, length, take, drop}
use Rattle.model.specs.declared.Geometry.{Geometry}
use Rattle.model.specs.Basics.{zeros}
use Rattle.model.specs.Layout.{head_words, map_words, first_word, today, pages_in, allowed}
use Rattle.model.specs.Head.{geometry_of, count_word, open_word, kind_word, headed}
use Rattle.model.specs.Sound.{Sound}
use Rattle.model.specs.Refusal.{Test, ◌when◌, unfit, while_open}
use Rattle.model.specs.Call.{Outcome, Exact}

-- make takes any words; clear asks for a head that fits, and keeps its kind
abbrev pub make_tests : ℕ → List ℕ → List Test
make_tests kind w = 1 when not (allowed today (length w)) ∷ 2 when leb 2 kind ∷ []

abbrev pub clear_tests : List ℕ → List Test
clear_tests w = unfit w ∷ while_open w ∷ []

-- a pool just made, of geometry γ: a head without entries, a page map without bits, and behind them the words as they
-- were
unfoldable pub fresh : Geometry → ℕ → List ℕ → List ℕ
fresh γ kind w =
    (1 ∷ pages_in γ (length w) ∷ 0 ∷ 0 ∷ 0 ∷ 0 ∷ 0 ∷ 0 ∷ kind ∷ zeros (head_words - 9))
    ++ (zeros (map_words γ) ++ drop (first_word γ 0) w)

abbrev pub Makes : ℕ → (before after : List ℕ) → Outcome (Unit {0}) → Type 0
Makes kind w = Exact (make_tests kind w) tt w (fresh today kind w)

abbrev pub Clears : (before after : List ℕ) → Outcome (Unit {0}) → Type 0
Clears w = Exact (clear_tests w) tt w (fresh (geometry_of w) (kind_word w) w)

-- word 2, which in a sound pool is the number of entries
abbrev pub Counts : (before after : List ℕ) → Outcome ℕ → Type 0
Counts w = Exact (unfit w ∷ []) (count_word w) w w

abbrev pub TellsEmpty : (before after : List ℕ) → Outcome Bool → Type 0
TellsEmpty w = Exact (unfit w ∷ []) (eqb (count_word w) 0) w w

-- copy: the source's length or head, or the destination's length; lengths that differ; the destination's cursor, where
-- its head fits
abbrev pub copy_tests : (source destination : List ℕ) → List Test
copy_tests w v =
    1 when not (headed w && allowed (geometry_of w) (length v))
    ∷ 8 when not (eqb (length w) (length v))
    ∷ 4 when (headed v && eqb (open_word v) 1)
    ∷ []

-- every word but words 5 to 7, which become 0
unfoldable pub cursorless : List ℕ → List ℕ
cursorless w = take 5 w ++ (0 ∷ 0 ∷ 0 ∷ drop 8 w)

abbrev pub Copies : (source before after : List ℕ) → Outcome (Unit {0}) → Type 0
Copies source w = Exact (copy_tests source w) tt w (cursorless source)

-- check follows children with one level less at each step, so it ends on any words
pub record Checks (w : List ℕ) (r : Bool) : Type 0 where
  pub yes-sound : r ≡ true → Sound w
  pub sound-yes : Sound w → r ≡ true
