-- Document 01, "Page": what one lent page holds, and the one shape of promise that its functions have. Counts of 0 and
-- above `most` are answered as unsound, and change nothing; what is left of a page is said by `model`'s nodes, with
-- page numbers as children.
-- Assumes nothing: these are definitions.
use Rattle.std.specs.Prelude.{◌≡◌, Bool, true, false, cond, List, [], ◌∷◌, ℕ, suc, ◌+◌, ◌*◌, ◌≤◌, leb, ltb, eqb, length, get_or, Result, Ok, Err}
use Rattle.model.specs.Basics.{tab, every}
use Rattle.model.specs.Tree.{Entry, Node, no_entry, entry}
use Rattle.model.specs.Page.{count_of, height_of, entry_in, child_in, entries_of}
use Rattle.model.specs.Standing.{node_of, Holds}
use Rattle.model.specs.Entries.{gap_of, gap_before}
use Rattle.model.specs.Search.{at}
use Rattle.model.specs.Insert.{cut_left}
use Rattle.page.specs.declared.Entry as lent
use Rattle.page.specs.declared.Place.{Place}
use Rattle.page.specs.declared.Place.TheVariants.{Here, Gap}
use Rattle.page.specs.declared.Unsound.{Unsound}

-- an entry by value, as the model has it
abbrev pub plain : lent.Entry → Entry
plain e = entry e.key e.value

-- what is answered of a page that can't be
abbrev pub refused : {A : Type 0} → Result A Unsound
refused = Err record {}

-- the words that a page of at most `most` entries takes: 30 of 32
abbrev pub Long : ℕ → List ℕ → Type 0
Long most page = 3 + 3 * most ≤ length page

-- the page as its words have it
abbrev pub said : ℕ → List ℕ → Node ℕ
said most page = node_of most 0 page

-- the first n entries, with the children around them
abbrev pub firsts : ℕ → ℕ → List ℕ → Node ℕ
firsts most n page = record { page = 0; own = tab n (entry_in most page); children = tab (suc n) (child_in most page) }

-- ---- what is asked

abbrev pub counted : ℕ → List ℕ → List Bool
counted most page = leb 1 (count_of page) ∷ leb (count_of page) most ∷ []

-- room for one entry more at this slot, and for a child at this place
unfoldable pub room_at : ℕ → List ℕ → ℕ → ℕ → Bool
room_at most page slot place = every (leb 1 (count_of page) ∷ ltb (count_of page) most ∷ leb slot (count_of page) ∷ leb place (suc (count_of page)) ∷ [])

-- an entry at this slot, and a child at this place
unfoldable pub holds_at : ℕ → List ℕ → ℕ → ℕ → Bool
holds_at most page slot place = every (leb (count_of page) most ∷ ltb slot (count_of page) ∷ leb place (count_of page) ∷ [])

-- no room for one entry more, which would stand at this slot
unfoldable pub full_at : ℕ → List ℕ → ℕ → Bool
full_at most page slot = every (eqb (count_of page) most ∷ leb slot most ∷ [])

-- ---- what is answered

-- how many entries, where so many can be
unfoldable pub count_in : ℕ → List ℕ → Result ℕ Unsound
count_in most page = cond (every (counted most page)) (Ok (count_of page)) refused

-- the slot of the gap after the entries whose keys pass a test
unfoldable pub gap_in : ℕ → List ℕ → (ℕ → Bool) → Result ℕ Unsound
gap_in most page before = cond (every (counted most page)) (Ok (gap_of before (entries_of most page))) refused

-- where a key belongs: at the entry that has it, or in the gap after the keys below it
unfoldable pub place_of : ℕ → List ℕ → ℕ → Result Place Unsound
place_of most page k =
    let i = gap_before k (entries_of most page) in
    cond (every (counted most page)) (Ok (cond (at k (entries_of most page) i) (Here i) (Gap i))) refused

abbrev pub did : Bool → Result (Unit {0}) Unsound
did true = Ok tt
did false = refused

abbrev pub parted : Bool → Entry → Result lent.Entry Unsound
parted true e = Ok record { key = e.key; value = e.value }
parted false e = refused

-- ---- what is left

-- where `ok` it is done, and the page holds x; else it is answered so, and no word changes
pub record Changes (most : ℕ) (ok : Bool) (x : Node ℕ) (page page' : List ℕ) (r : Result (Unit {0}) Unsound) : Type 0 where
  pub answer : r ≡ did ok
  pub kept : ok ≡ false → page' ≡ page
  pub holds : ok ≡ true → Holds most (height_of page) x page'

-- a full page with one entry more keeps the first n, and the next one goes up
pub record Splits (most n : ℕ) (ok : Bool) (x : Node ℕ) (page page' : List ℕ) (r : Result lent.Entry Unsound) : Type 0 where
  pub answer : r ≡ parted ok (get_or x.own n no_entry)
  pub kept : ok ≡ false → page' ≡ page
  pub holds : ok ≡ true → Holds most (height_of page) (cut_left n x) page'
