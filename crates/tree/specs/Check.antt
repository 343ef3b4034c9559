-- Check walks the tree once, in key order, on any words: each page met is taken, has the height of its level and the
-- right number of entries; keys rise over the whole walk, so that no page is met twice; no more pages are met than
-- there are. What the walk carries: pages and entries met, and the last key.
-- Assumes nothing: these are definitions.
use Rattle.std.specs.Prelude.{◌≡◌, Bool, true, cond, List, [], ◌∷◌, ℕ, zero, suc, ◌+◌, ◌*◌, ◌≤◌, leb, ltb, eqb, length, Result, Ok, Err}
use Rattle.model.specs.Basics.{every}
use Rattle.model.specs.Layout.{pages_in, today}
use Rattle.model.specs.Head.{open_word, after_word, key_word, kind_word}
use Rattle.model.specs.PageMap.{bit_at}
use Rattle.model.specs.Tree.{Entry, Rising, held}
use Rattle.model.specs.Page.{count_of, height_of, entry_in, entries_of, children_of}
use Rattle.model.specs.Entries.{has}
use Rattle.model.specs.Pool.{whole_of}
use Rattle.lend.specs.Pages.{least, most, page_in, map_in}
use Rattle.page.specs.declared.Unsound.{Unsound}
use Rattle.tree.specs.declared.check.Tally.{Tally}
use Rattle.tree.specs.Sits.{Sits}

-- ---- one page

-- page p is met after `pages` others of P; it is taken, has height h and holds `low` to nine entries
abbrev pub stand_tests : List ℕ → ℕ → ℕ → ℕ → ℕ → List Bool
stand_tests w p h low pages =
    ltb pages (pages_in today (length w))
    ∷ eqb (bit_at (map_in w) p) 1
    ∷ eqb (height_of (page_in w p)) h
    ∷ leb low (count_of (page_in w p))
    ∷ leb (count_of (page_in w p)) most
    ∷ []

-- ---- one entry

-- its key is above the last, if there was one
abbrev pub key_rises : ℕ → ℕ → ℕ → Bool
key_rises count last key = cond (ltb 0 count) (ltb last key) true

-- a set's values are 0
abbrev pub value_fits : List ℕ → ℕ → Bool
value_fits w value = cond (eqb (kind_word w) 1) (eqb value 0) true

abbrev pub entry_tests : List ℕ → Entry → ℕ → ℕ → List Bool
entry_tests w e count last = key_rises count last e.key ∷ value_fits w e.value ∷ []

-- ---- what a walk says: what it has met, or that it has broken off

abbrev pub Said : Type 0
Said = Result Tally Unsound

abbrev pub told : ℕ → ℕ → ℕ → Said
told pages entries last = Ok (record { pages = pages; entries = entries; last = last })

abbrev pub broken : Said
broken = Err (record {})

-- what the walk has met with an entry; a walk that has broken off stays so
unfoldable pub over_entry : List ℕ → Entry → Said → Said
over_entry w e (Ok t) = cond (every (entry_tests w e t.entries t.last)) (told t.pages (t.entries + 1) e.key) broken
over_entry w e (Err u) = Err u

-- entry i of page p, where it is one of n
unfoldable pub over_entry_at : List ℕ → ℕ → ℕ → ℕ → Said → Said
over_entry_at w p i n r = cond (ltb i n) (over_entry w (entry_in most (page_in w p) i) r) r

-- ---- the walk

-- over a page's children and entries in walking order. `f` says how a child is walked
unfoldable pub in_turn : List ℕ → (ℕ → Said → Said) → List ℕ → List Entry → Said → Said
in_turn w f [] es r = r
in_turn w f (c ∷ cs) [] r = f c r
in_turn w f (c ∷ cs) (e ∷ es) r = in_turn w f cs es (over_entry w e (f c r))

-- over the tree of h levels whose root is page p, inside the pool or not
unfoldable pub over_tree : List ℕ → (h p low : ℕ) → Said → Said
over_tree w zero p low r = r
over_tree w (suc h) p low (Err u) = Err u
over_tree w (suc h) p low (Ok t) =
    cond (every (ltb p (pages_in today (length w)) ∷ stand_tests w p h low t.pages))
    (in_turn w (λ c. over_tree w h c least) (children_of most (page_in w p)) (entries_of most (page_in w p)) (told (t.pages + 1) t.entries t.last))
    broken

-- on any words: no more pages than there are, and at most nine entries a page
abbrev pub Few : List ℕ → Tally → Said → Type 0
Few w t (Ok r) = (r.pages ≤ pages_in today (length w)) × (r.entries + most * t.pages ≤ t.entries + most * r.pages)
Few w t (Err u) = Unit {0}

-- over page p, of height h, and all below it
pub record Walks (w : List ℕ) (p h low : ℕ) (t : Tally) (r : Said) : Type 0 where
  pub few : Few w t r
  pub exact : r ≡ over_tree w (suc h) p low (Ok t)

-- ---- the cursor

pub record Cursored (w : List ℕ) : Type 0 where
  pub closed : open_word w ≡ 0 → (after_word w ≡ 0) × (key_word w ≡ 0)
  pub start : after_word w ≡ 0 → key_word w ≡ 0
  pub named : after_word w ≡ 1 → has (key_word w) (held (whole_of w)) ≡ true

-- where a search finds its way
pub record CursorIs (w : List ℕ) (r : Bool) : Type 0 where
  pub right : Sits w 1 (whole_of w).levels (whole_of w).tree → Rising (held (whole_of w)) → r ≡ true → Cursored w
  pub finds : Sits w 1 (whole_of w).levels (whole_of w).tree → Rising (held (whole_of w)) → Cursored w → r ≡ true
