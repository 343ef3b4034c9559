-- Search: what a page says of a key, which child is followed, and what a search answers. Reads are tested as they are
-- read: a child's number lies inside the pool, a page's count is 1 to 9, its height is the one that its level asks;
-- anything else is `Unsound`.
-- Assumes nothing: these are definitions.
use Rattle.std.specs.Prelude.{◌≡◌, Bool, true, false, cond, List, ℕ, suc, ◌+◌, ◌≤◌, leb, ltb, eqb, length, Option, Some, None, Result, Ok, Err, ⊤}
use Rattle.std.proofs.Math.Option as pure
use Rattle.model.specs.Layout.{pages_in, today}
use Rattle.model.specs.Tree.{Tree}
use Rattle.model.specs.Page.{height_of, child_in}
use Rattle.model.specs.Entries.{lookup, gap_of}
use Rattle.model.specs.Search as model
use Rattle.model.specs.Path.{seek_pages, seek_slots, find}
use Rattle.model.specs.Pool.{held_by, pool_of}
use Rattle.model.specs.Sound.{Sound}
use Rattle.model.specs.MapCalls.{pages_read}
use Rattle.page.specs.declared.Place.{Place}
use Rattle.page.specs.declared.Unsound.{Unsound}
use Rattle.page.specs.Page.{gap_in, place_of}
use Rattle.lend.specs.Pages.{most, page_in}
use Rattle.tree.specs.declared.search.Aim.{Aim}
use Rattle.tree.specs.declared.search.Aim.TheVariants.{Before, After, Start, End}
use Rattle.tree.specs.declared.search.Found.{Found}
use Rattle.tree.specs.Sits.{PathIn, PathOf, Sits, From}

-- ---- one page

-- the error of words that can't be a page
abbrev pub unsound : Unsound
unsound = record {}

-- the child at a place, where there can be one and its number lies inside the pool
unfoldable pub below_of : List ℕ → ℕ → ℕ → Result ℕ Unsound
below_of w p at =
    let c = child_in most (page_in w p) at in
    cond (leb at most) (cond (ltb c (pages_in today (length w))) (Ok c) (Err unsound)) (Err unsound)

-- where a key belongs in page p, whose height is to be h
unfoldable pub place_at : List ℕ → ℕ → ℕ → ℕ → Result Place Unsound
place_at w p h k = cond (eqb (height_of (page_in w p)) h) (place_of most (page_in w p) k) (Err unsound)

-- the slot of the gap after the entries of page p, whose height is to be h, whose keys pass a test
unfoldable pub slot_by : List ℕ → ℕ → ℕ → (ℕ → Bool) → Result ℕ Unsound
slot_by w p h before = cond (eqb (height_of (page_in w p)) h) (gap_in most (page_in w p) before) (Err unsound)

-- ---- what is looked for: a gap, by the keys that come before it

abbrev pub aimed : Aim → ℕ → Bool
aimed (Before k) x = ltb x k
aimed (After k) x = leb x k
aimed Start x = false
aimed End x = true

-- ---- what is answered

-- a search that has read `above` pages before
abbrev pub got_by : ℕ → pure.Option ℕ → ℕ → Result (Option Found) Unsound
got_by above (pure.some v) read = Ok (Some (record { value = v; read = above + read }))
got_by above pure.none read = Ok None

abbrev pub got_found : ℕ → model.Found → Result (Option Found) Unsound
got_found above f = got_by above f.value f.read

-- of page p, of height h
abbrev pub GetsBelow : List ℕ → ℕ → ℕ → ℕ → ℕ → Result (Option Found) Unsound → Type 0
GetsBelow w p h k above r = (low : ℕ) (t : Tree (suc h)) → Sits w low (suc h) t → t.page ≡ p → r ≡ got_found above (find k (suc h) t)

-- on any words: no more pages read than n
abbrev pub ReadFew : ℕ → Result (Option Found) Unsound → Type 0
ReadFew n r = (f : Found) → r ≡ Ok (Some f) → f.read ≤ n

-- of the pool: the value of the key, and the pages read where it is there
abbrev pub Gets : List ℕ → ℕ → Result (Option Found) Unsound → Type 0
Gets w k r = Sound w → r ≡ got_by 0 (lookup k (held_by (pool_of w))) (pages_read k (pool_of w))

-- the path from page p down, its pages and its slots
pub record SeeksBelow (w : List ℕ) (p : ℕ) (aim : Aim) (ps ss ps' ss' : List ℕ) (r : Result ⊤ Unsound) : Type 0 where
  pub pages : length ps' ≡ length ps
  pub slots : length ss' ≡ length ss
  pub inside : r ≡ Ok tt → PathIn w ps' ss'
  pub sound : From w p (length ps) (λ h t. r ≡ Ok tt)
  pub pages-are : From w p (length ps) (λ h t. ps' ≡ seek_pages (aimed aim) (suc h) t)
  pub slots-are : From w p (length ps) (λ h t. ss' ≡ seek_slots (aimed aim) (suc h) t)

-- the path of the gap, root first
pub record Seeks (w : List ℕ) (aim : Aim) (ps ss ps' ss' : List ℕ) (r : Result ⊤ Unsound) : Type 0 where
  pub pages : length ps' ≡ length ps
  pub slots : length ss' ≡ length ss
  pub inside : r ≡ Ok tt → PathIn w ps' ss'
  pub sound : Sound w → r ≡ Ok tt
  pub path : Sound w → PathOf (pool_of w).whole.levels (pool_of w).whole.tree (gap_of (aimed aim) (held_by (pool_of w))) ps' ss'
