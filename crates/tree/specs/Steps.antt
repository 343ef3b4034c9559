-- Steps along a path: where the entry after the path's gap stands, and the one before it; and the path once the gap has
-- gone over one of them.
-- Assumes nothing: these are definitions.
use Rattle.std.specs.Prelude.{◌≡◌, cond, List, [], ◌∷◌, ℕ, zero, suc, ◌≤◌, ◌<◌, ltb, length, get_or, Option, Some, None, Result, Ok, ⊤}
use Rattle.std.proofs.Math.Option as pure
use Rattle.model.specs.Tree as model
use Rattle.model.specs.Tree.{no_entry, Tree, entries, size, Rising}
use Rattle.model.specs.Standing.{page_number}
use Rattle.model.specs.Entries.{next, prev, forth, back}
use Rattle.model.specs.Gap.{slot_at, rest_at, child, child_at}
use Rattle.model.specs.Path.{seek_pages, seek_slots}
use Rattle.page.specs.Page.{holds_at}
use Rattle.page.specs.declared.Entry.{Entry}
use Rattle.page.specs.declared.Unsound.{Unsound}
use Rattle.lend.specs.Pages.{most, Inside, page_in}
use Rattle.tree.specs.declared.search.Aim.{Aim}
use Rattle.tree.specs.declared.steps.Spot.{Spot}
use Rattle.tree.specs.Sits.{PathIn, PathOf, Sits, OnPath}
use Rattle.tree.specs.Search.{below_of, aimed}

abbrev pub spot : ℕ → ℕ → Spot
spot p s = record { page = p; slot = s }

-- the page and the slot of entry g
unfoldable pub spot_of : (h : ℕ) → Tree h → ℕ → Option Spot
spot_of zero t g = None
spot_of (suc h) t g =
    cond (ltb (rest_at h t g) (size h (child_at h t g))) (spot_of h (child_at h t g) (rest_at h t g))
    (cond (ltb (slot_at h t g) (length t.own)) (Some (spot t.page (slot_at h t g))) None)

-- of the entry before gap g
abbrev pub spot_before : (h : ℕ) → Tree h → ℕ → Option Spot
spot_before h t zero = None
spot_before h t (suc g) = spot_of h t g

-- ---- the same by the words of a path, as code looks for it

-- the first, where there is one, else the second
abbrev pub or_else : Option Spot → Option Spot → Option Spot
or_else (Some x) other = Some x
or_else None other = other

-- entry s of page p
unfoldable pub here_after : List ℕ → ℕ → ℕ → Option Spot
here_after w p s = cond (holds_at most (page_in w p) s 0) (Some (spot p s)) None

-- the one before it
unfoldable pub here_before : List ℕ → ℕ → ℕ → Option Spot
here_before w p zero = None
here_before w p (suc s) = here_after w p s

-- the deepest that there is on the path, root first; `here` says what a page has at its slot
unfoldable pub deepest : (ℕ → ℕ → Option Spot) → List ℕ → List ℕ → Option Spot
deepest here [] ss = None
deepest here (p ∷ ps) [] = None
deepest here (p ∷ ps) (s ∷ ss) = or_else (deepest here ps ss) (here p s)

-- an entry that stands there can be read
abbrev pub Within : List ℕ → Option Spot → Type 0
Within w r = (x : Spot) → r ≡ Some x → Inside x.page w × (x.slot < most)

-- what `here` says of the path's pages, and `found` of a tree's gap
pub record Spots (here : List ℕ → ℕ → ℕ → Option Spot) (found : (h : ℕ) → Tree h → ℕ → Option Spot) (w ps ss : List ℕ) (r : Option Spot) : Type 0 where
  pub looked : r ≡ deepest (here w) ps ss
  pub within : Within w r
  pub exact : (low h : ℕ) (t : Tree h) (g : ℕ) → Sits w low h t → g ≤ size h t → PathOf h t g ps ss → r ≡ found h t g

abbrev pub SpotAfter : List ℕ → List ℕ → List ℕ → Option Spot → Type 0
SpotAfter w ps ss r = Spots here_after spot_of w ps ss r

abbrev pub SpotBefore : List ℕ → List ℕ → List ℕ → Option Spot → Type 0
SpotBefore w ps ss r = Spots here_before spot_before w ps ss r

-- ---- what a step answers

abbrev pub Step : Type 0
Step = Result (Option Entry) Unsound

abbrev pub given : model.Entry → Entry
given e = record { key = e.key; value = e.value }

abbrev pub step_by : pure.Option model.Entry → Step
step_by (pure.some e) = Ok (Some (given e))
step_by pure.none = Ok None

-- a step over the entry that `over` finds at the gap, to where `to` says
pub record Steps (over : ℕ → List model.Entry → pure.Option model.Entry) (to : pure.Option model.Entry → ℕ → ℕ) (w ps ss ps' ss' : List ℕ) (r : Step) : Type 0 where
  pub pages : length ps' ≡ length ps
  pub slots : length ss' ≡ length ss
  pub inside : (e : Entry) → r ≡ Ok (Some e) → PathIn w ps' ss'
  pub still : r ≡ Ok None → (ps' ≡ ps) × (ss' ≡ ss)
  pub exact : OnPath w ps ss (λ h t g. r ≡ step_by (over g (entries h t)))
  pub path : OnPath w ps ss (λ h t g. PathOf h t (to (over g (entries h t)) g) ps' ss')

-- ---- a step at one page

-- the rest of the path goes down from child `at` of page p
pub record Turns (w : List ℕ) (p at : ℕ) (aim : Aim) (ps ss ps' ss' : List ℕ) (r : Result ⊤ Unsound) : Type 0 where
  pub pages : length ps' ≡ length ps
  pub slots : length ss' ≡ length ss
  pub inside : r ≡ Ok tt → PathIn w ps' ss'
  pub exact : (low h : ℕ) (t : Tree h) → length ps ≡ h → Sits w low h t → Rising (entries h t) → (0 < h → below_of w p at ≡ Ok (page_number h t))
      → (r ≡ Ok tt) × (ps' ≡ seek_pages (aimed aim) h t) × (ss' ≡ seek_slots (aimed aim) h t)

-- over entry s of the path's first page, to child `slot`
pub record Overs (w : List ℕ) (s slot : ℕ) (aim : Aim) (ps ss ps' ss' : List ℕ) (r : Step) : Type 0 where
  pub pages : length ps' ≡ length ps
  pub slots : length ss' ≡ length ss
  pub inside : (e : Entry) → r ≡ Ok (Some e) → PathIn w ps' ss'
  pub still : r ≡ Ok None → (ps' ≡ ps) × (ss' ≡ ss)
  pub none : (low h : ℕ) (t : Tree (suc h)) → Sits w low (suc h) t → get_or ps 0 0 ≡ t.page → length t.own ≤ s → r ≡ Ok None
  pub over : (low h : ℕ) (t : Tree (suc h)) → length ps ≡ suc h → Sits w low (suc h) t → Rising (entries (suc h) t) → get_or ps 0 0 ≡ t.page
      → s < length t.own → slot ≤ length t.own
      → (r ≡ Ok (Some (given (get_or t.own s no_entry))))
      × (ps' ≡ t.page ∷ seek_pages (aimed aim) h (child h t slot))
      × (ss' ≡ slot ∷ seek_slots (aimed aim) h (child h t slot))

-- ---- a step along the path

abbrev pub Forth : List ℕ → List ℕ → List ℕ → List ℕ → List ℕ → Step → Type 0
Forth w ps ss ps' ss' r = Steps next forth w ps ss ps' ss' r

abbrev pub Back : List ℕ → List ℕ → List ℕ → List ℕ → List ℕ → Step → Type 0
Back w ps ss ps' ss' r = Steps prev back w ps ss ps' ss' r
