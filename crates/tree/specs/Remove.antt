-- Removal along a path: the entry after the path's gap goes, pages left with three are mended, upward, and a root left
-- without entries is freed.
-- Assumes nothing: these are definitions.
use Rattle.std.specs.Prelude.{◌≡◌, Bool, true, false, cond, ◌≢◌, List, [], ◌∷◌, ◌++◌, map, ℕ, zero, suc, ◌+◌, ◌-◌, ◌≤◌, ◌<◌, pred, leb, ltb, length, take, drop, Option, Some, None, Result, Ok, Err, ⊤}
use Rattle.model.specs.Basics.{sum, All, final, same}
use Rattle.model.specs.Layout.{head_words, first_word, pages_in, word, today}
use Rattle.model.specs.PageMap.{bit_at}
use Rattle.model.specs.Tree.{Entry, Tree, no_entry, size, entries, times, Shaped}
use Rattle.model.specs.Page.{count_of, height_of, entries_of}
use Rattle.model.specs.Standing.{page_number, Standing}
use Rattle.model.specs.Gap.{slot_at, rest_at, child_at}
use Rattle.model.specs.Mend.{Plan, keep, move, join, plan, mend}
use Rattle.model.specs.Remove as removal
use Rattle.model.specs.Remove.{plan_at, remove_at, remove}
use Rattle.model.specs.Freed.{freed_at, spare}
use Rattle.model.specs.Pool.{pool_of, gap_by, with_whole, least_by}
use Rattle.model.specs.Written.{Written}
use Rattle.pagemap.specs.Bits.{clear_bit}
use Rattle.page.specs.declared.Entry as lent
use Rattle.page.specs.declared.Unsound.{Unsound}
use Rattle.page.specs.Node.{less, instead}
use Rattle.lend.specs.Pages.{least, most, OnlyPages, node_in, Becomes, glued, can_give, can_get, can_join, MovesIn, page_in, map_in}
use Rattle.lend.specs.Touches.{Touches}
use Rattle.tree.specs.declared.remove.Mending.{Mending}
use Rattle.tree.specs.declared.remove.Mending.TheVariants as mending
use Rattle.tree.specs.Sits.{PathOf, Sits, AtEntry}
use Rattle.tree.specs.Search.{below_of}
use Rattle.tree.specs.Insert.{given, Marked, Rooted}
use Rattle.model.proofs.Mend.{Loose}
use Rattle.page.specs.Page.{plain, did}

-- ---- how a page left with three is mended

abbrev pub count_by : List ℕ → Result ℕ Unsound → ℕ
count_by w (Ok c) = count_of (page_in w c)
count_by w (Err e) = 0

-- how many entries child j of page u has
abbrev pub count_below : List ℕ → ℕ → ℕ → ℕ
count_below w u j = count_by w (below_of w u j)

-- of neighbours j and j + 1 the left one gives, the right one gives, or they join
abbrev pub plan_by : (ℕ → ℕ) → Mending → Plan
plan_by count mending.Keep = keep
plan_by count (mending.Left j) = move j (count j - 1)
plan_by count (mending.Right j) = move j (suc (count j))
plan_by count (mending.Join j) = join j

abbrev pub Plans : List ℕ → ℕ → ℕ → Mending → Type 0
Plans w u i r = plan_by (count_below w u) r ≡ plan least (count_of (page_in w u)) (count_below w u) i

-- one entry goes through page u between its children j and j + 1, which are cut again behind n; `ok` is asked of the
-- two pages
pub record MovesBelow (u j : ℕ) (n : ℕ → ℕ) (ok : ℕ → ℕ → Bool) (w w' : List ℕ) : Type 0 where
  pub long : length w' ≡ length w
  pub front : take (first_word today 0) w' ≡ take (first_word today 0) w
  pub moves : (l r : ℕ) → below_of w u j ≡ Ok l → below_of w u (suc j) ≡ Ok r → ok l r ≡ true → MovesIn u j l r (n l) true w w' (did true)

abbrev pub MovesLeft : ℕ → ℕ → List ℕ → List ℕ → Type 0
MovesLeft u j w w' = MovesBelow u j (λ l. count_of (page_in w l) - 1) (can_give w u j) w w'

abbrev pub MovesRight : ℕ → ℕ → List ℕ → List ℕ → Type 0
MovesRight u j w w' = MovesBelow u j (λ l. suc (count_of (page_in w l))) (can_get w u j) w w'

-- children j and j + 1 of page u become the left one, and the right one is freed
pub record Joined (u j l r : ℕ) (w w' : List ℕ) : Type 0 where
  pub above : Becomes u (less j (suc j) (node_in w u)) w w'
  pub left : Becomes l (glued w u j l r) w w'
  pub map : map_in w' ≡ clear_bit (map_in w) r
  pub touches : Touches (u ∷ l ∷ []) w w'

pub record JoinsBelow (u j : ℕ) (w w' : List ℕ) : Type 0 where
  pub long : length w' ≡ length w
  pub head : take head_words w' ≡ take head_words w
  pub joins : (l r : ℕ) → below_of w u j ≡ Ok l → below_of w u (suc j) ≡ Ok r → can_join w u j l r ≡ true → Joined u j l r w w'

-- children i - 1 to i + 1
abbrev pub near : {A : Type 0} → ℕ → List A → List A
near i l = drop (pred i) (take (suc (suc i)) l)

-- page u of a tree, of which child i may have one entry too few
pub record Mended (h : ℕ) (t : Tree (suc (suc h))) (i : ℕ) (w w' : List ℕ) : Type 0 where
  pub stands : Standing least (page_in w') (suc (suc h)) (mend (plan_at least h t i) t)
  pub bits : (q : ℕ) → bit_at (map_in w') q + sum (same q) (spare (plan_at least h t i) t) ≡ bit_at (map_in w) q
  pub touches : Touches (t.page ∷ map (page_number (suc h)) (near i t.children)) w w'

pub record Mends (u i : ℕ) (w w' : List ℕ) : Type 0 where
  pub long : length w' ≡ length w
  pub head : take head_words w' ≡ take head_words w
  pub mended : (h : ℕ) (t : Tree (suc (suc h))) → t.page ≡ u → Standing least (page_in w) (suc (suc h)) t → length t.children ≡ suc (length t.own)
      → length t.own ≤ most → Loose (Shaped least least h) least t i → Marked w (suc (suc h)) t
      → ((q : ℕ) → 0 < times q (suc (suc h)) t → q < pages_in today (length w)) → Mended h t i w w'

-- ---- one page

-- what is handed up: where the gap is the end of the entries, the last of them is to stand in the place of the one
-- after it
abbrev pub gone_by : List Entry → ℕ → Option lent.Entry
gone_by es g = cond (leb (length es) g) (Some (given (final no_entry es))) None

-- the entry at slot s of page p goes, or its last
pub record TakesOut (p s : ℕ) (w w' : List ℕ) (r : Option lent.Entry) : Type 0 where
  pub only : OnlyPages (p ∷ []) w w'
  pub answer : 1 ≤ count_of (page_in w p) → count_of (page_in w p) ≤ most → r ≡ gone_by (entries_of most (page_in w p)) s
  pub height : 1 ≤ count_of (page_in w p) → count_of (page_in w p) ≤ most → height_of (page_in w' p) ≡ height_of (page_in w p)
  pub own : 1 ≤ count_of (page_in w p) → count_of (page_in w p) ≤ most → entries_of most (page_in w' p) ≡ removal.gone s (entries_of most (page_in w p))

-- what came up stands for entry s of page p, where there is one; else it goes on up
abbrev pub inherited_by : Bool → Option lent.Entry → Option lent.Entry
inherited_by true g = None
inherited_by false g = g

pub record Inherits (p s : ℕ) (g : Option lent.Entry) (w w' : List ℕ) (r : Option lent.Entry) : Type 0 where
  pub only : OnlyPages (p ∷ []) w w'
  pub answer : r ≡ inherited_by (ltb s (count_of (page_in w p))) g
  pub kept : g ≡ None → w' ≡ w
  pub past : count_of (page_in w p) ≤ s → w' ≡ w
  pub holds : (e : lent.Entry) → g ≡ Some e → s < count_of (page_in w p) → count_of (page_in w p) ≤ most → Becomes p (instead s (plain e) (node_in w p)) w w'

-- ---- a tree

unfoldable pub gone_of : (h : ℕ) → Tree h → ℕ → Option lent.Entry
gone_of h t g = gone_by (entries h t) g

-- the pages that a removal below may change: those of the path, and their neighbours
unfoldable pub near_pages : (h : ℕ) → Tree (suc h) → ℕ → List ℕ
near_pages zero t g = t.page ∷ []
near_pages (suc h) t g =
    t.page ∷ map (page_number (suc h)) (near (slot_at (suc h) t g) t.children) ++ near_pages h (child_at (suc h) t g) (rest_at (suc h) t g)

pub record Shrinks (w : List ℕ) (h : ℕ) (t : Tree (suc h)) (g : ℕ) (w' : List ℕ) (r : Option lent.Entry) : Type 0 where
  pub handed : r ≡ gone_of (suc h) t g
  pub stands : Standing least (page_in w') (suc h) (remove_at least (suc h) t g)
  pub bits : (q : ℕ) → bit_at (map_in w') q + sum (same q) (freed_at least (suc h) t g) ≡ bit_at (map_in w) q
  pub touches : Touches (near_pages h t g) w w'

pub record RemovesBelow (w ps ss w' : List ℕ) (r : Option lent.Entry) : Type 0 where
  pub long : length w' ≡ length w
  pub head : take head_words w' ≡ take head_words w
  pub shrinks : (low h : ℕ) (t : Tree (suc h)) (g : ℕ) → Sits w low (suc h) t → g ≤ size (suc h) t → PathOf (suc h) t g ps ss → Marked w (suc h) t
      → Shrinks w h t g w' r

-- ---- the pool

-- the neighbours of child i of page u
abbrev pub Beside : List ℕ → ℕ → ℕ → Bool → Type 0
Beside w u i r = (low h : ℕ) (t : Tree (suc (suc h))) → Sits w low (suc (suc h)) t → t.page ≡ u → i ≤ length t.own → r ≡ true

-- all that a removal reads is sound
abbrev pub CanRemove : List ℕ → List ℕ → List ℕ → Bool → Type 0
CanRemove w ps ss r = (low h : ℕ) (t : Tree h) (g : ℕ) → Sits w low h t → g ≤ size h t → PathOf h t g ps ss → r ≡ true

-- the root is freed: words 3 and 4 become `root` and `levels`, its bit is cleared, and no page changes
pub record Lowered (root levels old : ℕ) (w w' : List ℕ) : Type 0 where
  pub rooted : Rooted root levels w w'
  pub map : map_in w' ≡ clear_bit (map_in w) old
  pub others : (p : ℕ) → page_in w' p ≡ page_in w p

-- the root is left without entries, or not
pub record Lowers (old levels : ℕ) (w w' : List ℕ) : Type 0 where
  pub long : length w' ≡ length w
  pub count : word w' 2 ≡ word w 2
  pub stays : 1 ≤ count_of (page_in w old) → w' ≡ w
  pub empties : count_of (page_in w old) ≡ 0 → levels ≡ 1 → Lowered 0 0 old w w'
  pub lowers : count_of (page_in w old) ≡ 0 → 2 ≤ levels → (c : ℕ) → below_of w old 0 ≡ Ok c → Lowered (suc c) (levels - 1) old w w'

-- the pages that a removal may change
abbrev pub near_in : (h : ℕ) → Tree h → ℕ → List ℕ
near_in zero t g = []
near_in (suc h) t g = near_pages h t g

pub record Removes (w ps ss w' : List ℕ) (r : Result ⊤ Unsound) : Type 0 where
  pub long : length w' ≡ length w
  pub kept : r ≡ Err (record {}) → w' ≡ w
  pub sound : AtEntry w ps ss (λ g. r ≡ Ok tt)
  pub holds : AtEntry w ps ss (λ g. gap_by (pool_of w) ≤ g → Written w' (with_whole (pool_of w) (remove (least_by (pool_of w)) (pool_of w).whole g)))
  pub others : AtEntry w ps ss (λ g. (q : ℕ) → All (λ p. q ≢ p) (near_in (pool_of w).whole.levels (pool_of w).whole.tree g) → page_in w' q ≡ page_in w q)
