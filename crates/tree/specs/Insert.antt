-- Insertion along a path: the pages it needs, what a page hands up, and the pool after. Fresh pages are the free ones,
-- lowest first.
-- Assumes nothing: these are definitions.
use Rattle.std.specs.Prelude.{◌≡◌, Bool, true, false, ◌≢◌, List, [], ◌∷◌, ◌++◌, ℕ, suc, ◌+◌, ◌≤◌, ◌<◌, length, take, get_or, Option, Some, None, Result, Ok, Err, ⊤}
use Rattle.model.specs.Basics.{tab, All, same}
use Rattle.model.specs.Sums.{sum_to}
use Rattle.model.specs.Layout.{head_words, pages_in, word, today}
use Rattle.model.specs.Head.{root_word, levels_word}
use Rattle.model.specs.PageMap.{bit_at}
use Rattle.model.specs.Tree.{Entry, Node, Tree, size, times, no_entry}
use Rattle.model.specs.Page.{count_of, height_of}
use Rattle.model.specs.Standing.{page_number, Standing, Holds}
use Rattle.model.specs.Path.{gap_pages}
use Rattle.model.specs.Insert as insertion
use Rattle.model.specs.Insert.{whole, split, cut_left, cut_right, insert_at, onward, run, needed}
use Rattle.model.specs.Pool.{pool_of, gap_by, fresh_of}
use Rattle.model.specs.Written.{Written}
use Rattle.model.specs.MapCalls.{put_at, crowded}
use Rattle.pagemap.specs.Bits.{set_bit}
use Rattle.pagemap.specs.Lowest.{free_in, lowest_of}
use Rattle.page.specs.declared.Entry as lent
use Rattle.page.specs.Node.{alone, wider}
use Rattle.lend.specs.Pages.{least, most, keeps, OnlyPages, node_in, Becomes, page_in, map_in}
use Rattle.lend.specs.Touches.{Touches}
use Rattle.tree.specs.declared.insert.Full.{Full}
use Rattle.tree.specs.declared.insert.Up.{Up}
use Rattle.tree.specs.Sits.{PathOf, Sits, AtGap}

-- an entry by value, as code has it
abbrev pub given : Entry → lent.Entry
given e = record { key = e.key; value = e.value }

-- the free pages by the map's words, lowest first
abbrev pub frees_in : List ℕ → List ℕ
frees_in w = free_in (map_in w) (pages_in today (length w))

abbrev pub fresh_in : List ℕ → ℕ → ℕ
fresh_in w k = get_or (frees_in w) k 0

-- ---- the pages an insert needs

-- along a path, root first: the number of full pages in an unbroken run from the last page upward
unfoldable pub run_on : List ℕ → List ℕ → ℕ
run_on w [] = 0
run_on w (p ∷ ps) = onward least (length ps) (count_of (page_in w p)) (run_on w ps)

pub record Needs (w ps : List ℕ) (r : ℕ) : Type 0 where
  pub most : r ≤ suc (length ps)
  pub exact : (low h : ℕ) (t : Tree h) (g : ℕ) → Sits w low h t → g ≤ size h t → ps ≡ gap_pages h t g
      → r ≡ needed least (record { levels = h; tree = t }) g

-- ---- one page

-- an entry and the child behind it are put into page p
abbrev pub fuller : List ℕ → ℕ → ℕ → Entry → ℕ → Node ℕ
fuller w p slot e child = wider slot e child (node_in w p)

-- an entry, and the page behind it, handed up
abbrev pub hands_up : Entry → ℕ → Option Up
hands_up e child = Some (record { entry = given e; child = child })

-- the page has room
pub record Fits (p slot : ℕ) (e : Entry) (child : ℕ) (w w' : List ℕ) (r : Option Up) : Type 0 where
  pub answer : r ≡ None
  pub holds : Becomes p (fuller w p slot e child) w w'
  pub only : OnlyPages (p ∷ []) w w'

-- the page is full: it keeps five, and page q gets four
pub record Parts (p q slot : ℕ) (e : Entry) (child : ℕ) (w w' : List ℕ) (r : Option Up) : Type 0 where
  pub answer : r ≡ hands_up (get_or (fuller w p slot e child).own keeps no_entry) q
  pub left : Becomes p (cut_left keeps (fuller w p slot e child)) w w'
  pub right : Holds most (height_of (page_in w p)) (cut_right q keeps (fuller w p slot e child)) (page_in w' q)
  pub map : map_in w' ≡ set_bit (map_in w) q
  pub touches : Touches (p ∷ q ∷ []) w w'

pub record Puts (p slot : ℕ) (e : Entry) (child : ℕ) (w w' : List ℕ) (r : Option Up) : Type 0 where
  pub long : length w' ≡ length w
  pub head : take head_words w' ≡ take head_words w
  pub fits : 1 ≤ count_of (page_in w p) → count_of (page_in w p) < most → slot ≤ count_of (page_in w p) → Fits p slot e child w w' r
  pub parts : (q : ℕ) → count_of (page_in w p) ≡ most → slot ≤ most → lowest_of (frees_in w) ≡ Some q → p ≢ q → Parts p q slot e child w w' r

-- ---- a tree

-- each page of the tree is met at most as often as its bit says
abbrev pub Marked : List ℕ → (h : ℕ) → Tree h → Type 0
Marked w h t = (q : ℕ) → times q h t ≤ bit_at (map_in w) q

-- what is handed up, by page numbers
abbrev pub up_of : (h : ℕ) → insertion.Up (Tree h) → Option Up
up_of h (whole t) = None
up_of h (split l e r) = hands_up e (page_number h r)

abbrev pub UpStands : List ℕ → (h : ℕ) → insertion.Up (Tree h) → Type 0
UpStands w h (whole t) = Standing least (page_in w) h t
UpStands w h (split l e r) = Standing least (page_in w) h l × Standing least (page_in w) h r

-- the pages that an insertion below may change: those of the path, and the fresh ones
abbrev pub grown_pages : List ℕ → (h : ℕ) → Tree h → ℕ → List ℕ
grown_pages w h t g = gap_pages h t g ++ tab (run least h t g) (fresh_in w)

pub record Grows (w : List ℕ) (h : ℕ) (t : Tree h) (g : ℕ) (e : Entry) (w' : List ℕ) (r : Option Up) : Type 0 where
  pub handed : r ≡ up_of h (insert_at least (fresh_in w) h t g e)
  pub stands : UpStands w' h (insert_at least (fresh_in w) h t g e)
  pub bits : (q : ℕ) → bit_at (map_in w') q ≡ bit_at (map_in w) q + sum_to (λ i. same q (fresh_in w i)) (run least h t g)
  pub touches : Touches (grown_pages w h t g) w w'

pub record InsertsBelow (w ps ss : List ℕ) (e : Entry) (w' : List ℕ) (r : Option Up) : Type 0 where
  pub long : length w' ≡ length w
  pub head : take head_words w' ≡ take head_words w
  pub grows : (low h : ℕ) (t : Tree h) (g : ℕ) → Sits w low h t → g ≤ size h t → PathOf h t g ps ss → Marked w h t → run least h t g ≤ length (frees_in w)
      → Grows w h t g e w' r

-- ---- the root

-- words 3 and 4 of the head
pub record Rooted (r h : ℕ) (w w' : List ℕ) : Type 0 where
  pub root : root_word w' ≡ r
  pub levels : levels_word w' ≡ h
  pub others : (i : ℕ) → i < head_words → i ≢ 3 → i ≢ 4 → word w' i ≡ word w i

-- page q is the root of a level more
pub record Tops (q levels : ℕ) (e : Entry) (l r : ℕ) (w w' : List ℕ) : Type 0 where
  pub holds : Holds most levels (alone e l r) (page_in w' q)
  pub rooted : Rooted (suc q) (suc levels) w w'
  pub map : map_in w' ≡ set_bit (map_in w) q
  pub others : (p : ℕ) → p ≢ q → page_in w' p ≡ page_in w p

pub record NewRoots (levels : ℕ) (e : Entry) (l r : ℕ) (w w' : List ℕ) : Type 0 where
  pub long : length w' ≡ length w
  pub count : word w' 2 ≡ word w 2
  pub tops : (q : ℕ) → lowest_of (frees_in w) ≡ Some q → Tops q levels e l r w w'

-- ---- the pool

abbrev pub full : Result ⊤ Full
full = Err (record {})

abbrev pub inserted_by : Bool → Result ⊤ Full
inserted_by true = full
inserted_by false = Ok tt

pub record Inserts (w ps ss : List ℕ) (e : Entry) (w' : List ℕ) (r : Result ⊤ Full) : Type 0 where
  pub long : length w' ≡ length w
  pub kept : r ≡ full → w' ≡ w
  pub exact : AtGap w ps ss (λ g. r ≡ inserted_by (crowded g (pool_of w)))
  pub holds : AtGap w ps ss (λ g. gap_by (pool_of w) ≤ g → crowded g (pool_of w) ≡ false → Written w' (put_at g e (pool_of w)))
  pub others : AtGap w ps ss (λ g. crowded g (pool_of w) ≡ false
      → (q : ℕ) → All (λ p. q ≢ p) (ps ++ tab (needed least (pool_of w).whole g) (fresh_of (pool_of w))) → page_in w' q ≡ page_in w q)
