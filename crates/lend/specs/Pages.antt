-- Pages of one pool, lent one after the other: which words may change, and what is left of the pages by `model`'s
-- nodes. Splitting, taking from a neighbour and joining each have one shape: where their tests hold it is done, else no
-- word changes.
-- Assumes nothing: these are definitions.
use Rattle.std.specs.Prelude.{◌≡◌, Bool, true, false, not, ◌≢◌, List, [], ◌∷◌, ℕ, suc, ◌+◌, ◌-◌, ◌≤◌, leb, ltb, eqb, length, take, get_or, Result}
use Rattle.model.specs.Basics.{All, every}
use Rattle.model.specs.Layout.{most_entries, first_word, today}
use Rattle.model.specs.PageMap.{map_at}
use Rattle.model.specs.Tree.{Entry, Node, no_entry}
use Rattle.model.specs.Page.{count_of, height_of, entries_of, children_of, page_at}
use Rattle.model.specs.Standing.{node_of, Holds}
use Rattle.model.specs.Insert as insertion
use Rattle.model.specs.Insert.{cut_left, cut_right}
use Rattle.model.specs.Mend.{glue}
use Rattle.page.specs.declared.Entry as lent
use Rattle.page.specs.declared.Unsound.{Unsound}
use Rattle.page.specs.Node.{more, less, instead}
use Rattle.page.specs.Page.{did, parted, room_at, holds_at, full_at}

-- in today's geometry, which code is written for: the fewest entries of a page that is not the root, 4, and the most of
-- a page, 9; the map's words, and page p's
abbrev pub least : ℕ
least = today.least

abbrev pub most : ℕ
most = most_entries least

abbrev pub map_in : List ℕ → List ℕ
map_in = map_at today

abbrev pub page_in : List ℕ → ℕ → List ℕ
page_in = page_at today

-- a page that would hold one too many keeps so many: 5
abbrev pub keeps : ℕ
keeps = insertion.kept least

-- page p lies inside the words
abbrev pub Inside : ℕ → List ℕ → Type 0
Inside p w = first_word today (suc p) ≤ length w

-- no word outside the pages ps is changed
pub record OnlyPages (ps w w' : List ℕ) : Type 0 where
  pub long : length w' ≡ length w
  pub front : take (first_word today 0) w' ≡ take (first_word today 0) w
  pub others : (q : ℕ) → All (λ p. q ≢ p) ps → page_in w' q ≡ page_in w q

-- page p by its words
abbrev pub node_in : List ℕ → ℕ → Node ℕ
node_in w p = node_of most p (page_in w p)

abbrev pub entry_of : List ℕ → ℕ → ℕ → Entry
entry_of w p slot = get_or (entries_of most (page_in w p)) slot no_entry

abbrev pub child_of : List ℕ → ℕ → ℕ → ℕ
child_of w p at = get_or (children_of most (page_in w p)) at 0

-- page p becomes x, with the height that it had
abbrev pub Becomes : ℕ → Node ℕ → List ℕ → List ℕ → Type 0
Becomes p x w w' = Holds most (height_of (page_in w p)) x (page_in w' p)

-- ---- one page changed

pub record ChangesIn (p : ℕ) (ok : Bool) (x : Node ℕ) (w w' : List ℕ) (r : Result (Unit {0}) Unsound) : Type 0 where
  pub answer : r ≡ did ok
  pub kept : ok ≡ false → w' ≡ w
  pub holds : ok ≡ true → Becomes p x w w'
  pub only : OnlyPages (p ∷ []) w w'

-- ---- a full page with one entry more, x: the first five stay, the sixth goes up, and page q gets the last four

unfoldable pub can_split : List ℕ → ℕ → ℕ → ℕ → Bool
can_split w p q slot = every (not (eqb p q) ∷ full_at most (page_in w p) slot ∷ [])

-- what becomes of page p
pub record KeepsIn (p : ℕ) (ok : Bool) (x : Node ℕ) (w w' : List ℕ) (r : Result lent.Entry Unsound) : Type 0 where
  pub answer : r ≡ parted ok (get_or x.own keeps no_entry)
  pub kept : ok ≡ false → w' ≡ w
  pub left : ok ≡ true → Becomes p (cut_left keeps x) w w'
  pub only : OnlyPages (p ∷ []) w w'

-- what becomes of both
pub record SplitsIn (p q : ℕ) (ok : Bool) (x : Node ℕ) (w w' : List ℕ) (r : Result lent.Entry Unsound) : Type 0 where
  pub answer : r ≡ parted ok (get_or x.own keeps no_entry)
  pub kept : ok ≡ false → w' ≡ w
  pub left : ok ≡ true → Becomes p (cut_left keeps x) w w'
  pub right : ok ≡ true → Holds most (height_of (page_in w p)) (cut_right q keeps x) (page_in w' q)
  pub only : OnlyPages (p ∷ q ∷ []) w w'

-- ---- two neighbours l and r, with entry i of their parent u between them

abbrev pub are_apart : ℕ → ℕ → ℕ → List Bool
are_apart u l r = not (eqb u l) ∷ not (eqb u r) ∷ not (eqb l r) ∷ []

-- the three as one page
abbrev pub glued : List ℕ → ℕ → ℕ → ℕ → ℕ → Node ℕ
glued w u i l r = glue (node_in w l) (entry_of w u i) (node_in w r)

-- the entry at slot `fs` of page `from` can go up to entry i of page u, and that one down to slot `ts` of page `to`;
-- children at `fa` and `ta`
unfoldable pub can_pass : List ℕ → ℕ → ℕ → ℕ → ℕ → ℕ → ℕ → ℕ → ℕ → Bool
can_pass w u i from fs fa to ts ta =
    every (every (are_apart u from to) ∷ holds_at most (page_in w u) i 0 ∷ holds_at most (page_in w from) fs fa ∷ room_at most (page_in w to) ts ta ∷ [])

pub record PassesIn (u i from fs fa to ts ta : ℕ) (ok : Bool) (w w' : List ℕ) (r : Result (Unit {0}) Unsound) : Type 0 where
  pub answer : r ≡ did ok
  pub kept : ok ≡ false → w' ≡ w
  pub above : ok ≡ true → Becomes u (instead i (entry_of w from fs) (node_in w u)) w w'
  pub gave : ok ≡ true → Becomes from (less fs fa (node_in w from)) w w'
  pub got : ok ≡ true → Becomes to (more ts (entry_of w u i) ta (child_of w from fa) (node_in w to)) w w'
  pub only : OnlyPages (u ∷ from ∷ to ∷ []) w w'

-- one entry through the parent: the three as one page are cut again behind n entries
pub record MovesIn (u i l r n : ℕ) (ok : Bool) (w w' : List ℕ) (a : Result (Unit {0}) Unsound) : Type 0 where
  pub answer : a ≡ did ok
  pub kept : ok ≡ false → w' ≡ w
  pub above : ok ≡ true → Becomes u (instead i (get_or (glued w u i l r).own n no_entry) (node_in w u)) w w'
  pub left : ok ≡ true → Becomes l (cut_left n (glued w u i l r)) w w'
  pub right : ok ≡ true → Becomes r (cut_right r n (glued w u i l r)) w w'
  pub only : OnlyPages (u ∷ l ∷ r ∷ []) w w'

-- the left page can give its last entry, the right page its first
abbrev pub can_give : List ℕ → ℕ → ℕ → ℕ → ℕ → Bool
can_give w u i l r = can_pass w u i l (count_of (page_in w l) - 1) (count_of (page_in w l)) r 0 0

abbrev pub can_get : List ℕ → ℕ → ℕ → ℕ → ℕ → Bool
can_get w u i l r = can_pass w u i r 0 0 l (count_of (page_in w l)) (suc (count_of (page_in w l)))

-- the two and the entry fit into one page
unfoldable pub can_join : List ℕ → ℕ → ℕ → ℕ → ℕ → Bool
can_join w u i l r =
    every (every (are_apart u l r) ∷ holds_at most (page_in w u) i (suc i) ∷ leb 1 (count_of (page_in w l)) ∷ leb 1 (count_of (page_in w r))
    ∷ ltb (count_of (page_in w l) + count_of (page_in w r)) most ∷ [])

-- the left page holds the three, and the parent loses entry i and the right page's number; the right page keeps its
-- words
pub record JoinsIn (u i l r : ℕ) (ok : Bool) (w w' : List ℕ) (a : Result (Unit {0}) Unsound) : Type 0 where
  pub answer : a ≡ did ok
  pub kept : ok ≡ false → w' ≡ w
  pub above : ok ≡ true → Becomes u (less i (suc i) (node_in w u)) w w'
  pub left : ok ≡ true → Becomes l (glued w u i l r) w w'
  pub only : OnlyPages (u ∷ l ∷ []) w w'
