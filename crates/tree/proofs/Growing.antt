-- What an insertion below makes of a tree that sits in the pool, one page of the path after the other: from what its
-- child's insertion left to what is left of the tree. No page is met twice, so the pages that change are the path's and
-- the fresh ones, and all others stand as they stood.
-- Assumes nothing.
use mathlib.Core.Path.{◌≡◌, sym}
use mathlib.Core.Logic.{◌≢◌}
use mathlib.Core.List.{List}
use Prim.Native.Nat.{ℕ, suc, ◌+◌, ◌≤◌, ◌<◌}
use native.Mathlib.Omega.{arith}
use lib.ListN.{length, take, drop}
use borrow.Author.Tests.{le-leb, lt-leb, eq-eqb, ne_eqb}
use Rattle.model.specs.Basics.{splice, tab, sum, All, same}
use Rattle.model.specs.Sums.{sum_to}
use Rattle.model.specs.Layout.{pages_in, today}
use Rattle.model.specs.PageMap.{bit_at}
use Rattle.model.specs.Tree.{Entry, Tree, no_tree, size, times, Shaped}
use Rattle.model.specs.Standing.{Standing}
use Rattle.model.specs.Gap.{slot_at, rest_at, child_at}
use Rattle.model.specs.Path.{gap_pages}
use Rattle.model.specs.Insert.{Up, insert_at, run}
use Rattle.lend.specs.Pages.{least, most, page_in, map_in}
use Rattle.lend.specs.Touches.{Touches}
use Rattle.tree.specs.Sits.{Sits}
use Rattle.tree.specs.Insert.{frees_in, fresh_in, Marked, grown_pages}
use Rattle.model.proofs.Cases.{same_self}
use Rattle.model.proofs.Basics.{all_append, all_left, all_right, all_take, all-at, take-tab, get_or-tab, length-tab}
use Rattle.model.proofs.Sums.{sum-append, sum-at, all_apart, sum-tab}
use Rattle.model.proofs.PageMap.{fresh-once}
use Rattle.model.proofs.Gap.{path-met}
use Rattle.model.proofs.Insert.{either-onward}
use Rattle.model.proofs.Standing.{splice-standing}
use Rattle.pagemap.proofs.Map.{bit_at-le}
use Rattle.tree.proofs.Sitting.{sits-forks, sits-child, sits-slot, sits-rest}

-- ---- the pages that an insertion takes and changes

-- of the first k fresh pages, how many are page q
abbrev pub taking : List ℕ → ℕ → ℕ → ℕ
taking w q k = sum_to (λ i. same q (fresh_in w i)) k

-- each page that may change is the tree's or fresh
grown-met : (w : List ℕ) (low h : ℕ) (t : Tree h) (g q : ℕ) → Shaped least low h t → g ≤ size h t
    → sum (same q) (grown_pages w h t g) ≤ times q h t + taking w q (run least h t g)
grown-met w low h t g q s b =
    rw sum-append (omega (arith, path-met q least low h t g s b, sum-tab (same q) (fresh_in w) (run least h t g)))

-- of the child: what is handed up, how many pages are taken, which pages may change
abbrev pub up_below : List ℕ → (h : ℕ) → Tree (suc h) → ℕ → Entry → Up (Tree h)
up_below w h t g e = insert_at least (fresh_in w) h (child_at h t g) (rest_at h t g) e

abbrev pub run_below : (h : ℕ) → Tree (suc h) → ℕ → ℕ
run_below h t g = run least h (child_at h t g) (rest_at h t g)

abbrev pub grown_below : List ℕ → (h : ℕ) → Tree (suc h) → ℕ → List ℕ
grown_below w h t g = grown_pages w h (child_at h t g) (rest_at h t g)

-- the run of full pages ended below; it ends here, where there is room; it goes on through a full page
module _ (h : ℕ) (t : Tree (suc h)) (g : ℕ) where
  run-mono : run_below h t g ≤ run least (suc h) t g
  unfolding run
  run-mono = either-onward least h (length t.own) (run_below h t g) (λ e. rw e (omega arith)) (λ e k b. rw e (omega arith))

  pub run-ended : run_below h t g < h → run least (suc h) t g ≡ run_below h t g
  unfolding run
  run-ended b = rw (ne_eqb (run_below h t g) h (λ e. omega arith))

  pub run_ends : run_below h t g ≡ h → length t.own < most → run least (suc h) t g ≡ run_below h t g
  unfolding run
  run_ends e b = rw (eq-eqb (run_below h t g) h e, le-leb (suc (length t.own)) most b)

  pub run-goes : run_below h t g ≡ h → most ≤ length t.own → run least (suc h) t g ≡ suc h
  unfolding run
  run-goes e b = rw (eq-eqb (run_below h t g) h e, lt-leb (suc (length t.own)) most (omega arith))

-- a page that is none of those that may change is not the root's page, nor one of the child's, nor the fresh page that
-- the root's page takes
module _ (w : List ℕ) (h : ℕ) (t : Tree (suc h)) (g q : ℕ) (a : All (λ p. q ≢ p) (grown_pages w (suc h) t g)) where
  pub grown-page : q ≢ t.page
  unfolding gap_pages
  grown-page = a.0

  grown-fresh : All (λ p. q ≢ p) (tab (run least (suc h) t g) (fresh_in w))
  grown-fresh = all_right (λ p. q ≢ p) (gap_pages (suc h) t g) (tab (run least (suc h) t g) (fresh_in w)) a

  pub grown-child : All (λ p. q ≢ p) (grown_below w h t g)
  unfolding gap_pages
  grown-child =
      let path = gap_pages h (child_at h t g) (rest_at h t g) in
      let n = run least (suc h) t g in
      let k = run_below h t g in
      all_append (λ p. q ≢ p) path (tab k (fresh_in w)) (all_left (λ p. q ≢ p) path (tab n (fresh_in w)) a.1)
      (rw (take-tab k n (fresh_in w) (run-mono h t g)) at (all_take (λ p. q ≢ p) k (tab n (fresh_in w)) grown-fresh))

  pub grown-next : run least (suc h) t g ≡ suc h → q ≢ fresh_in w h
  grown-next k =
      let n = run least (suc h) t g in
      rw (get_or-tab n (fresh_in w) h 0 (omega arith)) at (all-at (λ p. q ≢ p) (tab n (fresh_in w)) h 0 (omega (arith, length-tab n (fresh_in w))) grown-fresh)

-- ---- a tree that can take an entry

pub record Ready (w : List ℕ) (low h : ℕ) (t : Tree h) (g : ℕ) : Type 0 where
  pub sits : Sits w low h t
  pub within : g ≤ size h t
  pub marked : Marked w h t
  pub room : run least h t g ≤ length (frees_in w)

module _ {w : List ℕ} {low h : ℕ} {t : Tree (suc h)} {g : ℕ} (a : Ready w low (suc h) t g) where
  -- no page is taken twice, so none is met twice
  pub once : (q : ℕ) → times q (suc h) t + taking w q (run least (suc h) t g) ≤ 1
  once q = omega (arith, a.marked q, fresh-once (bit_at (map_in w)) (pages_in today (length w)) (run least (suc h) t g) q a.room (bit_at-le (map_in w) q))

  pub once-below : (q : ℕ) → same q t.page + sum (times q h) t.children + taking w q (run_below h t g) ≤ 1
  unfolding times run sum_to
  once-below q =
      let o : times q (suc h) t + taking w q (run least (suc h) t g) ≤ 1 = once q in
      either-onward least h (length t.own) (run_below h t g) (λ e. omega (arith, rw e at o)) (λ e k b. omega (arith, rw e at o))

  pub inside : slot_at h t g < length t.children
  inside = omega (arith, sits-slot w low h t a.sits g a.within, sits-forks w low h t a.sits)

  parts : (q : ℕ) → sum (times q h) t.children
      ≡ sum (times q h) (take (slot_at h t g) t.children) + (times q h (child_at h t g) + sum (times q h) (drop (suc (slot_at h t g)) t.children))
  parts q = sum-at (times q h) t.children (slot_at h t g) (no_tree h) inside

  -- what the child's insertion asks
  pub child-ready : Ready w least h (child_at h t g) (rest_at h t g)
  unfolding times
  child-ready = record {
    sits = sits-child w low h t a.sits (slot_at h t g) (sits-slot w low h t a.sits g a.within);
    within = sits-rest w low h t a.sits g a.within;
    marked = λ q. omega (arith, a.marked q, parts q);
    room = omega (arith, run-mono h t g, a.room);
  }

  -- the page itself and the other children are not changed by the child's insertion
  apart : (q : ℕ) → 0 < same q t.page + (sum (times q h) (take (slot_at h t g) t.children) + sum (times q h) (drop (suc (slot_at h t g)) t.children))
      → All (λ p. q ≢ p) (grown_below w h t g)
  apart q l =
      all_apart q (grown_below w h t g)
      (omega (arith, grown-met w least h (child_at h t g) (rest_at h t g) q child-ready.sits.shaped child-ready.within, once-below q, parts q))

  module _ (w₁ : List ℕ) (c : Touches (grown_below w h t g) w w₁) where
    pub page-kept : page_in w₁ t.page ≡ page_in w t.page
    page-kept = c.others t.page (apart t.page (omega (arith, same_self t.page)))

    pub others-stand : (cs : List (Tree h)) → All (Standing least (page_in w₁) h) cs → All (Standing least (page_in w₁) h) (splice (slot_at h t g) cs t.children)
    unfolding Standing
    others-stand cs all = splice-standing least (page_in w) (page_in w₁) h (slot_at h t g) cs t.children (λ q l. sym (c.others q (apart q (omega arith)))) a.sits.stands.1 all
