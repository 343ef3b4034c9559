-- The run of full pages along a path: one page more at the path's end, and that it is `model`'s run of the tree that
-- sits in the pool.
-- Assumes nothing.
use mathlib.Core.Path.{◌≡◌, refl, ap, ◌∙◌}
use mathlib.Core.Bool.{cond}
use mathlib.Core.Logic.{◌≢◌}
use mathlib.Core.List.{List, [], ◌∷◌, ◌++◌}
use Prim.Native.Nat.{ℕ, zero, suc, ◌+◌, ◌-◌, ◌≤◌, ◌<◌}
use native.Mathlib.Omega.{arith}
use lib.Dec.{eqb}
use lib.ListN.{length, take, length-append}
use lib.Seq.{take_all, take-suc}
use borrow.Author.Tests.{le-leb, lt-leb, eq-eqb, ne_eqb}
use Rattle.model.specs.Layout.{most_entries}
use Rattle.model.specs.Tree.{Tree, size}
use Rattle.model.specs.Page.{count_of}
use Rattle.model.specs.Gap.{rest_at, child_at}
use Rattle.model.specs.Path.{gap_pages}
use Rattle.model.specs.Insert.{onward, run, needed}
use Rattle.lend.specs.Pages.{least, most, page_in}
use Rattle.tree.specs.declared.steps.Spot.{Spot}
use Rattle.tree.specs.Sits.{Sits, pages_of}
use Rattle.tree.specs.Insert.{run_on, Needs}
use Rattle.model.proofs.Cases.{either-le, either-eq}
use Rattle.model.proofs.Search.{path-long}
use Rattle.model.proofs.Insert.{either-onward}
use Rattle.tree.proofs.Saying.{root-count}
use Rattle.tree.proofs.Paths.{pages-long}
use Rattle.tree.proofs.Backward.{Turn}
use Rattle.tree.proofs.Sitting.{sits-child, sits-slot, sits-rest}

-- ---- along a path

pub run-on-le : (w ps : List ℕ) → run_on w ps ≤ length ps
unfolding run_on
run-on-le w [] = omega arith
run-on-le w (p ∷ ps) =
    either-onward least (length ps) (count_of (page_in w p)) (run_on w ps)
    (λ e. rw e (omega (arith, run-on-le w ps)))
    (λ e k b. rw e (omega arith))

-- a last page with room: there is no run
pub run-on-room : (w ps : List ℕ) (p : ℕ) → count_of (page_in w p) < most → run_on w (ps ++ p ∷ []) ≡ 0
unfolding run_on
run-on-room w [] p b = rw (le-leb (suc (count_of (page_in w p))) most b)
run-on-room w (x ∷ ps) p b = rw (run-on-room w ps p b, ne_eqb 0 (length (ps ++ p ∷ [])) (λ e. omega (arith, length-append ps (p ∷ []))))

onward-suc : (m h count k : ℕ) → onward m (suc h) count (suc k) ≡ suc (onward m h count k)
onward-suc m h count k =
    either-eq k h
    (λ e. either-le (suc count) (most_entries m)
    (λ b. rw (eq-eqb (suc k) (suc h) (ap suc e), eq-eqb k h e, le-leb (suc count) (most_entries m) b))
    (λ b. rw (eq-eqb (suc k) (suc h) (ap suc e), eq-eqb k h e, lt-leb (suc count) (most_entries m) b)))
    (λ d. rw (ne_eqb (suc k) (suc h) (λ e. d (omega arith)), ne_eqb k h d))

-- a full last page: the run is one longer
pub run-on-full : (w ps : List ℕ) (p : ℕ) → most ≤ count_of (page_in w p) → run_on w (ps ++ p ∷ []) ≡ suc (run_on w ps)
unfolding run_on
run-on-full w [] p b = rw (lt-leb (suc (count_of (page_in w p))) most (omega arith))
run-on-full w (x ∷ ps) p b =
    let long : length (ps ++ p ∷ []) ≡ suc (length ps) = omega (arith, length-append ps (p ∷ [])) in
    rw (run-on-full w ps p b, long) (onward-suc least (length ps) (count_of (page_in w x)) (run_on w ps))

-- ---- the same, as code comes from the path's end

-- after n turns: the last n pages are full, and belong to the run
pub record Counted (w : List ℕ) (path : List Spot) (n : ℕ) : Type 0 where
  pub within : n ≤ length path
  pub run : run_on w (pages_of path) ≡ n + run_on w (take (length path - n) (pages_of path))

pub counted_none : (w : List ℕ) (path : List Spot) → Counted w path 0
counted_none w path = record {
  within = omega arith;
  run = rw (take_all (length path - 0) (pages_of path) (omega (arith, pages-long path))) (omega arith);
}

module _ (w : List ℕ) (path : List Spot) (n : ℕ) (spot : Spot) (a : Counted w path n) (turn : Turn path n spot) where
  split-last : take (length path - n) (pages_of path) ≡ take (length path - n - 1) (pages_of path) ++ (spot.page ∷ [])
  split-last =
      let more : suc (length path - n - 1) ≡ length path - n = omega (arith, turn.within) in
      rw (more, turn.page) at (take-suc (pages_of path) (length path - n - 1) 0 (omega (arith, turn.within, pages-long path)))

  pub counted-room : count_of (page_in w spot.page) < most → n ≡ run_on w (pages_of path)
  counted-room b = omega (arith, a.run, ap (run_on w) split-last ∙ run-on-room w (take (length path - n - 1) (pages_of path)) spot.page b)

  pub counted-full : most ≤ count_of (page_in w spot.page) → Counted w path (n + 1)
  counted-full b =
      let less : length path - (n + 1) ≡ length path - n - 1 = omega arith in
      record {
        within = omega (arith, turn.within);
        run = rw less
            (omega (arith, a.run, ap (run_on w) split-last ∙ run-on-full w (take (length path - n - 1) (pages_of path)) spot.page b));
      }

pub counted-all : (w : List ℕ) (path : List Spot) (n : ℕ) → Counted w path n → n ≡ length path → n ≡ run_on w (pages_of path)
unfolding run_on
counted-all w path n a all =
    let none : length path - n ≡ 0 = omega arith in
    let run : run_on w (pages_of path) ≡ n + 0 = rw none at a.run in
    omega (arith, run)

-- ---- of a tree

pub run-on-is : (w : List ℕ) (low h : ℕ) (t : Tree h) (g : ℕ) → Sits w low h t → g ≤ size h t → run_on w (gap_pages h t g) ≡ run least h t g
unfolding run_on gap_pages run
run-on-is w low zero t g s b = refl
run-on-is w low (suc h) t g s b =
    let ih = run-on-is w least h (child_at h t g) (rest_at h t g) (sits-child w low h t s _ (sits-slot w low h t s g b)) (sits-rest w low h t s g b) in
    rw (ih, (path-long h (child_at h t g) (rest_at h t g)).0, root-count w h t s.stands)

-- the pages needed: one more where the run goes through the root
needs-of : (w ps : List ℕ) (k r : ℕ) → k ≡ run_on w ps → r ≡ cond (eqb k (length ps)) (suc k) k → r ≤ suc (length ps) → Needs w ps r
unfolding needed
needs-of w ps k r e n few = record {
  most = few;
  exact = λ low h t g s b path.
      let is : k ≡ run least h t g = e ∙ ap (run_on w) path ∙ run-on-is w low h t g s b in
      let long : length ps ≡ h = ap length path ∙ (path-long h t g).0 in
      rw (is, long) at n;
}

pub needs-one : (w : List ℕ) (path : List Spot) (k : ℕ) → k ≡ run_on w (pages_of path) → k ≡ length path → Needs w (pages_of path) (k + 1)
needs-one w path k e all =
    let long = pages-long path in
    needs-of w (pages_of path) k (k + 1) e (rw (eq-eqb k (length (pages_of path)) (omega arith)) (omega arith)) (omega arith)

pub needs-same : (w : List ℕ) (path : List Spot) (k : ℕ) → k ≡ run_on w (pages_of path) → k ≢ length path → Needs w (pages_of path) k
needs-same w path k e other =
    needs-of w (pages_of path) k k e (rw (ne_eqb k (length (pages_of path)) (λ same. other (same ∙ pages-long path))))
    (omega (arith, run-on-le w (pages_of path)))
