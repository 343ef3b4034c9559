-- While a pool of P pages holds at most m entries a page, m · P in all, an insert has room: the pages that it needs are
-- at most those that are free. The reason: each page of a run of full ones holds m + 1 entries more than it must.
-- Assumes nothing.
use mathlib.Core.Bool.{cond}
use Prim.Native.Nat.{ℕ, zero, suc, ◌+◌, ◌*◌, ◌≤◌, ◌<◌}
use native.Mathlib.Nat.{lt_of_mul-lt-mul_left}
use native.Mathlib.Omega.{arith}
use lib.Dec.{eqb}
use lib.ListN.{length}
use borrow.Author.Tests.{eq-eqb, ne_eqb}
use Rattle.model.specs.Tree.{Tree, Whole, no_tree, size, Shaped, held, Formed}
use Rattle.model.specs.Gap.{slot_at, rest_at, child_at}
use Rattle.model.specs.Insert.{run, needed}
use Rattle.model.proofs.Sums.{sum-times, sum-le-at}
use Rattle.model.proofs.Gap.{size-suc, way_down, child-shaped}
use Rattle.model.proofs.Insert.{either-onward, run-le}
use Rattle.model.proofs.Numbers.{pages_below, pages_of, entries-least}

-- ---- the entries of a page above a run

page-run : (m low h : ℕ) (t : Tree (suc h)) (g k : ℕ) → Shaped m low (suc h) t → g ≤ size (suc h) t
    → m * pages_below h (child_at h t g) + suc m * k ≤ size h (child_at h t g)
    → m * pages_below (suc h) t + suc m * k + length t.own ≤ size (suc h) t + m
unfolding Shaped pages_below
page-run m low h t g k s b below =
    omega (
      arith,
      below,
      size-suc m low h t s,
      sum-times m (pages_below h) t.children,
      sum-le-at (Shaped m m h) (λ c. m * pages_below h c) (size h) t.children (slot_at h t g) (no_tree h) (entries-least m h)
          (way_down m low h t g s b).inside s.below,
    )

-- below the root
pub run-entries : (m h : ℕ) (t : Tree h) (g : ℕ) → Shaped m m h t → g ≤ size h t → m * pages_below h t + suc m * run m h t g ≤ size h t
unfolding run pages_below Shaped
run-entries m zero t g s b = omega arith
run-entries m (suc h) t g s b =
    let k : ℕ = run m h (child_at h t g) (rest_at h t g) in
    let p = page-run m m h t g k s b (run-entries m h (child_at h t g) (rest_at h t g) (child-shaped m m h t g s b) (way_down m m h t g s b).fits) in
    either-onward m h (length t.own) k (λ e. rw e (omega (arith, p, s.few))) (λ e q full. rw e (omega (arith, p)))

-- at the root, one more page is needed where the run includes it
abbrev needed_by : (h k : ℕ) → ℕ
needed_by h k = cond (eqb k h) (suc k) k

root-entries : (m h : ℕ) (t : Tree (suc h)) (g : ℕ) → Shaped m 1 (suc h) t → g ≤ size (suc h) t
    → m * (needed_by (suc h) (run m (suc h) t g) + pages_below (suc h) t) < size (suc h) t + m
unfolding run Shaped
root-entries m h t g s b =
    let k : ℕ = run m h (child_at h t g) (rest_at h t g) in
    let l : k ≤ h = run-le m h (child_at h t g) (rest_at h t g) in
    let p = page-run m 1 h t g k s b (run-entries m h (child_at h t g) (rest_at h t g) (child-shaped m 1 h t g s b) (way_down m 1 h t g s b).fits) in
    either-onward m h (length t.own) k
    (λ e. rw (e, ne_eqb k (suc h) (omega arith)) (omega (arith, p, s.few)))
    (λ e q full. rw (e, eq-eqb (suc k) (suc h) (omega arith)) (omega (arith, p)))

fits : (m P k n : ℕ) → m * k < n + m → n ≤ m * P → k ≤ P
fits m P k n a b = let l : k < suc P = lt_of_mul-lt-mul_left m (omega arith) in omega arith

-- that the pages of the tree are at most P follows: the entries decide it
pub room-enough : (m P : ℕ) (x : Whole) (g : ℕ) → 1 ≤ P → Formed m x → g ≤ length (held x) → length (held x) ≤ m * P → needed m x g + pages_of x ≤ P
unfolding Formed held pages_of needed run pages_below
room-enough m P x g p s b n = go x.levels x.tree s b n
  where
    go : (h : ℕ) (t : Tree h) → Shaped m 1 h t → g ≤ size h t → size h t ≤ m * P → needed_by h (run m h t g) + pages_below h t ≤ P
    go zero t s b n = p
    go (suc h) t s b n = fits m P (needed_by (suc h) (run m (suc h) t g) + pages_below (suc h) t) (size (suc h) t) (root-entries m h t g s b) n
