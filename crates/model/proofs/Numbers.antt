-- The numbers of a tree: its pages, as many as walking meets; the fewest and most entries of so many pages; the fewest
-- pages and entries of so many levels. Over m, the fewest entries of a page that is not the root. In a lawful geometry,
-- a tree of no more pages than there may be has no more levels than there may be.
-- Assumes nothing.
use mathlib.Core.Path.{◌≡◌, refl, ◌∙◌}
use mathlib.Core.List.{List, [], ◌∷◌}
use Prim.Native.Nat.{ℕ, zero, suc, pred, ◌+◌, ◌*◌, ◌^◌, ◌≤◌, ◌<◌}
use native.Mathlib.Nat.{pow-zero, pow-succ', pow-le-pow_right, mul-le-mul_left, mul-le-mul_right}
use native.Mathlib.Omega.{arith}
use lib.ListN.{length}
use Rattle.model.specs.declared.Geometry.{Geometry}
use Rattle.model.specs.Basics.{sum, same}
use Rattle.model.specs.Sums.{sum_to}
use Rattle.model.specs.Layout.{most_pages, most_levels, most_entries}
use Rattle.model.specs.Lawful.{Lawful}
use Rattle.model.specs.Tree.{Tree, Whole, entries, size, times, Shaped, held, Formed}
use Rattle.model.proofs.Cases.{either-le, either_lt, same_self}
use Rattle.model.proofs.Sums.{sum_to-none, sum-const, sum-times, sum_to-plus, sum-le, sum_to-same}
use Rattle.model.proofs.Gap.{size-suc}

-- ---- the pages of a tree

unfoldable pub pages_below : (h : ℕ) → Tree h → ℕ
pages_below zero t = 0
pages_below (suc h) t = suc (sum (pages_below h) t.children)

unfoldable pub pages_of : Whole → ℕ
pages_of x = pages_below x.levels x.tree

pub pages-some : (x : Whole) → 1 ≤ x.levels → 1 ≤ pages_of x
unfolding pages_of pages_below
pages-some x = go x.levels x.tree
  where
    go : (h : ℕ) (t : Tree h) → 1 ≤ h → 1 ≤ pages_below h t
    go zero t l = absurd (omega arith)
    go (suc h) t l = omega arith

-- they are as many as walking meets, where it meets none past P. `f` says how often it meets page p below a child, `k`
-- how many pages stand there
met-among : {S : Type 0} (f : ℕ → S → ℕ) (k : S → ℕ) (P : ℕ) → ((s : S) → ((p : ℕ) → P ≤ p → f p s ≡ 0) → sum_to (λ p. f p s) P ≡ k s)
    → (l : List S) → ((p : ℕ) → P ≤ p → sum (f p) l ≡ 0) → sum_to (λ p. sum (f p) l) P ≡ sum k l
met-among f k P one [] z = sum_to-none (λ p. 0) P (λ i l. refl)
met-among f k P one (s ∷ l) z =
    sum_to-plus (λ p. f p s) (λ p. sum (f p) l) P
    ∙ omega (arith, one s (λ p b. omega (arith, z p b)), met-among f k P one l (λ p b. omega (arith, z p b)))

pub pages-met : (h : ℕ) (t : Tree h) (P : ℕ) → ((p : ℕ) → P ≤ p → times p h t ≡ 0) → sum_to (λ p. times p h t) P ≡ pages_below h t
unfolding times pages_below
pages-met zero t P z = sum_to-none (λ p. 0) P (λ i l. refl)
pages-met (suc h) t P z =
    let inside : t.page < P = either_lt t.page P (λ b. b) (λ b. omega (arith, z t.page b, same_self t.page)) in
    sum_to-plus (λ p. same p t.page) (λ p. sum (times p h) t.children) P
    ∙ omega (
      arith,
      sum_to-same t.page P inside,
      met-among (λ p s. times p h s) (pages_below h) P (λ s b. pages-met h s P b) t.children (λ p b. omega (arith, z p b)),
    )

-- ---- how many entries so many pages hold

pub entries-most : (m low h : ℕ) (t : Tree h) → Shaped m low h t → size h t ≤ most_entries m * pages_below h t
unfolding entries Shaped pages_below
entries-most m low zero t s = omega arith
entries-most m low (suc h) t s =
    omega (
      arith,
      s.many,
      size-suc m low h t s,
      sum-times (most_entries m) (pages_below h) t.children,
      sum-le (Shaped m m h) (size h) (λ c. most_entries m * pages_below h c) t.children (entries-most m m h) s.below,
    )

-- at least m entries a page, but at least `low` in the top page
page-least : (m low h : ℕ) (t : Tree (suc h)) → ((c : Tree h) → Shaped m m h c → m * pages_below h c ≤ size h c) → Shaped m low (suc h) t
    → m * pages_below (suc h) t + low ≤ size (suc h) t + m
unfolding Shaped pages_below
page-least m low h t one s =
    omega (
      arith,
      s.few,
      size-suc m low h t s,
      sum-times m (pages_below h) t.children,
      sum-le (Shaped m m h) (λ c. m * pages_below h c) (size h) t.children one s.below,
    )

pub entries-least : (m h : ℕ) (t : Tree h) → Shaped m m h t → m * pages_below h t ≤ size h t
unfolding pages_below
entries-least m zero t s = omega arith
entries-least m (suc h) t s = omega (arith, page-least m m h t (entries-least m h) s)

-- ---- how many pages so many levels take

-- the pages of a tree whose every page holds m entries
unfoldable pub fewest : (m h : ℕ) → ℕ
fewest m zero = 0
fewest m (suc h) = suc (suc m * fewest m h)

pub fewest-pow : (m h : ℕ) → suc (m * fewest m h) ≡ suc m ^ h
unfolding fewest
fewest-pow m zero = rw pow-zero (omega arith)
fewest-pow m (suc h) = rw (pow-succ', ← fewest-pow m h) (omega arith)

pages-wide : (m low h : ℕ) (t : Tree (suc h)) → ((c : Tree h) → Shaped m m h c → fewest m h ≤ pages_below h c) → Shaped m low (suc h) t
    → suc (suc low * fewest m h) ≤ pages_below (suc h) t
unfolding Shaped pages_below
pages-wide m low h t one s =
    let wide : suc low ≤ length t.children = omega (arith, s.few, s.forks) in
    omega (
      arith,
      mul-le-mul_right (fewest m h) wide,
      sum-const (fewest m h) t.children,
      sum-le (Shaped m m h) (λ c. fewest m h) (pages_below h) t.children one s.below,
    )

pub pages-deep : (m h : ℕ) (t : Tree h) → Shaped m m h t → fewest m h ≤ pages_below h t
unfolding fewest
pages-deep m zero t s = omega arith
pages-deep m (suc h) t s = pages-wide m m h t (pages-deep m h) s

-- the root has one entry at least, and so two children
pub pages-least : (m h : ℕ) (t : Tree (suc h)) → Shaped m 1 (suc h) t → suc (2 * fewest m h) ≤ pages_below (suc h) t
pages-least m h t s = pages-wide m 1 h t (pages-deep m h) s

pub levels-bound : (m h : ℕ) (t : Tree (suc h)) → Shaped m 1 (suc h) t → 2 * suc m ^ h ≤ suc (size (suc h) t)
levels-bound m h t s =
    rw (← fewest-pow m h) (omega (arith, mul-le-mul_left m (pages-least m h t s), page-least m 1 h t (entries-least m h) s))

-- ---- of whole trees

pub whole-bound : (m : ℕ) (x : Whole) → Formed m x → 1 ≤ x.levels → 2 * suc m ^ pred x.levels ≤ suc (length (held x))
unfolding Formed held
whole-bound m x = go x.levels x.tree
  where
    go : (h : ℕ) (t : Tree h) → Shaped m 1 h t → 1 ≤ h → 2 * suc m ^ pred h ≤ suc (size h t)
    go zero t s l = absurd (omega arith)
    go (suc h) t s l = levels-bound m h t s

pub whole-most : (m : ℕ) (x : Whole) → Formed m x → length (held x) ≤ most_entries m * pages_of x
unfolding Formed held pages_of
whole-most m x s = entries-most m 1 x.levels x.tree s

-- one level more takes more pages than there may be: where m is 4, 7 levels take 7,813
pub levels-most : (γ : Geometry) → Lawful γ → (x : Whole) → Formed γ.least x → pages_of x ≤ most_pages γ → x.levels ≤ most_levels γ
unfolding Formed pages_of
levels-most γ law x = go x.levels x.tree
  where
    go : (h : ℕ) (t : Tree h) → Shaped γ.least 1 h t → pages_below h t ≤ most_pages γ → h ≤ most_levels γ
    go zero t s b = omega arith
    go (suc h) t s b = either-le (suc h) (most_levels γ) (λ l. l)
        (λ l. let deep : most_levels γ ≤ h = omega arith in
        let wide : suc (2 * fewest γ.least h) ≤ most_pages γ = omega (arith, pages-least γ.least h t s) in
        omega (arith, law.deep, mul-le-mul_left γ.least wide, fewest-pow γ.least h, pow-le-pow_right {n = suc γ.least} (omega arith) deep))
