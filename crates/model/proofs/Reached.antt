-- The pages reached from the root by words alone, against the tree: in a sound pool they are those that the map marks,
-- each has one route, and the routes to leaves are all as long as the levels say.
-- Assumes nothing.
use mathlib.Core.Path.{◌≡◌, refl, sym, ap, ap₂, subst}
use mathlib.Core.Logic.{◌≢◌}
use mathlib.Core.List.{List, [], ◌∷◌}
use Prim.Native.Nat.{ℕ, zero, suc, pred, min, ◌+◌, ◌≤◌, ◌<◌}
use native.Mathlib.Omega.{arith}
use lib.ListN.{length}
use Rattle.model.specs.Basics.{tab, sum, same}
use Rattle.model.specs.Layout.{most_entries}
use Rattle.model.specs.Head.{least_of, count_word, root_word, levels_word}
use Rattle.model.specs.PageMap.{map_of, bit_at}
use Rattle.model.specs.Tree.{Tree, times, meets}
use Rattle.model.specs.Page.{page_of, count_of, height_of, child_in, children_of, read_tree, Heights}
use Rattle.model.specs.Pool.{whole_of}
use Rattle.model.specs.Sound.{Sound}
use Rattle.model.specs.Reached.{Leads, here, down, Reached}
use Rattle.model.proofs.Cases.{either_lt, either-eq, same_self, same-eq, same-other}
use Rattle.model.proofs.Basics.{map-tab, all-at, length-tab, get_or-tab}
use Rattle.model.proofs.Sums.{sum-at}
use Rattle.model.proofs.PageMap.{bit_at_lt}
use Rattle.model.proofs.Head.{head-facts}

-- one or two terms of a sum, and one that is not 0
module _ {A : Type 0} (f : A → ℕ) where
  sum-term : (g : ℕ → A) (n i : ℕ) → i < n → f (g i) ≤ sum f (tab n g)
  sum-term g n i h = omega (arith, sum-at f (tab n g) i (g 0) (omega (arith, length-tab n g)), ap f (get_or-tab n g i (g 0) h))

  sum-two : (g : ℕ → A) (n i j : ℕ) → i ≢ j → i < n → j < n → f (g i) + f (g j) ≤ sum f (tab n g)
  sum-two g zero i j d h l = absurd (omega arith)
  sum-two g (suc n) zero zero d h l = absurd (omega arith)
  sum-two g (suc n) zero (suc j) d h l = omega (arith, sum-term (λ k. g (suc k)) n j (omega arith))
  sum-two g (suc n) (suc i) zero d h l = omega (arith, sum-term (λ k. g (suc k)) n i (omega arith))
  sum-two g (suc n) (suc i) (suc j) d h l = omega (arith, sum-two (λ k. g (suc k)) n i j (omega arith) (omega arith) (omega arith))

  sum-some : (g : ℕ → A) (n : ℕ) → 1 ≤ sum f (tab n g) → (i : ℕ) × (i < n) × (1 ≤ f (g i))
  sum-some g zero h = absurd (omega arith)
  sum-some g (suc n) h =
      either_lt 0 (f (g 0)) (λ l. (0, omega arith, l)) (λ z. let r = sum-some (λ k. g (suc k)) n (omega arith) in (suc r.0, omega arith, r.2))

-- ---- routes in any pages

module _ (m : ℕ) (pages : ℕ → List ℕ) where
  abbrev child : ℕ → ℕ → ℕ
  child p i = child_in (most_entries m) (pages p) i

  abbrev below : (h p i : ℕ) → Tree h
  below h p i = read_tree m pages h (child p i)

  -- how often walking the h levels from p down meets q
  abbrev met : ℕ → ℕ → ℕ → ℕ
  met q h p = times q h (read_tree m pages h p)

  met-suc : (q h p : ℕ) → met q (suc h) p ≡ same q p + sum (times q h) (tab (suc (count_of (pages p))) (below h p))
  unfolding times read_tree children_of
  met-suc q h p = ap (λ (ts : List (Tree h)). same q p + sum (times q h) ts) (map-tab (read_tree m pages h) (suc (count_of (pages p))) (child p))

  met-child : (q h p i : ℕ) → i ≤ count_of (pages p) → same q p + met q h (child p i) ≤ met q (suc h) p
  met-child q h p i b = omega (arith, met-suc q h p, sum-term (times q h) (below h p) (suc (count_of (pages p))) i (omega arith))

  child-heights : (h p i : ℕ) → i ≤ count_of (pages p) → Heights m pages (suc h) p → Heights m pages h (child p i)
  unfolding Heights children_of
  child-heights h p i b k =
      let n = suc (count_of (pages p)) in
      let l : i < n = omega arith in
      rw get_or-tab at (all-at (Heights m pages h) (tab n (child p)) i 0 (omega (arith, length-tab n (child p))) k.1)

  leads-met : (h : ℕ) {p q : ℕ} {route : List ℕ} → 1 ≤ h → Heights m pages h p → Leads m pages p route q
      → (1 ≤ met q h p) × (suc (height_of (pages q) + length route) ≡ h)
  unfolding Heights
  leads-met zero l k r = absurd (omega arith)
  leads-met (suc h) {p} l k here = (omega (arith, met-suc p h p, same_self p), omega arith)
  leads-met (suc h) {p} {q} l k (down {i = i} up b r) =
      let deeper = leads-met h (omega arith) (child-heights h p i b k) r in (omega (arith, met-child q h p i b), omega arith)

  met-leads : (h p q : ℕ) → Heights m pages h p → 1 ≤ met q h p → (1 ≤ h) × (route : List ℕ) × Leads m pages p route q
  unfolding Heights times
  met-leads zero p q k is-met = absurd (omega arith)
  met-leads (suc h) p q k is-met =
      either-eq q p
      (λ e. (omega arith, [], rw e here))
      (λ d.
      let some = sum-some (times q h) (below h p) (suc (count_of (pages p))) (omega (arith, met-suc q h p, same-other q p d)) in
      let b : some.0 ≤ count_of (pages p) = omega arith in
      let deeper = met-leads h (child p some.0) q (child-heights h p some.0 b k) some.2 in
      (omega arith, some.0 ∷ deeper.1, down {route = deeper.1} (omega arith) b deeper.2))

  -- two routes would meet it twice: at the page and below a child, or below two children
  leads-same : (h : ℕ) {p q q' : ℕ} {one other : List ℕ} → 1 ≤ h → Heights m pages h p → met q h p ≤ 1 → Leads m pages p one q
      → Leads m pages p other q' → q ≡ q' → one ≡ other
  unfolding Heights
  leads-same zero l k few r t e = absurd (omega arith)
  leads-same (suc h) l k few here here e = refl
  leads-same (suc h) {p} l k few here (down {i = j} {route = route} up b t) e =
      let back = subst (Leads m pages (child p j) route) (sym e) t in
      absurd (omega (arith, met-child p h p j b, same_self p, leads-met h (omega arith) (child-heights h p j b k) back))
  leads-same (suc h) {p} {q} l k few (down {i = i} {route = route} up b r) here e =
      absurd (omega (arith, met-child q h p i b, same-eq q p e, leads-met h (omega arith) (child-heights h p i b k) r))
  leads-same (suc h) {p} {q} l k few (down {i = i} up b r) (down {i = j} {route = route} up' c t) e =
      let one = leads-met h (omega arith) (child-heights h p i b k) r in
      let back = subst (Leads m pages (child p j) route) (sym e) t in
      let other = leads-met h (omega arith) (child-heights h p j c k) back in
      either-eq i j
      (λ s. ap₂ ◌∷◌ s
      (leads-same h (omega arith) (child-heights h p i b k) (omega (arith, met-child q h p i b)) r
      (subst (λ n. Leads m pages (child p n) route q) (sym s) back) refl))
      (λ d. absurd (omega (arith, met-suc q h p, sum-two (times q h) (below h p) (suc (count_of (pages p))) i j d (omega arith) (omega arith))))

  leads-once : (h : ℕ) {p q : ℕ} {one other : List ℕ} → 1 ≤ h → Heights m pages h p → met q h p ≤ 1 → Leads m pages p one q → Leads m pages p other q → one ≡ other
  leads-once h l k few r t = leads-same h l k few r t refl

-- ---- routes in a sound pool

module _ (w : List ℕ) (s : Sound w) where
  root-levels : min 1 (root_word w) ≡ min 1 (levels_word w)
  root-levels = let f = (head-facts w s.head).rooted in either-eq (count_word w) 0 (λ z. omega (arith, f.0 z)) (λ n. omega (arith, f.1 (omega arith)))

  met-bit : (p : ℕ) → (met (least_of w) (page_of w) p (levels_word w) (pred (root_word w)) ≡ bit_at (map_of w) p) × (bit_at (map_of w) p < 2)
  unfolding meets whole_of
  met-bit p = (s.met p, bit_at_lt (map_of w) p)

  pub reached-marked : (p : ℕ) (route : List ℕ) → Reached w route p → bit_at (map_of w) p ≡ 1
  reached-marked p route r = omega (arith, met-bit p, leads-met (least_of w) (page_of w) (levels_word w) (omega (arith, root-levels)) s.heights r.1)

  pub marked-reached : (p : ℕ) → bit_at (map_of w) p ≡ 1 → (route : List ℕ) × Reached w route p
  marked-reached p e =
      let r = met-leads (least_of w) (page_of w) (levels_word w) (pred (root_word w)) p s.heights (omega (arith, met-bit p)) in
      (r.1, (omega (arith, root-levels), r.2))

  pub reached-once : (p : ℕ) (one other : List ℕ) → Reached w one p → Reached w other p → one ≡ other
  reached-once p one other r t = leads-once (least_of w) (page_of w) (levels_word w) (omega (arith, root-levels)) s.heights (omega (arith, met-bit p)) r.1 t.1

  pub reached-level : (p : ℕ) (route : List ℕ) → Reached w route p → height_of (page_of w p) ≡ 0 → suc (length route) ≡ levels_word w
  reached-level p route r z = omega (arith, leads-met (least_of w) (page_of w) (levels_word w) (omega (arith, root-levels)) s.heights r.1)
