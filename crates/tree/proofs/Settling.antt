-- Where a removal along a path may stop: at a page that hands nothing up and whose child on the path has enough
-- entries. The page keeps its count, so in a sound tree each page above finds enough in its child, has nothing to mend,
-- and keeps its words.
-- Assumes nothing.
use mathlib.Core.Path.{◌≡◌, refl, sym, ap, subst₂, ◌∙◌}
use mathlib.Core.List.{List}
use Prim.Native.Nat.{ℕ, zero, suc, ◌-◌, ◌≤◌, ◌<◌}
use native.Mathlib.Omega.{arith}
use lib.ListN.{length, drop, get_or, length-drop}
use Rattle.std.specs.Prelude.{Option, None, Ok}
use Rattle.model.specs.Tree.{Tree, size, Shaped}
use Rattle.model.specs.Page.{count_of}
use Rattle.model.specs.Gap.{slot_at, child_at}
use Rattle.model.specs.Path.{gap_pages, gap_slots}
use Rattle.page.specs.declared.Entry as lent
use Rattle.lend.specs.Pages.{least, page_in}
use Rattle.tree.specs.Sits.{PathOf, Sits}
use Rattle.tree.specs.Search.{below_of}
use Rattle.tree.specs.Insert.{Marked}
use Rattle.tree.specs.Remove.{count_below, Mends, Inherits, Shrinks, RemovesBelow}
use Rattle.tree.proofs.Saying.{root-count}
use Rattle.tree.proofs.Sitting.{sits-child, sits-slot, sits-below}
use Rattle.tree.proofs.Paths.{behind, first-page, first_slot, behind-next, behind-from, first-from}
use Rattle.tree.proofs.Heirs.{inherits-none}
use Rattle.tree.proofs.Planning.{count-found, plan-keep}
use Rattle.tree.proofs.Mending.{mends-keep}
use Rattle.tree.proofs.Shrinking.{kept-page, kept-count, Along, along-child, upper-path, along-upper}

-- the tree's own page keeps its count
abbrev Keeps : (w w' : List ℕ) (h : ℕ) → Tree (suc h) → ℕ → Type 0
Keeps w w' h t g = count_of (page_in w' t.page) ≡ count_of (page_in w t.page)

-- a page with the same words has the same children
below-same : (w w' : List ℕ) (u i : ℕ) → page_in w' u ≡ page_in w u → length w' ≡ length w → below_of w' u i ≡ below_of w u i
unfolding below_of
below-same w w' u i page long = rw (page, long)

-- a child with enough is left as it is
pub keeps : (u i : ℕ) (w : List ℕ) → least ≤ count_below w u i → Mends u i w w
keeps u i w enough = mends-keep u i w (plan-keep least (count_of (page_in w u)) (count_below w u) i enough)

-- ---- a page whose child has lost the entry, with its heir

module _ (w w₁ w₂ ps ss : List ℕ) (r₁ r₂ : Option lent.Entry) (more : 2 ≤ length ps) (removes : RemovesBelow w (behind ps) (behind ss) w₁ r₁)
    (heir : Inherits (get_or ps 0 0) (get_or ss 0 0) r₁ w₁ w₂ r₂) where
  heir-keeps : Along w ps ss (Keeps w w₂)
  unfolding gap_pages gap_slots
  heir-keeps low zero t g s b path marked = absurd (omega (arith, ap length path.pages))
  heir-keeps low (suc h) t g s b path marked =
      let p : get_or ps 0 0 ≡ t.page = first-page (suc (suc h)) t g (omega arith) path.pages in
      let i : get_or ss 0 0 ≡ slot_at (suc h) t g = first_slot (suc h) t g path.slots in
      kept-count w w₁ low h t g r₁ s b marked (along-child w ps ss (λ h t g. Shrinks w h t g w₁ r₁) removes.shrinks low h t g s b path marked) w₂ r₂
      (subst₂ (λ (p i : ℕ). Inherits p i r₁ w₁ w₂ r₂) p i heir)

-- ---- one page up from a page that keeps its count, with nothing handed up

module _ (w w₁ ps ss : List ℕ) (more : 2 ≤ length ps) (removes : RemovesBelow w (behind ps) (behind ss) w₁ None)
    (keeps_Below : Along w (behind ps) (behind ss) (Keeps w w₁)) where
  none : (p i : ℕ) → Inherits p i None w₁ w₁ None
  none p i = inherits-none w₁ p i refl

  -- the child on the path has enough
  enough : (low h : ℕ) (t : Tree (suc (suc h))) (g : ℕ) → Sits w low (suc (suc h)) t → g ≤ size (suc (suc h)) t → PathOf (suc (suc h)) t g ps ss
      → Marked w (suc (suc h)) t → least ≤ count_below w₁ t.page (slot_at (suc h) t g)
  unfolding Shaped
  enough low h t g s b path marked =
      let i : ℕ = slot_at (suc h) t g in
      let x : Tree (suc h) = child_at (suc h) t g in
      let in-slot : i ≤ length t.own = sits-slot w low (suc h) t s g b in
      let sits : Sits w least (suc h) x = sits-child w low (suc h) t s i in-slot in
      let shrinks = along-child w ps ss (λ h t g. Shrinks w h t g w₁ None) removes.shrinks low h t g s b path marked in
      let page : page_in w₁ t.page ≡ page_in w t.page = kept-page w w₁ low h t g None s b marked shrinks in
      let found : below_of w₁ t.page i ≡ Ok x.page = below-same w w₁ t.page i page removes.long ∙ sits-below w low (suc h) t s (omega arith) i in-slot in
      let count : count_of (page_in w₁ x.page) ≡ length x.own =
      along-child w ps ss (Keeps w w₁) keeps_Below low h t g s b path marked ∙ root-count w h x sits.stands in
      omega (arith, count-found w₁ t.page i x.page found, sits.shaped.few)

  settled-path : Along w ps ss (λ h t g. Shrinks w h t g w₁ None)
  unfolding gap_pages gap_slots
  settled-path low zero t g s b path marked = absurd (omega (arith, ap length path.pages))
  settled-path low (suc h) t g s b path marked =
      let p : t.page ≡ get_or ps 0 0 = sym (first-page (suc (suc h)) t g (omega arith) path.pages) in
      let i : slot_at (suc h) t g ≡ get_or ss 0 0 = sym (first_slot (suc h) t g path.slots) in
      upper-path w w₁ w₁ w₁ ps ss None None more removes (none (get_or ps 0 0) (get_or ss 0 0))
      (subst₂ (λ (p i : ℕ). Mends p i w₁ w₁) p i (keeps t.page (slot_at (suc h) t g) w₁ (enough low h t g s b path marked)))
      low (suc h) t g s b path marked

  settled-page : RemovesBelow w ps ss w₁ None
  settled-page = record { long = removes.long; head = removes.head; shrinks = settled-path }

  settled-keeps : Along w ps ss (Keeps w w₁)
  settled-keeps = heir-keeps w w₁ w₁ ps ss None None more removes (none (get_or ps 0 0) (get_or ss 0 0))

-- ---- and so up to the root

settled_up : (w w₁ ps ss : List ℕ) (i : ℕ) → i < length ps → RemovesBelow w (drop i ps) (drop i ss) w₁ None → Along w (drop i ps) (drop i ss) (Keeps w w₁)
    → RemovesBelow w ps ss w₁ None
settled_up w w₁ ps ss zero b removes keeps_Below = removes
settled_up w w₁ ps ss (suc i) b removes keeps_Below =
    let more : 2 ≤ length (drop i ps) = simp length-drop (omega arith) in
    let from : RemovesBelow w (behind (drop i ps)) (behind (drop i ss)) w₁ None = rw (behind-next ps i, behind-next ss i) removes in
    let same : Along w (behind (drop i ps)) (behind (drop i ss)) (Keeps w w₁) = rw (behind-next ps i, behind-next ss i) keeps_Below in
    settled_up w w₁ ps ss i (omega arith) (settled-page w w₁ (drop i ps) (drop i ss) more from same) (settled-keeps w w₁ (drop i ps) (drop i ss) more from same)

-- place i - 1 takes in what comes up from place i and hands nothing on, and its child has enough: nothing is left to do
pub along-settled : (w w₁ w₂ ps ss : List ℕ) (i : ℕ) (r₁ : Option lent.Entry) → 0 < i → i < length ps → RemovesBelow w (drop i ps) (drop i ss) w₁ r₁
    → Inherits (get_or ps (i - 1) 0) (get_or ss (i - 1) 0) r₁ w₁ w₂ None → least ≤ count_below w₂ (get_or ps (i - 1) 0) (get_or ss (i - 1) 0) → RemovesBelow w ps ss w₂ None
along-settled w w₁ w₂ ps ss i r₁ some b removes heir many =
    settled_up w w₂ ps ss (i - 1) (omega arith)
    (along-upper w w₁ w₂ w₂ ps ss i r₁ None some b removes heir (keeps (get_or ps (i - 1) 0) (get_or ss (i - 1) 0) w₂ many))
    (heir-keeps w w₁ w₂ (drop (i - 1) ps) (drop (i - 1) ss) r₁ None (simp length-drop (omega arith)) (rw (behind-from ps i some, behind-from ss i some) removes)
    (rw (first-from ps (i - 1) 0, first-from ss (i - 1) 0) heir))
