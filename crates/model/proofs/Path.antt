-- The path of a gap as code takes it, down to a leaf. Where the gap is a tree's end the path keeps to the last slots,
-- and the leaf's last entry is the tree's last: that is the heir which removal writes. And removal keeps page numbers.
-- Assumes nothing.
use mathlib.Core.Path.{◌≡◌, refl, sym, ap, ◌∙◌}
use mathlib.Core.List.{List, [], ◌∷◌, ◌++◌}
use Prim.Native.Nat.{ℕ, zero, suc, ◌+◌, ◌-◌, ◌≤◌, ◌<◌}
use native.Mathlib.Omega.{arith}
use lib.ListN.{length, drop, get_or, set, length-append, drop_of_length-le}
use lib.Seq.{set-get_or}
use borrow.Author.Tests.{le-leb, lt-leb}
use Rattle.model.specs.Basics.{final}
use Rattle.model.specs.Tree.{Node, Tree, no_entry, no_node, no_tree, weave, entries, size, Shaped}
use Rattle.model.specs.Gap.{slot, rest, slot_at, rest_at, child, child_at}
use Rattle.model.specs.Mend.{Plan, keep, move, join, mend}
use Rattle.model.specs.Remove.{lost, plan_at, step, remove_at}
use Rattle.model.proofs.Basics.{final-append, final-other}
use Rattle.model.proofs.Weave.{weave_at}
use Rattle.model.proofs.Gap.{shaped-forks, way_down, child-shaped, leaf-entries, size-some}

-- ---- the end of a page, over a function `f` that says what a child holds

module _ {S A : Type 0} (f : S → List A) where
  -- the last gap is the last child's last
  ends : (ss : List S) (es : List A) (d : S) → length ss ≡ suc (length es)
      → (slot (λ s. length (f s)) ss (length (weave f ss es)) ≡ length es)
      × (rest (λ s. length (f s)) ss (length (weave f ss es)) ≡ length (f (get_or ss (length es) d)))
  ends [] es d k = absurd (omega arith)
  ends (s ∷ ss) [] d k = rw (le-leb (length (f s)) (length (f s)) (omega arith)) (refl, refl)
  ends (s ∷ ss) (e ∷ es) d k =
      let long : length (f s ++ e ∷ weave f ss es) ≡ suc (length (f s)) + length (weave f ss es) = simp length-append (omega arith) in
      let z : suc (length (f s)) + length (weave f ss es) - suc (length (f s)) ≡ length (weave f ss es) = omega arith in
      let ih = ends ss es d (omega arith) in
      rw (long, lt-leb (suc (length (f s)) + length (weave f ss es)) (length (f s)) (omega arith), z) (ap suc ih.0, ih.1)

  pub slot-end : (ss : List S) (es : List A) (d : S) → length ss ≡ suc (length es) → slot (λ s. length (f s)) ss (length (weave f ss es)) ≡ length es
  slot-end ss es d k = (ends ss es d k).0

  pub rest_end : (ss : List S) (es : List A) (d : S) → length ss ≡ suc (length es)
      → rest (λ s. length (f s)) ss (length (weave f ss es)) ≡ length (f (get_or ss (length es) d))
  rest_end ss es d k = (ends ss es d k).1

  -- and the last entry is the last child's last
  pub final-end : (a : A) (ss : List S) (es : List A) (d : S) → length ss ≡ suc (length es) → 1 ≤ length (f (get_or ss (length es) d))
      → final a (weave f ss es) ≡ final a (f (get_or ss (length es) d))
  final-end a [] es d k h = absurd (omega arith)
  final-end a (s ∷ ss) [] d k h = refl
  final-end a (s ∷ ss) (e ∷ es) d k h =
      final-append a (f s) e (weave f ss es) ∙ final-end e ss es d (omega arith) h ∙ final-other e a (f (get_or ss (length es) d)) h

-- a gap that is the last child's end is the page's end
pub end-at-last : (m low h : ℕ) (t : Tree (suc h)) (g : ℕ) → Shaped m low (suc h) t → g ≤ size (suc h) t → length t.own ≤ slot_at h t g
    → size h (child_at h t g) ≤ rest_at h t g → size (suc h) t ≤ g
unfolding entries
end-at-last m low h t g s b last end =
    let i = slot_at h t g in
    let way = way_down m low h t g s b in
    let none : drop i t.own ≡ [] = drop_of_length-le t.own last in
    let whole = ap length (weave_at (entries h) t.children t.own i (no_tree h) (shaped-forks m low h t s) way.inside) in
    omega (arith, rw none at (simp length-append at whole), way.place)

-- ---- the leaf at the end of the path, and the gap there

abbrev pub leaf_at : (h : ℕ) → Tree (suc h) → ℕ → Tree 1
leaf_at zero t g = t
leaf_at (suc h) t g = leaf_at h (child_at (suc h) t g) (rest_at (suc h) t g)

abbrev pub gap_at_leaf : (h : ℕ) → Tree (suc h) → ℕ → ℕ
gap_at_leaf zero t g = g
gap_at_leaf (suc h) t g = gap_at_leaf h (child_at (suc h) t g) (rest_at (suc h) t g)

-- where the gap is the tree's end, so it is all the way down
module _ (m low h : ℕ) (t : Tree (suc h)) (g : ℕ) (s : Shaped m low (suc h) t) (e : g ≡ size (suc h) t) where
  pub slot-at-end : slot_at h t g ≡ length t.own
  unfolding entries Shaped
  slot-at-end = rw e (slot-end (entries h) t.children t.own (no_tree h) s.forks)

  pub rest-at-end : rest_at h t g ≡ size h (child_at h t g)
  unfolding entries Shaped
  rest-at-end = rw (slot-at-end, e) (rest_end (entries h) t.children t.own (no_tree h) s.forks)

  child-end : Shaped m m h (child_at h t g)
  child-end = child-shaped m low h t g s (omega arith)

pub gap-leaf : (m low h : ℕ) (t : Tree (suc h)) (g : ℕ) → Shaped m low (suc h) t → g ≡ size (suc h) t → gap_at_leaf h t g ≡ length (leaf_at h t g).own
gap-leaf m low zero t g s e = e ∙ ap length (leaf-entries t)
gap-leaf m low (suc h) t g s e =
    gap-leaf m m h (child_at (suc h) t g) (rest_at (suc h) t g) (child-end m low (suc h) t g s e) (rest-at-end m low (suc h) t g s e)

-- and the last of the tree is the last of the leaf
pub final-leaf : (m low h : ℕ) (t : Tree (suc h)) (g : ℕ) → 1 ≤ m → Shaped m low (suc h) t → g ≡ size (suc h) t
    → final no_entry (entries (suc h) t) ≡ final no_entry (leaf_at h t g).own
unfolding entries Shaped
final-leaf m low zero t g b s e = ap (final no_entry) (leaf-entries t)
final-leaf m low (suc h) t g b s e =
    let c = child_at (suc h) t g in
    let sc = child-end m low (suc h) t g s e in
    let i = slot-at-end m low (suc h) t g s e in
    final-end (entries (suc h)) no_entry t.children t.own no_node s.forks (rw i at (size-some m m h c b sc))
    ∙ ap (λ j. final no_entry (entries (suc h) (child (suc h) t j))) (sym i)
    ∙ final-leaf m m h c (rest_at (suc h) t g) b sc (rest-at-end m low (suc h) t g s e)

-- ---- a page keeps its number

pub mend-page : {S : Type 0} (p : Plan) (t : Node (Node S)) → (mend p t).page ≡ t.page
unfolding mend
mend-page keep t = refl
mend-page (move j n) t = refl
mend-page (join j) t = refl

pub remove-at-page : (m h : ℕ) (t : Tree (suc h)) (g : ℕ) → (remove_at m (suc h) t g).page ≡ t.page
unfolding remove_at step
remove-at-page m zero t g = refl
remove-at-page m (suc h) t g =
    let i : ℕ = slot_at (suc h) t g in
    let u : Tree (suc (suc h)) = lost (suc h) t i (rest_at (suc h) t g) (remove_at m (suc h) (child_at (suc h) t g) (rest_at (suc h) t g)) in
    mend-page (plan_at m h u i) u

-- ---- what the page above a loss keeps

module _ (h : ℕ) (t : Tree (suc h)) (i g : ℕ) (c : Tree h) where
  -- where the gap is not the child's end, its own entries stay
  pub lost-plain : g < size h (child h t i) → (lost h t i g c).own ≡ t.own
  lost-plain b = rw (lt-leb (size h (child h t i)) g b) (set-get_or t.own i no_entry)

  -- where it is, entry i becomes the child's last
  pub lost-heir : size h (child h t i) ≤ g → (lost h t i g c).own ≡ set t.own i (final no_entry (entries h (child h t i)))
  lost-heir b = rw (le-leb (size h (child h t i)) g b)
