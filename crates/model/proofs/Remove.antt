-- Removal by position: what is left, the shape, and the pages met, which are those from before but for the freed ones.
-- Over all levels, where the page at the top may be left with one entry too few (its parent mends it, or it is the
-- root); then of the whole tree, whose root may give way to its only child.
-- Assumes nothing.
use mathlib.Core.Path.{◌≡◌, refl, sym, ap, ◌∙◌}
use mathlib.Core.Bool.{cond}
use mathlib.Core.List.{List, [], ◌∷◌, ◌++◌}
use Prim.Native.Nat.{ℕ, zero, suc, ◌+◌, ◌-◌, ◌≤◌, ◌<◌}
use native.Mathlib.Omega.{arith}
use lib.Dec.{leb}
use lib.ListN.{length, drop, get_or, length-drop, length-set}
use lib.Seq.{take-set-le, drop-set-lt, get_or-set_same}
use borrow.Author.Tests.{le-leb, lt-leb}
use Rattle.model.specs.Basics.{del, sum, same}
use Rattle.model.specs.Tree.{Entry, Tree, Whole, no_tree, weave, entries, size, times, held, meets, Shaped, Formed}
use Rattle.model.specs.Gap.{slot_at, rest_at, child, child_at}
use Rattle.model.specs.Remove.{gone, lost, plan_at, step, remove_at, collapse, remove_in, remove}
use Rattle.model.specs.Freed.{step_freed, freed_at}
use Rattle.model.proofs.Cases.{either-le}
use Rattle.model.proofs.Basics.{all_take, all_drop, all-at, all_map}
use Rattle.model.proofs.Sums.{sum-single, sum-append, sum-set}
use Rattle.model.proofs.Gap.{way_down, child-shaped, leaf-holds, size-some}
use Rattle.model.proofs.Gone.{Some, gone-length, gone_at, weave-gone}
use Rattle.model.proofs.Mend.{filled-loosen, Loose, Able, plan-able, mend-holds, mend-passes, mend-filled}

-- ---- the pages that the whole tree is rid of: those on the way up, and a root left without entries

unfoldable pub collapse_freed : (h : ℕ) → Tree (suc h) → List ℕ
collapse_freed h t = cond (leb 1 (length t.own)) [] (t.page ∷ [])

unfoldable pub freed_in : (m h : ℕ) → Tree h → ℕ → List ℕ
freed_in m zero t g = []
freed_in m (suc h) t g = freed_at m (suc h) t g ++ collapse_freed h (remove_at m (suc h) t g)

unfoldable pub freed : ℕ → Whole → ℕ → List ℕ
freed m x g = freed_in m x.levels x.tree g

-- ---- a page with no entry has one child, and holds what that holds

weave-only : {S : Type 0} (f : S → List Entry) (ss : List S) (es : List Entry) (d : S) → length ss ≡ suc (length es) → length es < 1
    → f (get_or ss 0 d) ≡ weave f ss es
weave-only f [] es d k n = absurd (omega arith)
weave-only f (s ∷ ss) [] d k n = refl
weave-only f (s ∷ ss) (e ∷ es) d k n = absurd (omega arith)

-- ---- trees of no levels have no page

sum-none : (p : ℕ) (ss : List (Tree 0)) → sum (times p 0) ss ≡ 0
unfolding times
sum-none p [] = refl
sum-none p (s ∷ ss) = omega (arith, sum-none p ss)

-- ---- what is proved of a removal at every level

-- c is t without the entry after gap g, and the pages `free` have gone; the page at the top may have one entry less
record Without (m low h : ℕ) (t : Tree (suc h)) (g : ℕ) (c : Tree (suc h)) (free : List ℕ) : Type 0 where
  shaped : Shaped m (low - 1) (suc h) c
  left : entries (suc h) c ≡ gone g (entries (suc h) t)
  met : (p : ℕ) → times p (suc h) c + sum (same p) free ≡ times p (suc h) t

-- ---- a leaf

leaf-without : (m low : ℕ) (t : Tree 1) (g : ℕ) (c : Tree 0) → 1 ≤ low → Shaped m low 1 t → Without m low 0 t g (step m 0 t g c) []
unfolding Shaped entries times step
leaf-without m low t g c pl s =
    let z : suc (length (gone g t.own)) ≡ length t.own = gone-length g t.own (omega (arith, s.few)) in
    record {
      shaped = record {
        forks = simp length-drop (omega (arith, s.forks));
        few = omega (arith, s.few);
        many = omega (arith, s.many);
        below = all_drop (Shaped m m 0) 1 t.children s.below;
      };
      left =
          leaf-holds (drop 1 t.children) (gone g t.own) ∙ sym (ap (gone g) (leaf-holds t.children t.own));
      met = λ p. omega (arith, sum-none p t.children, sum-none p (drop 1 t.children));
    }

-- ---- an upper page t, whose child at gap g becomes c

abbrev pub lost_at : (h : ℕ) → Tree (suc h) → ℕ → Tree h → Tree (suc h)
lost_at h t g c = lost h t (slot_at h t g) (rest_at h t g) c

-- before it is mended: c may have one entry too few
module _ (m low h : ℕ) (t : Tree (suc (suc h))) (g : ℕ) (pl : 1 ≤ low) (s : Shaped m low (suc (suc h)) t) (b : g ≤ size (suc (suc h)) t) (c : Tree (suc h)) where
  lost-inside : slot_at (suc h) t g < length t.children
  lost-inside = (way_down m low (suc h) t g s b).inside

  pub lost-forks : length (lost_at (suc h) t g c).children ≡ suc (length (lost_at (suc h) t g c).own)
  unfolding Shaped
  lost-forks = simp length-set s.forks

  pub lost-loose : Shaped m (m - 1) (suc h) c → Loose (Shaped m m h) m (lost_at (suc h) t g c) (slot_at (suc h) t g)
  unfolding Shaped
  lost-loose k =
      let i : ℕ = slot_at (suc h) t g in
      record {
        inside = simp length-set (omega (arith, s.forks, lost-inside));
        some = simp length-set (omega (arith, s.few));
        before = let z : i ≤ i = omega arith in rw take-set-le (all_take (Shaped m m (suc h)) i t.children s.below);
        mid = let z : i < length t.children = lost-inside in rw get_or-set_same k;
        after = let z : i < suc i = omega arith in rw drop-set-lt (all_drop (Shaped m m (suc h)) (suc i) t.children s.below);
      }

  pub lost-times : (p : ℕ) → times p (suc (suc h)) (lost_at (suc h) t g c) + times p (suc h) (child_at (suc h) t g) ≡ times p (suc (suc h)) t + times p (suc h) c
  unfolding times
  lost-times p = omega (arith, sum-set (times p (suc h)) t.children (slot_at (suc h) t g) c (no_tree (suc h)) lost-inside)

-- and mended
module _ (m low h : ℕ) (t : Tree (suc (suc h))) (g : ℕ) (pm : 1 ≤ m) (pl : 1 ≤ low) (s : Shaped m low (suc (suc h)) t) (b : g ≤ size (suc (suc h)) t)
    (c : Tree (suc h)) (free : List ℕ) (w : Without m m h (child_at (suc h) t g) (rest_at (suc h) t g) c free) where
  abbrev i : ℕ
  i = slot_at (suc h) t g

  abbrev u : Tree (suc (suc h))
  u = lost_at (suc h) t g c

  u-forks : length u.children ≡ suc (length u.own)
  u-forks = lost-forks m low h t g pl s b c

  u-able : Able (Shaped m m h) m u (plan_at m h u i)
  u-able = plan-able (Shaped m m h) m u u-forks i (lost-loose m low h t g pl s b c w.shaped)

  step-without : Without m low (suc h) t g (step m (suc h) t g c) (free ++ step_freed m (suc h) t g c)
  unfolding Shaped entries times step step_freed
  step-without = record {
    shaped = mend-filled (Shaped m m h) m u u-forks low (plan_at m h u i) u-able (simp length-set s.few) (simp length-set s.many);
    left =
        mend-holds (Shaped m m h) m u u-forks (entries h) (plan_at m h u i) u-able
        ∙ weave-gone (entries (suc h)) t.children t.own (no_tree (suc h)) c g s.forks
        (all_map (Shaped m m (suc h)) (Some (entries (suc h))) t.children (λ x a. size-some m m h x pm a) s.below) b w.left;
    met = λ p. omega (
      arith,
      w.met p,
      sum-append (same p) free (step_freed m (suc h) t g c),
      mend-passes (Shaped m m h) m u u-forks p (times p h) (plan_at m h u i) u-able,
      lost-times m low h t g pl s b c p,
    );
  }

-- ---- level by level

removal : (m low h : ℕ) (t : Tree (suc h)) (g : ℕ) → 1 ≤ m → 1 ≤ low → Shaped m low (suc h) t → g ≤ size (suc h) t
    → Without m low h t g (remove_at m (suc h) t g) (freed_at m (suc h) t g)
unfolding remove_at freed_at step_freed
removal m low zero t g pm pl s b = leaf-without m low t g tt pl s
removal m low (suc h) t g pm pl s b =
    let x : Tree (suc h) = child_at (suc h) t g in
    let o : ℕ = rest_at (suc h) t g in
    step-without m low h t g pm pl s b (remove_at m (suc h) x o) (freed_at m (suc h) x o)
    (removal m m h x o pm pm (child-shaped m low (suc h) t g s b) (way_down m low (suc h) t g s b).fits)

module _ (m low h : ℕ) (t : Tree (suc h)) (g : ℕ) (pm : 1 ≤ m) (pl : 1 ≤ low) (s : Shaped m low (suc h) t) (b : g ≤ size (suc h) t) where
  pub remove-at-shaped : Shaped m (low - 1) (suc h) (remove_at m (suc h) t g)
  remove-at-shaped = (removal m low h t g pm pl s b).shaped

  pub remove-at-entries : entries (suc h) (remove_at m (suc h) t g) ≡ gone g (entries (suc h) t)
  remove-at-entries = (removal m low h t g pm pl s b).left

  pub remove-at-times : (p : ℕ) → times p (suc h) (remove_at m (suc h) t g) + sum (same p) (freed_at m (suc h) t g) ≡ times p (suc h) t
  remove-at-times = (removal m low h t g pm pl s b).met

-- ---- the root

shaped-root : (m h : ℕ) (t : Tree h) → 1 ≤ m → Shaped m m h t → Shaped m 1 h t
unfolding Shaped
shaped-root m zero t pm s = tt
shaped-root m (suc h) t pm s = filled-loosen 1 pm s

-- the tree x is formed, holds es, and with the pages `free` it meets each page as often as `all` says
record Kept (m : ℕ) (x : Whole) (free : List ℕ) (es : List Entry) (all : ℕ → ℕ) : Type 0 where
  formed : Formed m x
  holds : held x ≡ es
  met : (p : ℕ) → meets p x + sum (same p) free ≡ all p

collapse-kept : (m h : ℕ) (t : Tree (suc h)) → 1 ≤ m → Shaped m 0 (suc h) t
    → Kept m (collapse h t) (collapse_freed h t) (entries (suc h) t) (λ p. times p (suc h) t)
unfolding Shaped Formed held meets entries times collapse collapse_freed
collapse-kept m h t pm s =
    either-le 1 (length t.own)
    (λ y. rw (le-leb 1 (length t.own) y) (record {
      formed = record { forks = s.forks; few = y; many = s.many; below = s.below };
      holds = refl;
      met = λ p. omega arith;
    }))
    (λ n. rw (lt-leb 1 (length t.own) n) (record {
      formed = shaped-root m h (child h t 0) pm (all-at (Shaped m m h) t.children 0 (no_tree h) (omega (arith, s.forks)) s.below);
      holds = weave-only (entries h) t.children t.own (no_tree h) s.forks n;
      met = λ p. omega (arith, sum-single (times p h) t.children (no_tree h) (omega (arith, s.forks)));
    }))

remove-kept : (m h : ℕ) (t : Tree h) (g : ℕ) → 1 ≤ m → Shaped m 1 h t → g < size h t
    → Kept m (remove_in m h t g) (freed_in m h t g) (del g (entries h t)) (λ p. times p h t)
unfolding entries remove_in freed_in
remove-kept m zero t g pm s b = absurd (omega arith)
remove-kept m (suc h) t g pm s b =
    let w = removal m 1 h t g pm (omega arith) s (omega arith) in
    let r = collapse-kept m h (remove_at m (suc h) t g) pm w.shaped in
    record {
      formed = r.formed;
      holds = r.holds ∙ w.left ∙ gone_at g (entries (suc h) t) b;
      met = λ p. omega (arith, r.met p, w.met p, sum-append (same p) (freed_at m (suc h) t g) (collapse_freed h (remove_at m (suc h) t g)));
    }

-- ---- THE LAWS OF REMOVAL, of a whole tree x with an entry g

module _ (m : ℕ) (x : Whole) (g : ℕ) (pm : 1 ≤ m) (s : Formed m x) (b : g < length (held x)) where
  kept : Kept m (remove m x g) (freed m x g) (del g (held x)) (λ p. meets p x)
  unfolding Formed held meets remove freed
  kept = remove-kept m x.levels x.tree g pm s b

  pub remove-held : held (remove m x g) ≡ del g (held x)
  remove-held = kept.holds

  pub remove-formed : Formed m (remove m x g)
  remove-formed = kept.formed

  pub remove-meets : (p : ℕ) → meets p (remove m x g) + sum (same p) (freed m x g) ≡ meets p x
  remove-meets p = kept.met p

collapse-levels : (h : ℕ) (t : Tree (suc h)) → (collapse h t).levels ≤ suc h
unfolding collapse
collapse-levels h t =
    either-le 1 (length t.own) (λ y. rw (le-leb 1 (length t.own) y) (omega arith)) (λ n. rw (lt-leb 1 (length t.own) n) (omega arith))

-- a tree does not grow by a removal
pub remove-levels : (m : ℕ) (x : Whole) (g : ℕ) → (remove m x g).levels ≤ x.levels
unfolding remove remove_in
remove-levels m x g = go x.levels x.tree
  where
    go : (h : ℕ) (t : Tree h) → (remove_in m h t g).levels ≤ h
    go zero t = omega arith
    go (suc h) t = collapse-levels h (remove_at m (suc h) t g)
