-- Insertion at a gap: the entries after are those before with the new one at the gap, the pages met are those before
-- and the fresh ones that the insertion needs, the tree stays formed, its root keeps its page, and it has a level more
-- exactly where the root split. First of one page, over any type of child; then of trees; then of the whole tree.
-- Assumes nothing.
use mathlib.Core.Path.{◌≡◌, refl, sym, ap, ◌∙◌}
use mathlib.Core.Bool.{cond}
use mathlib.Core.List.{List, [], ◌∷◌, ◌++◌}
use Prim.Native.Nat.{ℕ, zero, suc, ◌+◌, ◌≤◌, ◌<◌, max}
use native.Mathlib.Omega.{arith}
use lib.Dec.{eqb}
use lib.ListN.{length, take, drop, get_or, length-append, length-take, length-drop}
use lib.Seq.{take-nil, drop-nil}
use borrow.Author.Tests.{le-leb, lt-leb, eq-eqb, ne_eqb}
use Rattle.model.specs.Basics.{ins, same, All}
use Rattle.model.specs.Sums.{sum_to}
use Rattle.model.specs.Layout.{most_entries}
use Rattle.model.specs.Tree.{Entry, Node, Tree, Whole, no_tree, holds, entries, size, passes, times, Filled, Shaped, held, meets, Formed}
use Rattle.model.specs.Standing.{root_of}
use Rattle.model.specs.Gap.{slot_at, rest_at, child_at}
use Rattle.model.specs.Insert.{Up, whole, split, fit, grown, put, insert_at, top, insert, onward, run, needed, kept}
use Rattle.model.proofs.Cases.{either-le, either-eq}
use Rattle.model.proofs.Basics.{length-ins, all-splice}
use Rattle.model.proofs.Sums.{sum-splice}
use Rattle.model.proofs.Weave.{left, right, weave-one, weave-two}
use Rattle.model.proofs.Gap.{located-ins, way_down, child-shaped, slot-le}
use Rattle.model.proofs.Cut.{cut_holds, cut-passes, cut-left-filled, cut-right-filled}

-- ---- what is handed up

-- its entries, in walking order; how often a page is met in it
abbrev pub up_entries : {S : Type 0} → (S → List Entry) → Up S → List Entry
up_entries f (whole c) = f c
up_entries f (split l e r) = f l ++ e ∷ f r

abbrev pub up_times : {S : Type 0} → (S → ℕ) → Up S → ℕ
up_times f (whole c) = f c
up_times f (split l e r) = f l + f r

-- the page that stays, or the left half
abbrev pub up_left : {S : Type 0} → Up S → S
up_left (whole c) = c
up_left (split l e r) = l

-- P of the page after; or Q of both halves
abbrev pub UpIs : {S : Type 0} → (S → Type 0) → (S → Type 0) → Up S → Type 0
UpIs P Q (whole c) = P c
UpIs P Q (split l e r) = Q l × Q r

-- a tree of h levels splits at the top exactly when h pages were taken
abbrev pub Used : {S : Type 0} → ℕ → Up S → ℕ → Type 0
Used h (whole c) k = k < h
Used h (split l e r) k = k ≡ h

-- ---- one page

grown-forks : {S : Type 0} (x : Node S) (i : ℕ) (l : S) (e : Entry) (r : S) → length x.children ≡ suc (length x.own) → i < length x.children
    → length (grown x i l e r).children ≡ suc (length (grown x i l e r).own)
grown-forks x i l e r k h = simp (length-append, length-take, length-drop) (omega arith)

module _ {S : Type 0} (m q : ℕ) where
  fit-holds : (f : S → List Entry) (x : Node S) → length x.children ≡ suc (length x.own) → up_entries (holds f) (fit m q x) ≡ holds f x
  unfolding fit
  fit-holds f x k =
      either-le (length x.own) (most_entries m)
      (λ room. rw le-leb)
      (λ full. rw lt-leb (sym (cut_holds f q (kept m) x k (omega arith))))

  -- what was handed up, in the place of what child i held
  put_holds : (f : S → List Entry) (x : Node S) (i : ℕ) (o : Up S) → length x.children ≡ suc (length x.own) → i < length x.children
      → up_entries (holds f) (put m q x i o)
      ≡ left f (take i x.children) (take i x.own) ++ (up_entries f o ++ right f (drop i x.own) (drop (suc i) x.children))
  unfolding put
  put_holds f x i (whole c) k h = weave-one f x.children x.own i c k h
  put_holds f x i (split l e r) k h =
      fit-holds f (grown x i l e r) (grown-forks x i l e r k h) ∙ weave-two f x.children x.own i l e r k h

  put-used : (x : Node S) (i : ℕ) (o : Up S) (h k : ℕ) → i ≤ length x.own → Used h o k → Used (suc h) (put m q x i o) (onward m h (length x.own) k)
  unfolding put fit
  put-used x i (whole c) h k b u = rw (ne_eqb k h (λ e. omega arith)) (omega arith)
  put-used x i (split l e r) h k b u =
      either-le (suc (length x.own)) (most_entries m)
      (λ room. rw (eq-eqb, length-ins, le-leb) (omega arith))
      (λ full. rw (eq-eqb, length-ins, lt-leb))

  fit-filled : (low : ℕ) (Q : S → Type 0) (x : Node S) → length x.children ≡ suc (length x.own) → low ≤ length x.own
      → length x.own ≤ suc (most_entries m) → All Q x.children → UpIs (Filled m low Q) (Filled m m Q) (fit m q x)
  unfolding fit
  fit-filled low Q x k few many a =
      either-le (length x.own) (most_entries m)
      (λ room. rw le-leb (record { forks = k; few = few; many = room; below = a }))
      (λ full. rw lt-leb (
        cut-left-filled Q m (kept m) x k a (omega arith) (omega arith) (omega arith),
        cut-right-filled Q m q (kept m) x k a (omega arith) (omega arith) (omega arith),
      ))

  put-filled : (low : ℕ) (Q : S → Type 0) (x : Node S) (i : ℕ) (o : Up S) → Filled m low Q x → i < length x.children → UpIs Q Q o
      → UpIs (Filled m low Q) (Filled m m Q) (put m q x i o)
  unfolding put
  put-filled low Q x i (whole c) s h a =
      record {
        forks = simp (length-append, length-take, length-drop) (omega arith);
        few = s.few;
        many = s.many;
        below = all-splice Q i (c ∷ []) x.children (a, tt) s.below;
      }
  put-filled low Q x i (split l e r) s h a =
      let k = s.forks in
      let more = length-ins i e x.own (omega arith) in
      fit-filled low Q (grown x i l e r) (grown-forks x i l e r k h) (omega arith) (omega arith)
      (all-splice Q i (l ∷ r ∷ []) x.children (a.0, (a.1, tt)) s.below)

-- the fresh pages counted: one more where the run of full pages goes on through this page
put-passes : {S : Type 0} (m : ℕ) (fresh : ℕ → ℕ) (p : ℕ) (f : S → ℕ) (x : Node S) (i : ℕ) (d : S) (o : Up S) (h k : ℕ)
    → i < length x.children → i ≤ length x.own → Used h o k
    → up_times (passes p f) (put m (fresh h) x i o) + f (get_or x.children i d) + sum_to (λ j. same p (fresh j)) k
    ≡ passes p f x + up_times f o + sum_to (λ j. same p (fresh j)) (onward m h (length x.own) k)
unfolding put fit sum_to
put-passes m fresh p f x i d (whole c) h k b b' u = rw (ne_eqb k h (λ e. omega arith)) (omega (arith, sum-splice f i (c ∷ []) x.children d b))
put-passes m fresh p f x i d (split l e r) h k b b' u =
    let put_two = sum-splice f i (l ∷ r ∷ []) x.children d b in
    either-le (suc (length x.own)) (most_entries m)
    (λ room. rw (eq-eqb, length-ins, le-leb) (omega arith))
    (λ full. rw (eq-eqb k h u, length-ins, lt-leb, u) (omega (arith, cut-passes p f (fresh h) (kept m) (grown x i l e r))))

-- ---- trees

module _ (m : ℕ) (fresh : ℕ → ℕ) where
  pub insert_at-entries : (low h : ℕ) (t : Tree h) (g : ℕ) (e : Entry) → Shaped m low h t → g ≤ size h t
      → up_entries (entries h) (insert_at m fresh h t g e) ≡ ins g e (entries h t)
  unfolding insert_at entries Shaped
  insert_at-entries low zero t g e s b = simp (take-nil, drop-nil)
  insert_at-entries low (suc h) t g e s b =
      let L = way_down m low h t g s b in
      let ih = insert_at-entries m h (child_at h t g) (rest_at h t g) e (child-shaped m low h t g s b) L.fits in
      put_holds m (fresh h) (entries h) t (slot_at h t g) _ s.forks L.inside
      ∙ rw ih (sym (located-ins (entries h) t.children t.own (no_tree h) g (slot_at h t g) (rest_at h t g) e s.forks L))

  pub insert_at-used : (low h : ℕ) (t : Tree h) (g : ℕ) (e : Entry) → Shaped m low h t → g ≤ size h t
      → Used h (insert_at m fresh h t g e) (run m h t g)
  unfolding insert_at run
  insert_at-used low zero t g e s b = refl
  insert_at-used low (suc h) t g e s b =
      put-used m (fresh h) t (slot_at h t g) _ h _ (slot-le m low h t g s b)
      (insert_at-used m h (child_at h t g) (rest_at h t g) e (child-shaped m low h t g s b) (way_down m low h t g s b).fits)

  pub insert_at-times : (p low h : ℕ) (t : Tree h) (g : ℕ) (e : Entry) → Shaped m low h t → g ≤ size h t
      → up_times (times p h) (insert_at m fresh h t g e) ≡ times p h t + sum_to (λ i. same p (fresh i)) (run m h t g)
  unfolding insert_at run times sum_to
  insert_at-times p low zero t g e s b = refl
  insert_at-times p low (suc h) t g e s b =
      let L = way_down m low h t g s b in
      let c = child-shaped m low h t g s b in
      omega (
        arith,
        insert_at-times p m h (child_at h t g) (rest_at h t g) e c L.fits,
        put-passes m fresh p (times p h) t (slot_at h t g) (no_tree h) (insert_at m fresh h (child_at h t g) (rest_at h t g) e) h _ L.inside (slot-le m low h t g s b)
            (insert_at-used m h (child_at h t g) (rest_at h t g) e c L.fits),
      )

  pub insert_at-shaped : (low h : ℕ) (t : Tree h) (g : ℕ) (e : Entry) → Shaped m low h t → g ≤ size h t
      → UpIs (Shaped m low h) (Shaped m m h) (insert_at m fresh h t g e)
  unfolding insert_at Shaped
  insert_at-shaped low zero t g e s b = (tt, tt)
  insert_at-shaped low (suc h) t g e s b =
      let L = way_down m low h t g s b in
      put-filled m (fresh h) low (Shaped m m h) t (slot_at h t g) _ s L.inside
      (insert_at-shaped m h (child_at h t g) (rest_at h t g) e (child-shaped m low h t g s b) L.fits)

-- the page that stays has the root's number
put-page : {S : Type 0} (m q : ℕ) (x : Node S) (i : ℕ) (o : Up S) → (up_left (put m q x i o)).page ≡ x.page
unfolding put fit
put-page m q x i (whole c) = refl
put-page m q x i (split l e r) =
    let n = length (grown x i l e r).own in
    either-le n (most_entries m) (λ b. rw (le-leb n (most_entries m) b)) (λ b. rw (lt-leb n (most_entries m) b))

pub insert_at-root : (m : ℕ) (fresh : ℕ → ℕ) (h : ℕ) (t : Tree h) (g : ℕ) (e : Entry) → root_of h (up_left (insert_at m fresh h t g e)) ≡ root_of h t
unfolding insert_at
insert_at-root m fresh zero t g e = refl
insert_at-root m fresh (suc h) t g e = ap suc (put-page m (fresh h) t (slot_at h t g) (insert_at m fresh h (child_at h t g) (rest_at h t g) e))

-- ---- how many pages

-- an unbroken run goes on through a full page, and no other
pub either-onward : {C : Type 0} (m h count k : ℕ) → (onward m h count k ≡ k → C) → (onward m h count k ≡ suc k → k ≡ h → most_entries m ≤ count → C) → C
either-onward m h count k stay go =
    either-eq k h
    (λ e. either-le (suc count) (most_entries m)
    (λ b. stay (rw (eq-eqb k h e, le-leb (suc count) (most_entries m) b)))
    (λ b. go (rw (eq-eqb k h e, lt-leb (suc count) (most_entries m) b) (omega arith)) e (omega arith)))
    (λ d. stay (rw (ne_eqb k h d)))

pub run-le : (m h : ℕ) (t : Tree h) (g : ℕ) → run m h t g ≤ h
unfolding run
run-le m zero t g = omega arith
run-le m (suc h) t g =
    either-onward m h (length t.own) (run m h (child_at h t g) (rest_at h t g))
    (λ e. rw e (omega (arith, run-le m h (child_at h t g) (rest_at h t g))))
    (λ e k b. rw e (omega arith))

pub needed-le : (m : ℕ) (x : Whole) (g : ℕ) → needed m x g ≤ suc x.levels
unfolding needed
needed-le m x g =
    let k = run m x.levels x.tree g in
    let b : k ≤ x.levels = run-le m x.levels x.tree g in
    either-eq k x.levels (λ e. rw (eq-eqb k x.levels e) (omega arith)) (λ n. rw (ne_eqb k x.levels n) (omega arith))

-- ---- the whole tree

top-held : (q h : ℕ) (o : Up (Tree h)) → held (top q h o) ≡ up_entries (entries h) o
unfolding held top entries
top-held q h (whole t) = refl
top-held q h (split l e r) = refl

top-meets : (p h : ℕ) (fresh : ℕ → ℕ) (o : Up (Tree h)) (k : ℕ) → Used h o k
    → meets p (top (fresh h) h o) + sum_to (λ i. same p (fresh i)) k ≡ up_times (times p h) o + sum_to (λ i. same p (fresh i)) (cond (eqb k h) (suc k) k)
unfolding meets top times sum_to
top-meets p h fresh (whole t) k u = rw (ne_eqb k h (λ e. omega arith))
top-meets p h fresh (split l e r) k u = rw (eq-eqb k h u, u) (omega arith)

top-formed : (m q h : ℕ) (o : Up (Tree h)) → UpIs (Shaped m 1 h) (Shaped m m h) o → Formed m (top q h o)
unfolding top Formed Shaped
top-formed m q h (whole t) s = s
top-formed m q h (split l e r) s = record { forks = refl; few = omega arith; many = omega arith; below = (s.0, (s.1, tt)) }

top-levels : (q h : ℕ) (o : Up (Tree h)) (k : ℕ) → Used h o k → (top q h o).levels ≡ max h (cond (eqb k h) (suc k) k)
unfolding top
top-levels q h (whole t) k u = rw (ne_eqb k h (λ e. omega arith)) (omega arith)
top-levels q h (split l e r) k u = rw eq-eqb (omega arith)

module _ (m : ℕ) (fresh : ℕ → ℕ) (x : Whole) (g : ℕ) (e : Entry) (s : Formed m x) (b : g ≤ length (held x)) where
  pub insert-held : held (insert m fresh x g e) ≡ ins g e (held x)
  unfolding insert held Formed
  insert-held = top-held (fresh x.levels) x.levels _ ∙ insert_at-entries m fresh 1 x.levels x.tree g e s b

  pub insert-meets : (p : ℕ) → meets p (insert m fresh x g e) ≡ meets p x + sum_to (λ i. same p (fresh i)) (needed m x g)
  unfolding insert needed held meets Formed
  insert-meets p =
      omega (
        arith,
        top-meets p x.levels fresh (insert_at m fresh x.levels x.tree g e) (run m x.levels x.tree g)
            (insert_at-used m fresh 1 x.levels x.tree g e s b),
        insert_at-times m fresh p 1 x.levels x.tree g e s b,
      )

  pub insert-formed : Formed m (insert m fresh x g e)
  unfolding insert held Formed
  insert-formed = top-formed m (fresh x.levels) x.levels _ (insert_at-shaped m fresh 1 x.levels x.tree g e s b)

  -- one level more where the pages needed are more than the levels, else as many as before
  pub insert-levels-max : (insert m fresh x g e).levels ≡ max x.levels (needed m x g)
  unfolding insert needed held Formed
  insert-levels-max = top-levels (fresh x.levels) x.levels _ _ (insert_at-used m fresh 1 x.levels x.tree g e s b)

  pub insert-levels : (insert m fresh x g e).levels ≤ suc x.levels
  insert-levels = omega (arith, insert-levels-max, needed-le m x g)
