-- An entry overwritten in its place: the entries are those of before but for that one, the pages are the same, and the
-- tree keeps its shape. One like it changes nothing. First of lists and of one page, over a function `f` that says what
-- a child holds; then of trees.
-- Assumes nothing.
use mathlib.Core.Path.{◌≡◌, refl, sym, ap, ap₂, ◌∙◌}
use mathlib.Core.List.{List, ◌∷◌, ◌++◌}
use Prim.Native.Nat.{ℕ, zero, suc, ◌≤◌, ◌<◌}
use native.Mathlib.Omega.{arith}
use lib.ListN.{length, take, drop, get_or, set, length-append, length-take, length-set, drop_of_length-le}
use lib.Seq.{set_split, split_at, set-get_or}
use borrow.Author.Tests.{lt-ltb, le-ltb}
use Rattle.model.specs.Tree.{Entry, no_entry, Tree, Whole, no_tree, weave, entries, size, times, Shaped, held, meets, Formed}
use Rattle.model.specs.Gap.{slot_at, rest_at, child_at}
use Rattle.model.specs.Write.{write_at, write}
use Rattle.model.proofs.Cases.{either_lt}
use Rattle.model.proofs.Basics.{splice-one, all_set, set-inside, set-seam}
use Rattle.model.proofs.Sums.{sum-set-same}
use Rattle.model.proofs.Weave.{left, right, weave-hole, weave_at, weave-one}
use Rattle.model.proofs.Gap.{Located, way_down, child-shaped, located-below, located_here}

-- ---- one page

module _ {S A : Type 0} (f : S → List A) (ss : List S) (es : List A) (d : S) (g i g' : ℕ) (k : length ss ≡ suc (length es)) (L : Located f ss es d g i g') where
  -- the entry after the gap is the child's entry after the child's gap, if the child has one
  pub located-set : (x : A) → g' < length (f (get_or ss i d))
      → set (weave f ss es) g x ≡ left f (take i ss) (take i es) ++ (set (f (get_or ss i d)) g' x ++ right f (drop i es) (drop (suc i) ss))
  located-set x b =
      ap₂ (λ l n. set l n x) (weave_at f ss es i d k L.inside) (sym L.place)
      ∙ set-inside (left f (take i ss) (take i es)) (f (get_or ss i d)) (right f (drop i es) (drop (suc i) ss)) g' x b

  -- else it is the page's own
  pub located-own : length (f (get_or ss i d)) ≤ g' → g < length (weave f ss es) → i < length es
  located-own a b =
      either_lt i (length es) (λ c. c)
      (λ c.
      let n : length (right f (drop i es) (drop (suc i) ss)) ≡ 0 = rw (drop_of_length-le es c) in
      absurd (omega (arith, L.place, L.fits, simp length-append at (ap length (weave_at f ss es i d k L.inside)))))

  own_at : (y : A) → weave f ss (take i es ++ y ∷ drop (suc i) es)
      ≡ left f (take i ss) (take i es) ++ (f (get_or ss i d) ++ y ∷ weave f (drop (suc i) ss) (drop (suc i) es))
  own_at y =
      ap (λ (l : List S). weave f l (take i es ++ y ∷ drop (suc i) es)) (split_at ss i d L.inside)
      ∙ weave-hole f (take i ss) (take i es) (get_or ss i d) (drop (suc i) ss) (y ∷ drop (suc i) es) (simp length-take (omega (arith, L.inside)))

  pub located-set-own : (x : A) → length (f (get_or ss i d)) ≤ g' → g < length (weave f ss es) → set (weave f ss es) g x ≡ weave f ss (set es i x)
  located-set-own x a b =
      let o = located-own a b in
      ap₂ (λ l n. set l n x) (ap (weave f ss) (split_at es i x o) ∙ own_at (get_or es i x)) (omega (arith, L.place, L.fits))
      ∙ set-seam (left f (take i ss) (take i es)) (f (get_or ss i d)) (get_or es i x) (weave f (drop (suc i) ss) (drop (suc i) es)) x
      ∙ sym (own_at x)
      ∙ ap (weave f ss) (sym (set_split es i x o))

-- ---- trees

pub write-at-entries : (m low h : ℕ) (t : Tree h) (g : ℕ) (e : Entry) → Shaped m low h t → g < size h t → entries h (write_at h t g e) ≡ set (entries h t) g e
unfolding entries Shaped write_at
write-at-entries m low zero t g e s b = refl
write-at-entries m low (suc h) t g e s b =
    let i = slot_at h t g in
    let r = rest_at h t g in
    let c = child_at h t g in
    let L = way_down m low h t g s (omega arith) in
    either_lt r (size h c)
    (λ inner.
    rw (lt-ltb r (size h c) inner)
    (ap (λ l. weave (entries h) l t.own) (sym (splice-one i (write_at h c r e) t.children L.inside))
    ∙ weave-one (entries h) t.children t.own i (write_at h c r e) s.forks L.inside
    ∙ rw (write-at-entries m m h c r e (child-shaped m low h t g s (omega arith)) inner)
    (sym (located-set (entries h) t.children t.own (no_tree h) g i r s.forks L e inner))))
    (λ outer. rw (le-ltb r (size h c) outer) (sym (located-set-own (entries h) t.children t.own (no_tree h) g i r s.forks L e outer b)))

pub write-at-times : (p h : ℕ) (t : Tree h) (g : ℕ) (e : Entry) → times p h (write_at h t g e) ≡ times p h t
unfolding times write_at
write-at-times p zero t g e = refl
write-at-times p (suc h) t g e =
    let i = slot_at h t g in
    let r = rest_at h t g in
    let c = child_at h t g in
    either_lt r (size h c)
    (λ inner. rw (lt-ltb r (size h c) inner) (omega (arith, sum-set-same (times p h) t.children i (write_at h c r e) (no_tree h) (write-at-times p h c r e))))
    (λ outer. rw (le-ltb r (size h c) outer))

pub write-at-shaped : (m low h : ℕ) (t : Tree h) (g : ℕ) (e : Entry) → Shaped m low h t → g < size h t → Shaped m low h (write_at h t g e)
unfolding Shaped write_at
write-at-shaped m low zero t g e s b = tt
write-at-shaped m low (suc h) t g e s b =
    let i = slot_at h t g in
    let r = rest_at h t g in
    let c = child_at h t g in
    either_lt r (size h c)
    (λ inner.
    let w = write-at-shaped m m h c r e (child-shaped m low h t g s (omega arith)) inner in
    rw (lt-ltb r (size h c) inner)
    (record { forks = rw length-set s.forks; few = s.few; many = s.many; below = all_set (Shaped m m h) t.children i (write_at h c r e) w s.below }))
    (λ outer.
    rw (le-ltb r (size h c) outer)
    (record { forks = rw length-set s.forks; few = rw length-set s.few; many = rw length-set s.many; below = s.below }))

-- an entry over one like it changes nothing
write-at-same : (m low h : ℕ) (t : Tree h) (g : ℕ) (e : Entry) → Shaped m low h t → g < size h t → get_or (entries h t) g no_entry ≡ e → write_at h t g e ≡ t
unfolding entries Shaped write_at
write-at-same m low zero t g e s b q = refl
write-at-same m low (suc h) t g e s b q =
    let i = slot_at h t g in
    let r = rest_at h t g in
    let c = child_at h t g in
    let L = way_down m low h t g s (omega arith) in
    either_lt r (size h c)
    (λ inner.
    let below : write_at h c r e ≡ c =
    write-at-same m m h c r e (child-shaped m low h t g s (omega arith)) inner (sym (located-below (entries h) t.children t.own (no_tree h) g i r s.forks L no_entry inner) ∙ q) in
    rw (lt-ltb r (size h c) inner, below, set-get_or t.children i (no_tree h)))
    (λ outer.
    let own = located_here (entries h) t.children t.own (no_tree h) g i r s.forks L no_entry outer
    (located-own (entries h) t.children t.own (no_tree h) g i r s.forks L outer b) in
    rw (le-ltb r (size h c) outer, ← q, own, set-get_or t.own i no_entry))

-- ---- whole trees

module _ (m : ℕ) (x : Whole) (g : ℕ) (e : Entry) (s : Formed m x) (b : g < length (held x)) where
  pub write-held : held (write x g e) ≡ set (held x) g e
  unfolding write held Formed
  write-held = write-at-entries m 1 x.levels x.tree g e s b

  pub write_meets : (p : ℕ) → meets p (write x g e) ≡ meets p x
  unfolding write meets
  write_meets p = write-at-times p x.levels x.tree g e

  pub write-formed : Formed m (write x g e)
  unfolding write held Formed
  write-formed = write-at-shaped m 1 x.levels x.tree g e s b

  pub write_same : get_or (held x) g no_entry ≡ e → write x g e ≡ x
  unfolding write held Formed
  write_same q = rw (write-at-same m 1 x.levels x.tree g e s b q)
