-- A gap and the one behind it: they lie in one child of the page, or around one of its own entries. Over a function `f`
-- that says what a child holds; then of trees, with the entry between the two. Assumes nothing.
use mathlib.Core.Path.{◌≡◌, refl, ap, ◌∙◌}
use mathlib.Core.List.{List, [], ◌∷◌, ◌++◌}
use Prim.Native.Nat.{ℕ, zero, suc, ◌+◌, ◌≤◌, ◌<◌}
use native.Mathlib.Nat.{zero-add, suc-add}
use native.Mathlib.Omega.{arith}
use lib.ListN.{length, take, drop, get_or, get_elem?, length-append, length-take}
use lib.Seq.{split_at, length-take-le}
use Rattle.model.specs.Tree.{Tree, no_tree, weave, entries, size, Shaped}
use Rattle.model.specs.Entries.{next}
use Rattle.model.specs.Gap.{slot, rest, slot_at, rest_at, child, child_at}
use Rattle.model.proofs.Weave.{left, right, weave_at}
use Rattle.model.proofs.Gap.{Located, slot-at, way_down}

-- ---- lists

module _ {A : Type 0} where
  get-behind : (xs ys : List A) (n : ℕ) → get_elem? (xs ++ ys) (length xs + n) ≡ get_elem? ys n
  get-behind [] ys n = rw zero-add
  get-behind (x ∷ xs) ys n = rw suc-add (get-behind xs ys n)

  get-front : (xs ys : List A) (n : ℕ) → n < length xs → get_elem? (xs ++ ys) n ≡ get_elem? xs n
  get-front [] ys n b = absurd (omega arith)
  get-front (x ∷ xs) ys zero b = refl
  get-front (x ∷ xs) ys (suc n) b = get-front xs ys n (omega arith)

  get_drop : (n : ℕ) (l : List A) → get_elem? (drop n l) 0 ≡ get_elem? l n
  get_drop zero l = refl
  get_drop (suc n) [] = refl
  get_drop (suc n) (x ∷ l) = get_drop n l

-- ---- one page, over a function `f` that says what a child holds

module _ {S A : Type 0} (f : S → List A) where
  -- to the left of child i + 1 stands what stands to the left of child i, the child, and entry i
  left-more : (ss : List S) (es : List A) (i : ℕ) (d : S) → i < length es → i < length ss
      → length (left f (take (suc i) ss) (take (suc i) es)) ≡ length (left f (take i ss) (take i es)) + suc (length (f (get_or ss i d)))
  left-more [] es i d b c = absurd (omega arith)
  left-more (s ∷ ss) [] i d b c = absurd (omega arith)
  left-more (s ∷ ss) (e ∷ es) zero d b c = simp length-append (omega arith)
  left-more (s ∷ ss) (e ∷ es) (suc i) d b c = simp length-append (omega (arith, left-more ss es i d (omega arith) (omega arith)))

  get-right : (es : List A) (ss : List S) → get_elem? (right f es ss) 0 ≡ get_elem? es 0
  get-right [] ss = refl
  get-right (e ∷ es) ss = refl

module _ {S A : Type 0} (f : S → List A) (ss : List S) (es : List A) (d : S) (k : length ss ≡ suc (length es)) where
  -- a place decides the child and its gap
  located-slot : {g i g' : ℕ} → Located f ss es d g i g' → (slot (λ s. length (f s)) ss g ≡ i) × (rest (λ s. length (f s)) ss g ≡ g')
  located-slot {g} {i} {g'} l =
      let b = l.inside in
      let r = slot-at f (take i ss) (take i es) (get_or ss i d) (drop (suc i) ss) g g' (simp length-take (omega arith)) l.fits l.place in
      let e = split_at ss i d b in
      (ap (λ (z : List S). slot (λ s. length (f s)) z g) e ∙ r.0 ∙ length-take-le i ss (omega arith), ap (λ (z : List S). rest (λ s. length (f s)) z g) e ∙ r.1)

  -- a gap and the one behind it lie in one child, or around one own entry
  within_on : {g i g' : ℕ} → Located f ss es d g i g' → g' < length (f (get_or ss i d)) → Located f ss es d (suc g) i (suc g')
  within_on l b = record { inside = l.inside; place = omega (arith, l.place); fits = b }

  within-back : {g i g' : ℕ} → Located f ss es d (suc g) i (suc g') → Located f ss es d g i g'
  within-back l = record { inside = l.inside; place = omega (arith, l.place); fits = omega (arith, l.fits) }

  seam-on : {g i g' : ℕ} → Located f ss es d g i g' → g' ≡ length (f (get_or ss i d)) → i < length es → Located f ss es d (suc g) (suc i) 0
  seam-on {g} {i} {g'} l e b =
      record { inside = omega arith; place = omega (arith, l.place, left-more f ss es i d b l.inside); fits = omega arith }

  seam-back : {g i : ℕ} → Located f ss es d (suc g) (suc i) 0 → Located f ss es d g i (length (f (get_or ss i d)))
  seam-back {g} {i} l =
      let b = l.inside in
      record { inside = omega arith; place = omega (arith, l.place, left-more f ss es i d (omega arith) (omega arith)); fits = omega arith }

  -- the entry behind the gap
  get-within : {g i g' : ℕ} → Located f ss es d g i g' → g' < length (f (get_or ss i d)) → get_elem? (weave f ss es) g ≡ get_elem? (f (get_or ss i d)) g'
  get-within {g} {i} {g'} l b =
      let xs = left f (take i ss) (take i es) in
      let r = right f (drop i es) (drop (suc i) ss) in
      rw (weave_at f ss es i d k l.inside, ← l.place) (get-behind xs (f (get_or ss i d) ++ r) g' ∙ get-front (f (get_or ss i d)) r g' b)

  get_seam : {g i g' : ℕ} → Located f ss es d g i g' → g' ≡ length (f (get_or ss i d)) → get_elem? (weave f ss es) g ≡ get_elem? es i
  get_seam {g} {i} {g'} l e =
      let xs = left f (take i ss) (take i es) in
      let c = f (get_or ss i d) in
      let r = right f (drop i es) (drop (suc i) ss) in
      let z : g' ≡ length c + 0 = omega arith in
      rw (weave_at f ss es i d k l.inside, ← l.place, z)
      (get-behind xs (c ++ r) (length c + 0) ∙ get-behind c r 0 ∙ get-right f (drop i es) (drop (suc i) ss) ∙ get_drop i es)

-- ---- of trees

module _ (m low h : ℕ) (t : Tree (suc h)) (s : Shaped m low (suc h) t) (g : ℕ) where
  -- a gap inside a child, and the one behind it
  pub next_under : g ≤ size (suc h) t → rest_at h t g < size h (child_at h t g)
      → (next g (entries (suc h) t) ≡ next (rest_at h t g) (entries h (child_at h t g)))
      × (slot_at h t (suc g) ≡ slot_at h t g) × (rest_at h t (suc g) ≡ suc (rest_at h t g))
  unfolding entries Shaped
  next_under b l =
      let w = way_down m low h t g s b in
      let r = located-slot (entries h) t.children t.own (no_tree h) s.forks (within_on (entries h) t.children t.own (no_tree h) s.forks w l) in
      (get-within (entries h) t.children t.own (no_tree h) s.forks w l, r.0, r.1)

  -- at a child's end it is the page's own entry, or the page's end
  pub next-seam : g ≤ size (suc h) t → rest_at h t g ≡ size h (child_at h t g) → next g (entries (suc h) t) ≡ next (slot_at h t g) t.own
  unfolding entries Shaped
  next-seam b e = get_seam (entries h) t.children t.own (no_tree h) s.forks (way_down m low h t g s b) e

  pub next-seam-gap : g ≤ size (suc h) t → rest_at h t g ≡ size h (child_at h t g) → slot_at h t g < length t.own
      → (slot_at h t (suc g) ≡ suc (slot_at h t g)) × (rest_at h t (suc g) ≡ 0)
  unfolding entries Shaped
  next-seam-gap b e l =
      located-slot (entries h) t.children t.own (no_tree h) s.forks
      (seam-on (entries h) t.children t.own (no_tree h) s.forks (way_down m low h t g s b) e l)

  -- seen from the gap behind
  pub prev-under : suc g ≤ size (suc h) t → (r : ℕ) → rest_at h t (suc g) ≡ suc r
      → (next g (entries (suc h) t) ≡ next r (entries h (child_at h t (suc g)))) × (slot_at h t g ≡ slot_at h t (suc g)) × (rest_at h t g ≡ r)
  unfolding entries Shaped
  prev-under b r e =
      let w : Located (entries h) t.children t.own (no_tree h) (suc g) (slot_at h t (suc g)) (suc r) = rw e at (way_down m low h t (suc g) s b) in
      let v = within-back (entries h) t.children t.own (no_tree h) s.forks w in
      let q = located-slot (entries h) t.children t.own (no_tree h) s.forks v in
      (get-within (entries h) t.children t.own (no_tree h) s.forks v w.fits, q.0, q.1)

  pub prev-seam : suc g ≤ size (suc h) t → rest_at h t (suc g) ≡ 0 → (j : ℕ) → slot_at h t (suc g) ≡ suc j
      → (next g (entries (suc h) t) ≡ next j t.own) × (slot_at h t g ≡ j) × (rest_at h t g ≡ size h (child h t j))
  unfolding entries Shaped
  prev-seam b e j i =
      let w : Located (entries h) t.children t.own (no_tree h) (suc g) (suc j) 0 = rw (e, i) at (way_down m low h t (suc g) s b) in
      let v = seam-back (entries h) t.children t.own (no_tree h) s.forks w in
      let q = located-slot (entries h) t.children t.own (no_tree h) s.forks v in
      (get_seam (entries h) t.children t.own (no_tree h) s.forks v refl, q.0, q.1)

  pub prev-first : suc g ≤ size (suc h) t → rest_at h t (suc g) ≡ 0 → slot_at h t (suc g) ≡ 0 → ⊥
  unfolding entries Shaped
  prev-first b e i =
      let w : Located (entries h) t.children t.own (no_tree h) (suc g) 0 0 = rw (e, i) at (way_down m low h t (suc g) s b) in
      omega (arith, w.place)

-- the first gap is the first child's
pub start-slot : (m low h : ℕ) (t : Tree (suc h)) → Shaped m low (suc h) t → slot_at h t 0 ≡ 0
unfolding Shaped
start-slot m low h t s =
    let k = s.forks in
    let l : Located (entries h) t.children t.own (no_tree h) 0 0 0 = record { inside = omega arith; place = refl; fits = omega arith } in
    (located-slot (entries h) t.children t.own (no_tree h) k l).0
