-- A gap lies in one child of a page, at one of that child's gaps, and in no other. Over a function `f` that says what a
-- child holds; then of trees. And the pages that the gap's path meets are the tree's.
-- Assumes nothing.
use mathlib.Core.Path.{◌≡◌, sym, ap, ap₂, ◌∙◌, refl}
use mathlib.Core.List.{List, [], ◌∷◌, ◌++◌}
use Prim.Native.Nat.{ℕ, zero, suc, ◌+◌, ◌-◌, ◌≤◌, ◌<◌}
use native.Mathlib.Omega.{arith}
use lib.ListN.{length, take, drop, get_or, length-append, get_or-append}
use lib.Seq.{drop-cons, get_or_at, get_or-append-add}
use borrow.Author.Tests.{le-leb, lt-leb}
use Rattle.model.specs.Basics.{ins, sum, same}
use Rattle.model.specs.Tree.{Tree, no_tree, weave, entries, size, times, Shaped, Entry}
use Rattle.model.specs.Gap.{slot, rest, slot_at, rest_at, child, child_at}
use Rattle.model.specs.Path.{gap_pages}
use Rattle.model.proofs.Cases.{either-le, same_self}
use Rattle.model.proofs.Basics.{ins-inside, all-at}
use Rattle.model.proofs.Sums.{sum-at}
use Rattle.model.proofs.Weave.{left, right, weave_at, length-weave}

-- gap g of the page is gap g' of its child i
pub record Located {S A : Type 0} (f : S → List A) (ss : List S) (es : List A) (d : S) (g i g' : ℕ) : Type 0 where
  pub inside : i < length ss
  pub place : length (left f (take i ss) (take i es)) + g' ≡ g
  pub fits : g' ≤ length (f (get_or ss i d))

module _ {S A : Type 0} (f : S → List A) where
  abbrev long : S → ℕ
  long s = length (f s)

  -- the gap lies in one child, `slot`, at one of its gaps, `rest`
  pub located : (ss : List S) (es : List A) (d : S) (g : ℕ) → length ss ≡ suc (length es) → g ≤ length (weave f ss es)
      → Located f ss es d g (slot long ss g) (rest long ss g)
  located [] es d g k h = absurd (omega arith)
  located (s ∷ []) [] d g k h = rw (le-leb g (long s) h) (record { inside = omega arith; place = omega arith; fits = h })
  located (s ∷ s' ∷ ss) [] d g k h = absurd (omega arith)
  located (s ∷ ss) (x ∷ es) d g k h =
      let total : g ≤ long s + suc (length (weave f ss es)) = simp length-append at h in
      let ih : g - suc (long s) ≤ length (weave f ss es) → Located f ss es d (g - suc (long s)) (slot long ss (g - suc (long s))) (rest long ss (g - suc (long s))) =
      located ss es d (g - suc (long s)) (omega arith) in
      either-le g (long s)
      (λ low. rw (le-leb g (long s) low) (record { inside = omega arith; place = omega arith; fits = low }))
      (λ high.
      let r = ih (omega arith) in
      rw (lt-leb g (long s) high) (record { inside = omega arith; place = simp length-append (omega arith); fits = r.fits }))

  -- an entry put at the gap is an entry put at the child's gap
  pub located-ins : (ss : List S) (es : List A) (d : S) (g i g' : ℕ) (x : A) → length ss ≡ suc (length es) → Located f ss es d g i g'
      → ins g x (weave f ss es) ≡ left f (take i ss) (take i es) ++ (ins g' x (f (get_or ss i d)) ++ right f (drop i es) (drop (suc i) ss))
  located-ins ss es d g i g' x k L =
      ap₂ (λ k l. ins k x l) (sym L.place) (weave_at f ss es i d k L.inside)
      ∙ ins-inside (left f (take i ss) (take i es)) (f (get_or ss i d)) (right f (drop i es) (drop (suc i) ss)) g' x L.fits

  -- and in no other: the place decides the child and its gap
  pub slot-at : (ls : List S) (xs : List A) (c : S) (rs : List S) (g g' : ℕ) → length ls ≡ length xs → g' ≤ long c
      → length (left f ls xs) + g' ≡ g → (slot long (ls ++ c ∷ rs) g ≡ length ls) × (rest long (ls ++ c ∷ rs) g ≡ g')
  slot-at [] [] c rs g g' k h e = rw (le-leb g (long c) (omega arith)) (omega arith)
  slot-at [] (x ∷ xs) c rs g g' k h e = absurd (omega arith)
  slot-at (s ∷ ls) [] c rs g g' k h e = absurd (omega arith)
  slot-at (s ∷ ls) (x ∷ xs) c rs g g' k h e =
      let e' : long s + suc (length (left f ls xs)) + g' ≡ g = simp length-append at e in
      let ih = slot-at ls xs c rs (g - suc (long s)) g' (omega arith) h (omega arith) in
      rw (lt-leb g (long s) (omega arith)) (ap suc ih.0, ih.1)

module _ {S A : Type 0} (f : S → List A) (ss : List S) (es : List A) (d : S) (g i g' : ℕ) (k : length ss ≡ suc (length es)) (L : Located f ss es d g i g') where
  -- the entry after the gap is the child's entry after the child's gap, if the child has one
  pub located-below : (x : A) → g' < length (f (get_or ss i d)) → get_or (weave f ss es) g x ≡ get_or (f (get_or ss i d)) g' x
  located-below x b =
      ap₂ (λ l n. get_or l n x) (weave_at f ss es i d k L.inside) (sym L.place)
      ∙ get_or-append-add (left f (take i ss) (take i es)) (f (get_or ss i d) ++ right f (drop i es) (drop (suc i) ss)) g' x
      ∙ get_or-append (f (get_or ss i d)) (right f (drop i es) (drop (suc i) ss)) x g' b

  -- else it is the page's own
  pub located_here : (x : A) → length (f (get_or ss i d)) ≤ g' → i < length es → get_or (weave f ss es) g x ≡ get_or es i x
  located_here x a o =
      ap₂ (λ l n. get_or l n x) (weave_at f ss es i d k L.inside) (sym L.place)
      ∙ get_or-append-add (left f (take i ss) (take i es)) (f (get_or ss i d) ++ right f (drop i es) (drop (suc i) ss)) g' x
      ∙ rw (drop-cons es i x o) (get_or_at (f (get_or ss i d)) (get_or es i x) (weave f (drop (suc i) ss) (drop (suc i) es)) x g' (omega (arith, L.fits)))

-- ---- of trees

pub shaped-forks : (m low h : ℕ) (t : Tree (suc h)) → Shaped m low (suc h) t → length t.children ≡ suc (length t.own)
unfolding Shaped
shaped-forks m low h t s = s.forks

-- the size of a tree is the entries of its page and the sizes of its children
pub size-suc : (m low h : ℕ) (t : Tree (suc h)) → Shaped m low (suc h) t → size (suc h) t ≡ length t.own + sum (size h) t.children
unfolding entries Shaped
size-suc m low h t s = length-weave (entries h) t.children t.own s.forks

-- a page with an entry holds an entry
pub size-some : (m low h : ℕ) (t : Tree (suc h)) → 1 ≤ low → Shaped m low (suc h) t → 1 ≤ size (suc h) t
unfolding Shaped
size-some m low h t l s = omega (arith, size-suc m low h t s, s.few)

-- a leaf holds its own entries
pub leaf-holds : (ss : List (Tree 0)) (es : List Entry) → weave (entries 0) ss es ≡ es
unfolding entries
leaf-holds [] es = refl
leaf-holds (s ∷ ss) [] = refl
leaf-holds (s ∷ ss) (e ∷ es) = ap (λ (r : List Entry). e ∷ r) (leaf-holds ss es)

pub leaf-entries : (t : Tree 1) → entries 1 t ≡ t.own
unfolding entries
leaf-entries t = leaf-holds t.children t.own

-- and its slots are its gaps
pub leaf-slot : (ss : List (Tree 0)) (g : ℕ) → g < length ss → slot (size 0) ss g ≡ g
unfolding entries
leaf-slot [] g b = absurd (omega arith)
leaf-slot (s ∷ ss) zero b = refl
leaf-slot (s ∷ ss) (suc g) b =
    let z : suc g - 1 ≡ g = omega arith in
    rw (lt-leb (suc g) 0 (omega arith), z) (ap suc (leaf-slot ss g (omega arith)))

module _ (m low h : ℕ) (t : Tree (suc h)) (g : ℕ) (s : Shaped m low (suc h) t) (b : g ≤ size (suc h) t) where
  pub way_down : Located (entries h) t.children t.own (no_tree h) g (slot_at h t g) (rest_at h t g)
  unfolding entries Shaped
  way_down = located (entries h) t.children t.own (no_tree h) g s.forks b

  pub child-shaped : Shaped m m h (child_at h t g)
  unfolding Shaped
  child-shaped = all-at (Shaped m m h) t.children (slot_at h t g) (no_tree h) way_down.inside s.below

  pub slot-le : slot_at h t g ≤ length t.own
  unfolding Shaped
  slot-le = let k = s.forks in omega (arith, way_down.inside)

-- ---- the pages of a tree

pub times-page : (h : ℕ) (t : Tree (suc h)) → 0 < times t.page (suc h) t
unfolding times
times-page h t = omega (arith, same_self t.page)

pub times-child : (q h : ℕ) (t : Tree (suc h)) (i : ℕ) → i < length t.children → times q h (child h t i) ≤ times q (suc h) t
unfolding times
times-child q h t i b = omega (arith, sum-at (times q h) t.children i (no_tree h) b)

-- each page of a gap's path is the tree's
pub path-met : (q m low h : ℕ) (t : Tree h) (g : ℕ) → Shaped m low h t → g ≤ size h t → sum (same q) (gap_pages h t g) ≤ times q h t
unfolding gap_pages times
path-met q m low zero t g s b = omega arith
path-met q m low (suc h) t g s b =
    let L = way_down m low h t g s b in
    omega (arith, path-met q m m h (child_at h t g) (rest_at h t g) (child-shaped m low h t g s b) L.fits, sum-at (times q h) t.children (slot_at h t g) (no_tree h) L.inside)
