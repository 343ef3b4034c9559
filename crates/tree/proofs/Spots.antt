-- Where the entry beside a path's gap stands: the deepest page of the path that has one at its slot. Code looks for it
-- from the path's end, the tree has it from the root; on a tree that sits in the pool the two agree.
-- Assumes nothing.
use mathlib.Core.Path.{◌≡◌, refl, sym, ap, ap₂, subst, ◌∙◌}
use mathlib.Core.Bool.{true, false, cond}
use mathlib.Core.List.{List, [], ◌∷◌, ◌++◌, map-append}
use Prim.Native.Nat.{ℕ, zero, suc, ◌-◌, ◌≤◌, ◌<◌}
use native.Mathlib.Omega.{arith}
use lib.Dec.{ltb}
use lib.ListN.{length}
use borrow.Author.Tests.{lt-ltb, le-ltb}
use Rattle.std.specs.Prelude.{Option, Some, None}
use Rattle.model.specs.Basics.{All}
use Rattle.model.specs.Tree.{Tree, no_entry, entries, size, Shaped}
use Rattle.model.specs.Gap.{slot_at, rest_at, child, child_at}
use Rattle.model.specs.Path.{gap_pages, gap_slots}
use Rattle.page.specs.Page.{holds_at}
use Rattle.lend.specs.Pages.{least, most, Inside, page_in}
use Rattle.tree.specs.declared.steps.Spot.{Spot}
use Rattle.tree.specs.Sits.{PathIn, Sits, pages_of, slots_of}
use Rattle.tree.specs.Steps.{spot, spot_of, spot_before, or_else, here_after, here_before, deepest, Within, Spots, SpotAfter, SpotBefore}
use Rattle.model.proofs.Cases.{either, either_lt, never}
use Rattle.model.proofs.Basics.{next-some, next-none, all_left, all_right}
use Rattle.model.proofs.Gap.{way_down, child-shaped}
use Rattle.model.proofs.Path.{slot-at-end, rest-at-end}
use Rattle.page.proofs.Pages.{holds-facts}
use Rattle.tree.proofs.Paths.{no_length, path-even}
use Rattle.tree.proofs.Sitting.{sits-child, sits-slot, sits-rest}
use Rattle.tree.proofs.Seams.{next-seam, prev-under, prev-seam, prev-first, start-slot}
use Rattle.tree.proofs.Turning.{holds-own}

-- ---- along a path of any pages

else-end : (a : Option Spot) → or_else a None ≡ a
else-end (Some x) = refl
else-end None = refl

else-again : (a b c : Option Spot) → or_else (or_else a b) c ≡ or_else a (or_else b c)
else-again (Some x) b c = refl
else-again None b c = refl

module _ (here : ℕ → ℕ → Option Spot) where
  -- the path with one page more at its end
  deepest-more : (ps ss : List ℕ) (p s : ℕ) → length ps ≡ length ss → deepest here (ps ++ p ∷ []) (ss ++ s ∷ []) ≡ or_else (here p s) (deepest here ps ss)
  unfolding deepest
  deepest-more [] [] p s e = sym (else-end (here p s))
  deepest-more [] (y ∷ ss) p s e = absurd (omega arith)
  deepest-more (x ∷ ps) [] p s e = absurd (omega arith)
  deepest-more (x ∷ ps) (y ∷ ss) p s e =
      ap (λ (r : Option Spot). or_else r (here x y)) (deepest-more ps ss p s (omega arith)) ∙ else-again (here p s) (deepest here ps ss) (here x y)

  -- what a page inside the pool has can be read, so can what the path has
  within-path : (w ps ss : List ℕ) → ((p s : ℕ) → Inside p w → Within w (here p s)) → All (λ p. Inside p w) ps → Within w (deepest here ps ss)
  unfolding deepest
  within-path w [] ss f a z e = never (cc)
  within-path w (x ∷ ps) [] f a z e = never (cc)
  within-path w (x ∷ ps) (y ∷ ss) f a z e = go (within-path w ps ss f a.1) (deepest here ps ss) refl e
    where
      go : Within w (deepest here ps ss) → (r : Option Spot) → deepest here ps ss ≡ r → or_else r (here x y) ≡ Some z → Inside z.page w × (z.slot < most)
      go ih (Some _) d k = ih z (d ∙ k)
      go ih None d k = f x y a.0 z k

within-after : (w : List ℕ) (p s : ℕ) → Inside p w → Within w (here_after w p s)
unfolding here_after
within-after w p s b x e =
    either (holds_at most (page_in w p) s 0)
    (λ y.
    let z : Some (spot p s) ≡ Some x = rw y at e in
    let h = holds-facts most (page_in w p) s 0 y in
    let same : spot p s ≡ x = cc in
    subst (λ (x : Spot). Inside x.page w × (x.slot < most)) same (b, omega arith))
    (λ n. let z : None ≡ Some x = rw n at e in never (cc (z)))

within-before : (w : List ℕ) (p s : ℕ) → Inside p w → Within w (here_before w p s)
unfolding here_before
within-before w p zero b x e = never (cc)
within-before w p (suc s) b x e = within-after w p s b x e

-- ---- of a tree

module _ (m : ℕ) where
  -- where there is an entry it has a spot
  pub spot-some : (low h : ℕ) (t : Tree h) (g : ℕ) → Shaped m low h t → g < size h t → (r : Option Spot) → or_else (spot_of h t g) r ≡ spot_of h t g
  unfolding spot_of entries
  spot-some low zero t g s b r = absurd (omega arith)
  spot-some low (suc h) t g s b r =
      let c = child_at h t g in
      let g' = rest_at h t g in
      let i = slot_at h t g in
      let l = (way_down m low h t g s (omega arith)).fits in
      either_lt g' (size h c)
      (λ y. rw (lt-ltb g' (size h c) y) (spot-some m h c g' (child-shaped m low h t g s (omega arith)) y r))
      (λ n. rw (le-ltb g' (size h c) n) (either_lt i (length t.own)
      (λ y. rw (lt-ltb i (length t.own) y))
      (λ o.
      let x = next-seam m low h t s g (omega arith) (omega arith) in
      never (cc (x, next-some (entries (suc h) t) g no_entry b, next-none t.own i o)))))

  -- and at the end there is none
  pub spot-end : (low h : ℕ) (t : Tree h) (g : ℕ) → Shaped m low h t → g ≡ size h t → spot_of h t g ≡ None
  unfolding spot_of
  spot-end low zero t g s e = refl
  spot-end low (suc h) t g s e =
      let a = rest-at-end m low h t g s e in
      let b = slot-at-end m low h t g s e in
      rw (le-ltb (rest_at h t g) (size h (child_at h t g)) (omega arith), le-ltb (slot_at h t g) (length t.own) (omega arith))

-- ---- of a tree that sits in the pool

module _ (w : List ℕ) where
  here-own : (low h : ℕ) (t : Tree (suc h)) (i : ℕ) → Sits w low (suc h) t → here_after w t.page i ≡ cond (ltb i (length t.own)) (Some (spot t.page i)) None
  unfolding here_after
  here-own low h t i u = rw (holds-own w low h t i u)

  pub path-after : (low h : ℕ) (t : Tree h) (g : ℕ) → Sits w low h t → g ≤ size h t → deepest (here_after w) (gap_pages h t g) (gap_slots h t g) ≡ spot_of h t g
  unfolding deepest gap_pages gap_slots spot_of
  path-after low zero t g u b = refl
  path-after low (suc h) t g u b =
      let c = child_at h t g in
      let g' = rest_at h t g in
      let v = sits-child w low h t u (slot_at h t g) (sits-slot w low h t u g b) in
      let f = sits-rest w low h t u g b in
      rw (path-after least h c g' v f, here-own low h t (slot_at h t g) u)
      (either_lt g' (size h c)
      (λ y. rw (lt-ltb g' (size h c) y) (spot-some least least h c g' v.shaped y _))
      (λ n. rw (le-ltb g' (size h c) n, spot-end least least h c g' v.shaped (omega arith))))

  -- the entry before gap g is the child's, or the page's own before its slot
  before-page : (low h : ℕ) (t : Tree (suc h)) (g r i : ℕ) → Sits w low (suc h) t → g ≤ size (suc h) t → rest_at h t g ≡ r → slot_at h t g ≡ i
      → or_else (spot_before h (child_at h t g) r) (here_before w t.page i) ≡ spot_before (suc h) t g
  unfolding here_before spot_of
  before-page low h t zero (suc r) i u b er ei = absurd (omega (arith, (way_down least low h t 0 u.shaped b).place))
  before-page low h t zero zero (suc i) u b er ei = absurd (omega (arith, start-slot least low h t u.shaped))
  before-page low h t zero zero zero u b er ei = refl
  before-page low h t (suc g) (suc r) i u b er ei =
      let v = sits-child w low h t u (slot_at h t (suc g)) (sits-slot w low h t u (suc g) b) in
      let f = sits-rest w low h t u (suc g) b in
      let x = prev-under least low h t u.shaped g b r er in
      let l : r < size h (child_at h t (suc g)) = omega arith in
      rw (x.2, x.1, lt-ltb r (size h (child_at h t (suc g))) l) (spot-some least least h (child_at h t (suc g)) r v.shaped l (here_before w t.page i))
  before-page low h t (suc g) zero zero u b er ei = absurd (prev-first least low h t u.shaped g b er ei)
  before-page low h t (suc g) zero (suc j) u b er ei =
      let x = prev-seam least low h t u.shaped g b er j ei in
      let n = size h (child h t j) in
      rw (x.2, x.1, le-ltb n n (omega arith)) (here-own low h t j u)

  pub path-before : (low h : ℕ) (t : Tree h) (g : ℕ) → Sits w low h t → g ≤ size h t → deepest (here_before w) (gap_pages h t g) (gap_slots h t g) ≡ spot_before h t g
  unfolding deepest gap_pages gap_slots spot_of
  path-before low zero t zero u b = refl
  path-before low zero t (suc g) u b = refl
  path-before low (suc h) t g u b =
      let v = sits-child w low h t u (slot_at h t g) (sits-slot w low h t u g b) in
      rw (path-before least h (child_at h t g) (rest_at h t g) v (sits-rest w low h t u g b)) (before-page low h t g (rest_at h t g) (slot_at h t g) u b refl refl)

-- ---- what is answered, from the path's end

-- before slot s of page p
here-before : (w : List ℕ) (p s : ℕ) → 0 < s → here_before w p s ≡ here_after w p (s - 1)
unfolding here_before
here-before w p zero l = absurd (omega arith)
here-before w p (suc s) l = let e : suc s - 1 ≡ s = omega arith in rw e

pub before-first : (w : List ℕ) (p s : ℕ) → s ≤ 0 → here_before w p s ≡ None
unfolding here_before
before-first w p zero l = refl
before-first w p (suc s) l = absurd (omega arith)

-- what a page has at its slot, in a pool
abbrev pub Here : Type 0
Here = List ℕ → ℕ → ℕ → Option Spot

-- the spots that are left as code comes from the path's end: their pages lie inside, and they give what all of it gives
pub record Left (here : Here) (w : List ℕ) (path left : List Spot) : Type 0 where
  pub inside : All (λ p. Inside p w) (pages_of left)
  pub gives : deepest (here w) (pages_of left) (slots_of left) ≡ deepest (here w) (pages_of path) (slots_of path)

module _ {here : Here} {w : List ℕ} {path left : List Spot} (a : Left here w path left) where
  left-none : length left ≡ 0 → None ≡ deepest (here w) (pages_of path) (slots_of path)
  unfolding deepest
  left-none z = rw (no_length left z) at a.gives

  -- the last of them, and the others
  module _ (fewer : List Spot) (x : Spot) (e : left ≡ fewer ++ x ∷ []) where
    pages : pages_of left ≡ pages_of fewer ++ x.page ∷ []
    pages = ap pages_of e ∙ map-append (λ (y : Spot). y.page) fewer (x ∷ [])

    slots : slots_of left ≡ slots_of fewer ++ x.slot ∷ []
    slots = ap slots_of e ∙ map-append (λ (y : Spot). y.slot) fewer (x ∷ [])

    insides : All (λ p. Inside p w) (pages_of fewer ++ x.page ∷ [])
    insides = rw pages at a.inside

    pub left-inside : Inside x.page w
    left-inside = (all_right (λ p. Inside p w) (pages_of fewer) (x.page ∷ []) insides).0

    -- it has one, or the others give what is given
    left-last : or_else (here w x.page x.slot) (deepest (here w) (pages_of fewer) (slots_of fewer)) ≡ deepest (here w) (pages_of path) (slots_of path)
    left-last =
        sym (deepest-more (here w) (pages_of fewer) (slots_of fewer) x.page x.slot (path-even fewer)) ∙ ap₂ (deepest (here w)) (sym pages) (sym slots) ∙ a.gives

    left-less : here w x.page x.slot ≡ None → Left here w path fewer
    left-less n = record {
      inside = all_left (λ p. Inside p w) (pages_of fewer) (x.page ∷ []) insides;
      gives = rw n at left-last;
    }

module _ (w ps ss : List ℕ) (q : PathIn w ps ss) where
  said : (here : Here) (found : (h : ℕ) → Tree h → ℕ → Option Spot) → ((p s : ℕ) → Inside p w → Within w (here w p s))
      → ((low h : ℕ) (t : Tree h) (g : ℕ) → Sits w low h t → g ≤ size h t → deepest (here w) (gap_pages h t g) (gap_slots h t g) ≡ found h t g)
      → {r : Option Spot} → r ≡ deepest (here w) ps ss → Spots here found w ps ss r
  said here found inside along e = record {
    looked = e;
    within = λ x i. within-path (here w) w ps ss inside q.inside x (sym e ∙ i);
    exact = λ low h t g u b a. e ∙ ap₂ (deepest (here w)) a.pages a.slots ∙ along low h t g u b;
  }

  after-said : {r : Option Spot} → r ≡ deepest (here_after w) ps ss → SpotAfter w ps ss r
  after-said = said here_after spot_of (within-after w) (path-after w)

  before-said : {r : Option Spot} → r ≡ deepest (here_before w) ps ss → SpotBefore w ps ss r
  before-said = said here_before spot_before (within-before w) (path-before w)

-- in turn, from the leaf upward: the last spot that is left has it, or has none and is left out, or none is left
module _ {w : List ℕ} {path left : List Spot} (q : PathIn w (pages_of path) (slots_of path)) (a : Left here_after w path left) where
  pub after_none : length left ≡ 0 → SpotAfter w (pages_of path) (slots_of path) None
  after_none z = after-said w (pages_of path) (slots_of path) q (left-none a z)

  module _ (fewer : List Spot) (x : Spot) (e : left ≡ fewer ++ x ∷ []) where
    pub after-here : holds_at most (page_in w x.page) x.slot 0 ≡ true → SpotAfter w (pages_of path) (slots_of path) (Some x)
    unfolding here_after
    after-here y = after-said w (pages_of path) (slots_of path) q (rw y at (left-last a fewer x e))

    pub after-lost : holds_at most (page_in w x.page) x.slot 0 ≡ false → Left here_after w path fewer
    unfolding here_after
    after-lost n = left-less a fewer x e (rw n)

module _ {w : List ℕ} {path left : List Spot} (q : PathIn w (pages_of path) (slots_of path)) (a : Left here_before w path left) where
  pub before-none : length left ≡ 0 → SpotBefore w (pages_of path) (slots_of path) None
  before-none z = before-said w (pages_of path) (slots_of path) q (left-none a z)

  module _ (fewer : List Spot) (x : Spot) (e : left ≡ fewer ++ x ∷ []) where
    pub before_here : 0 < x.slot → holds_at most (page_in w x.page) (x.slot - 1) 0 ≡ true
        → SpotBefore w (pages_of path) (slots_of path) (Some (spot x.page (x.slot - 1)))
    unfolding here_after
    before_here m y = before-said w (pages_of path) (slots_of path) q (rw (here-before w x.page x.slot m, y) at (left-last a fewer x e))

    pub before-lost : 0 < x.slot → holds_at most (page_in w x.page) (x.slot - 1) 0 ≡ false → Left here_before w path fewer
    unfolding here_after
    before-lost m n = left-less a fewer x e (here-before w x.page x.slot m ∙ rw n)

    pub before-past : x.slot ≤ 0 → Left here_before w path fewer
    before-past z = left-less a fewer x e (before-first w x.page x.slot z)
