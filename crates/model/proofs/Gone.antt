-- A list that has lost the entry after a gap, or its last where the gap is its end; and the law of removal at a page:
-- to take away the entry after a gap of what a page holds is to do so in the gap's child, whose greatest entry takes
-- the place of the page's own entry where that is the one that goes.
-- Assumes nothing.
use mathlib.Core.Path.{◌≡◌, refl, sym, ap, ◌∙◌}
use mathlib.Core.List.{List, [], ◌∷◌, ◌++◌}
use Prim.Native.Nat.{ℕ, zero, suc, ◌-◌, ◌≤◌, ◌<◌}
use native.Mathlib.Omega.{arith}
use lib.ListN.{length, take, get_or, set, length-append}
use borrow.Author.Tests.{le-leb, lt-leb}
use Rattle.model.specs.Basics.{All, del, final}
use Rattle.model.specs.Tree.{Entry, no_entry, weave}
use Rattle.model.specs.Gap.{slot, rest}
use Rattle.model.specs.Remove.{gone, heir}
use Rattle.model.proofs.Cases.{either-le}

module _ {A : Type 0} where
  pub gone-zero : (x : A) (w : List A) → gone zero (x ∷ w) ≡ w
  gone-zero x [] = refl
  gone-zero x (y ∷ w) = refl

  pub gone_cons : (g : ℕ) (x : A) (w : List A) → 1 ≤ length w → gone (suc g) (x ∷ w) ≡ x ∷ gone g w
  gone_cons g x [] h = absurd (omega arith)
  gone_cons g x (y ∷ w) h = refl

  pub gone-length : (g : ℕ) (w : List A) → 1 ≤ length w → suc (length (gone g w)) ≡ length w
  gone-length g [] h = absurd (omega arith)
  gone-length g (x ∷ []) h = refl
  gone-length zero (x ∷ y ∷ w) h = refl
  gone-length (suc g) (x ∷ y ∷ w) h = ap suc (gone-length g (y ∷ w) (omega arith))

  -- by `take` and `drop`: inside the list, and at its end
  pub gone_at : (g : ℕ) (w : List A) → g < length w → gone g w ≡ del g w
  gone_at g [] h = absurd (omega arith)
  gone_at zero (x ∷ w) h = gone-zero x w
  gone_at (suc g) (x ∷ w) h = gone_cons g x w (omega arith) ∙ ap (λ (r : List A). x ∷ r) (gone_at g w (omega arith))

  pub gone-end : (n : ℕ) (w : List A) → suc n ≡ length w → gone (suc n) w ≡ take n w
  gone-end n [] h = absurd (omega arith)
  gone-end zero (x ∷ []) h = refl
  gone-end zero (x ∷ y ∷ w) h = absurd (omega arith)
  gone-end (suc n) (x ∷ w) h = gone_cons (suc n) x w (omega arith) ∙ ap (λ (r : List A). x ∷ r) (gone-end n w (omega arith))

  -- ---- around an entry e with the run s before it and the run w after it: the gap is in s, at the end of s, or after e

  pub gone-before : (g : ℕ) (s : List A) (e : A) (w : List A) → g < length s → gone g (s ++ e ∷ w) ≡ gone g s ++ e ∷ w
  gone-before g [] e w h = absurd (omega arith)
  gone-before zero (x ∷ []) e w h = refl
  gone-before zero (x ∷ y ∷ s) e w h = refl
  gone-before (suc g) (x ∷ []) e w h = absurd (omega arith)
  gone-before (suc g) (x ∷ y ∷ s) e w h = ap (λ (r : List A). x ∷ r) (gone-before g (y ∷ s) e w (omega arith))

  -- e goes, and the last of s takes its place
  pub gone-last : (s : List A) (d e : A) (w : List A) → 1 ≤ length s → gone (length s) (s ++ e ∷ w) ≡ gone (length s) s ++ final d s ∷ w
  gone-last [] d e w h = absurd (omega arith)
  gone-last (x ∷ []) d e w h = ap (λ (r : List A). x ∷ r) (gone-zero e w)
  gone-last (x ∷ y ∷ s) d e w h = ap (λ (r : List A). x ∷ r) (gone-last (y ∷ s) x e w (omega arith))

  pub gone-after : (s : List A) (e : A) (w : List A) (g : ℕ) → length s < g → 1 ≤ length w
      → gone g (s ++ e ∷ w) ≡ s ++ e ∷ gone (g - suc (length s)) w
  gone-after s e w zero h k = absurd (omega arith)
  gone-after [] e w (suc g) h k =
      let q : suc g - 1 ≡ g = omega arith in
      rw q (gone_cons g e w k)
  gone-after (x ∷ s) e w (suc g) h k =
      let q : suc g - suc (suc (length s)) ≡ g - suc (length s) = omega arith in
      rw q (gone_cons g x (s ++ e ∷ w) (simp length-append (omega arith)) ∙ ap (λ (r : List A). x ∷ r) (gone-after s e w g (omega arith) k))

-- ---- at a page

-- the gap is in the run before the page's entry, or its end
gone-heir : (s : List Entry) (e : Entry) (w : List Entry) (g : ℕ) → 1 ≤ length s → g ≤ length s → gone g (s ++ e ∷ w) ≡ gone g s ++ heir s g e ∷ w
gone-heir s e w g k h =
    either-le (length s) g
    (λ end.
    let z : g ≡ length s = omega arith in
    rw (le-leb (length s) g end, z) (gone-last s no_entry e w k))
    (λ before. rw (lt-leb (length s) g before) (gone-before g s e w before))

module _ {S : Type 0} (f : S → List Entry) where
  abbrev long : S → ℕ
  long s = length (f s)

  -- a child holds an entry at least
  abbrev pub Some : S → Type 0
  Some s = 1 ≤ length (f s)

  weave-some : (ss : List S) (es : List Entry) → length ss ≡ suc (length es) → All Some ss → 1 ≤ length (weave f ss es)
  weave-some [] es k a = absurd (omega arith)
  weave-some (s ∷ ss) [] k a = a.0
  weave-some (s ∷ ss) (e ∷ es) k a = simp length-append (omega arith)

  -- THE law of removal at a page
  pub weave-gone : (ss : List S) (es : List Entry) (d c : S) (g : ℕ) → length ss ≡ suc (length es) → All Some ss → g ≤ length (weave f ss es)
      → f c ≡ gone (rest long ss g) (f (get_or ss (slot long ss g) d))
      → weave f (set ss (slot long ss g) c)
      (set es (slot long ss g) (heir (f (get_or ss (slot long ss g) d)) (rest long ss g) (get_or es (slot long ss g) no_entry)))
      ≡ gone g (weave f ss es)
  weave-gone [] es d c g k a h = absurd (omega arith)
  weave-gone (s ∷ []) [] d c g k a h = rw (le-leb g (long s) h) (λ q. q)
  weave-gone (s ∷ s' ∷ ss) [] d c g k a h = absurd (omega arith)
  weave-gone (s ∷ ss) (e ∷ es) d c g k a h =
      let ih = weave-gone ss es d c (g - suc (long s)) (omega arith) a.1 in
      either-le g (long s)
      (λ low. rw (le-leb g (long s) low) (λ q. rw q (sym (gone-heir (f s) e (weave f ss es) g a.0 low))))
      (λ high. rw (lt-leb g (long s) high)
      (λ q. ap (λ (r : List Entry). f s ++ e ∷ r) (ih (omega (arith, length-append (f s) (e ∷ weave f ss es))) q)
      ∙ sym (gone-after (f s) e (weave f ss es) g high (weave-some ss es (omega arith) a.1))))
