-- A page's entries in walking order, seen from one child and cut at one entry. Over a function `f` that says what a
-- child holds, so no levels occur here.
-- Assumes nothing.
use mathlib.Core.Path.{◌≡◌, refl, sym, ap, ap₂, ◌∙◌}
use mathlib.Core.List.{List, [], ◌∷◌, ◌++◌, append_assoc, append-nil}
use Prim.Native.Nat.{ℕ, suc, ◌+◌, ◌<◌}
use native.Mathlib.Omega.{arith}
use lib.ListN.{length, take, drop, get_or, length-append, length-take, take-append-drop}
use lib.Seq.{split_at}
use Rattle.model.specs.Basics.{sum, ins, splice}
use Rattle.model.specs.Tree.{weave}

module _ {S A : Type 0} (f : S → List A) where
  -- s₀ e₀ s₁ e₁ .. : what stands to the left of a child
  abbrev pub left : List S → List A → List A
  left [] es = []
  left (s ∷ ss) [] = f s
  left (s ∷ ss) (e ∷ es) = f s ++ e ∷ left ss es

  -- e₀ s₀ e₁ s₁ .. : what stands to the right of a child
  abbrev pub right : List A → List S → List A
  right [] ss = []
  right (e ∷ es) ss = e ∷ weave f ss es

  pub weave-cons : (c : S) (ss : List S) (es : List A) → weave f (c ∷ ss) es ≡ f c ++ right es ss
  weave-cons c ss [] = sym (append-nil (f c))
  weave-cons c ss (e ∷ es) = refl

  -- a page seen from one child
  pub weave-hole : (ls : List S) (xs : List A) (c : S) (rs : List S) (ys : List A) → length ls ≡ length xs
      → weave f (ls ++ c ∷ rs) (xs ++ ys) ≡ left ls xs ++ (f c ++ right ys rs)
  weave-hole [] [] c rs ys h = weave-cons c rs ys
  weave-hole [] (x ∷ xs) c rs ys h = absurd (omega arith)
  weave-hole (a ∷ ls) [] c rs ys h = absurd (omega arith)
  weave-hole (a ∷ ls) (x ∷ xs) c rs ys h = rw (weave-hole ls xs c rs ys (omega arith)) (simp append_assoc)

  -- a page cut at an entry
  pub weave-cut : (ss₁ : List S) (es₁ : List A) (e : A) (ss₂ : List S) (es₂ : List A) → length ss₁ ≡ suc (length es₁)
      → weave f (ss₁ ++ ss₂) (es₁ ++ e ∷ es₂) ≡ weave f ss₁ es₁ ++ e ∷ weave f ss₂ es₂
  weave-cut [] es₁ e ss₂ es₂ h = absurd (omega arith)
  weave-cut (s ∷ []) [] e ss₂ es₂ h = refl
  weave-cut (s ∷ s' ∷ ss) [] e ss₂ es₂ h = absurd (omega arith)
  weave-cut (s ∷ ss) (x ∷ es) e ss₂ es₂ h = rw (weave-cut ss es e ss₂ es₂ (omega arith)) (simp append_assoc)

  pub length-weave : (ss : List S) (es : List A) → length ss ≡ suc (length es) → length (weave f ss es) ≡ length es + sum (λ s. length (f s)) ss
  length-weave [] es h = absurd (omega arith)
  length-weave (s ∷ []) [] h = omega arith
  length-weave (s ∷ s' ∷ ss) [] h = absurd (omega arith)
  length-weave (s ∷ ss) (e ∷ es) h = simp length-append (omega (arith, length-weave ss es (omega arith)))

  -- ---- by place

  pub weave_at : (ss : List S) (es : List A) (i : ℕ) (d : S) → length ss ≡ suc (length es) → i < length ss
      → weave f ss es ≡ left (take i ss) (take i es) ++ (f (get_or ss i d) ++ right (drop i es) (drop (suc i) ss))
  weave_at ss es i d k h =
      ap₂ (weave f) (split_at ss i d h) (sym (take-append-drop i es))
      ∙ weave-hole (take i ss) (take i es) (get_or ss i d) (drop (suc i) ss) (drop i es) (simp length-take (omega arith))

  pub weave-cut-at : (ss : List S) (es : List A) (i : ℕ) (d : A) → length ss ≡ suc (length es) → i < length es
      → weave f ss es ≡ weave f (take (suc i) ss) (take i es) ++ get_or es i d ∷ weave f (drop (suc i) ss) (drop (suc i) es)
  weave-cut-at ss es i d k h =
      ap₂ (weave f) (sym (take-append-drop (suc i) ss)) (split_at es i d h)
      ∙ weave-cut (take (suc i) ss) (take i es) (get_or es i d) (drop (suc i) ss) (drop (suc i) es) (simp length-take (omega arith))

  -- child i replaced: by one, or by two with an entry between them
  pub weave-one : (ss : List S) (es : List A) (i : ℕ) (c : S) → length ss ≡ suc (length es) → i < length ss
      → weave f (splice i (c ∷ []) ss) es ≡ left (take i ss) (take i es) ++ (f c ++ right (drop i es) (drop (suc i) ss))
  weave-one ss es i c k h =
      ap (weave f (splice i (c ∷ []) ss)) (sym (take-append-drop i es))
      ∙ weave-hole (take i ss) (take i es) c (drop (suc i) ss) (drop i es) (simp length-take (omega arith))

  pub weave-two : (ss : List S) (es : List A) (i : ℕ) (l : S) (x : A) (r : S) → length ss ≡ suc (length es) → i < length ss
      → weave f (splice i (l ∷ r ∷ []) ss) (ins i x es) ≡ left (take i ss) (take i es) ++ (f l ++ x ∷ f r ++ right (drop i es) (drop (suc i) ss))
  weave-two ss es i l x r k h =
      weave-hole (take i ss) (take i es) l (r ∷ drop (suc i) ss) (x ∷ drop i es) (simp length-take (omega arith))
      ∙ rw (weave-cons r (drop (suc i) ss) (drop i es)) (simp append_assoc)

  -- ---- a change of what stands behind a run, and two neighbours as one

  pub weave-under : (ls : List S) (xs : List A) (ss : List S) (es : List A) (ss' : List S) (es' : List A)
      → length ls ≡ length xs → weave f ss es ≡ weave f ss' es' → weave f (ls ++ ss) (xs ++ es) ≡ weave f (ls ++ ss') (xs ++ es')
  weave-under [] [] ss es ss' es' h q = q
  weave-under [] (x ∷ xs) ss es ss' es' h q = absurd (omega arith)
  weave-under (l ∷ ls) [] ss es ss' es' h q = absurd (omega arith)
  weave-under (l ∷ ls) (x ∷ xs) ss es ss' es' h q =
      ap (λ (r : List A). f l ++ x ∷ r) (weave-under ls xs ss es ss' es' (omega arith) q)

  pub weave-join : (c l : S) (e : A) (r : S) (ss : List S) (es : List A)
      → f c ≡ f l ++ e ∷ f r → weave f (c ∷ ss) es ≡ weave f (l ∷ r ∷ ss) (e ∷ es)
  weave-join c l e r ss [] q = q
  weave-join c l e r ss (x ∷ es) q = rw (q, append_assoc)
