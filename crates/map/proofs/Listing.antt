-- Laws of lists in code: what lent slices hold once one more entry is written, how many of the leading entries come
-- before the upper bound, and what a list has come to after i entries, which each turn of the loop takes on and each
-- way out turns into the promise.
-- Assumes nothing.
use mathlib.Core.Path.{◌≡◌, refl, sym, ap, subst, ◌∙◌}
use mathlib.Core.Bool.{Bool, true, false}
use mathlib.Core.Option.{Option, none, some}
use mathlib.Core.List.{List, [], ◌∷◌, ◌++◌, map, map-append}
use Prim.Native.Nat.{ℕ, suc, ◌+◌, min, ◌≤◌, ◌<◌}
use native.Mathlib.Nat.{add-zero}
use native.Mathlib.Numerals.{add-one}
use native.Mathlib.Omega.{arith}
use lib.ListN.{length, take, drop, get_or, set, length-drop, length-map, length-set}
use Rattle.std.specs.Prelude.{Result, Ok, None, Some, Err}
use lib.Seq.{take-nil, take-suc, length-take-le, get_or-drop}
use Rattle.model.specs.Tree.{Entry, entry, no_entry, entries, size}
use Rattle.model.specs.Entries.{gap_of, next, forth}
use Rattle.tree.specs.declared.search.Aim.{Aim}
use Rattle.tree.specs.Sits.{PathIn, PathOf, OnPath}
use Rattle.tree.specs.Search.{aimed}
use Rattle.tree.specs.Steps.{step_by, Forth, Step}
use Rattle.map.specs.declared.refusal.Refusal.{Refusal}
use Rattle.map.specs.List.{laid, front, Stops, ColumnsHold, Runs}
use Rattle.model.proofs.Cases.{never}
use Rattle.model.proofs.Basics.{next-some, found_some, found_none}
use Rattle.model.proofs.Entries.{key_at, gap-le, gap_more, gap_ends}

-- ---- slices

pub laid_none : (s : List ℕ) → laid [] s ≡ s
unfolding laid
laid_none s = rw (take-nil {A = ℕ} (length s))

-- one more, where there is room for it
pub laid_more : (xs s : List ℕ) (x : ℕ) → set (laid xs s) (length xs) x ≡ laid (xs ++ x ∷ []) s
unfolding laid
laid_more [] [] x = refl
laid_more [] (y ∷ s) x = rw (take-nil {A = ℕ} (length s))
laid_more (a ∷ xs) [] x = refl
laid_more (a ∷ xs) (y ∷ s) x = ap (λ (r : List ℕ). a ∷ r) (laid_more xs s x)

-- a part of each entry: one more entry
pub laid-entry : (part : Entry → ℕ) (es : List Entry) (i : ℕ) (s₀ s : List ℕ) → i < length es → s ≡ laid (map part (take i es)) s₀
    → set s i (part (get_or es i no_entry)) ≡ laid (map part (take (suc i) es)) s₀
laid-entry part es i s₀ s b e =
    let x = part (get_or es i no_entry) in
    let n : i ≡ length (map part (take i es)) = sym (length-map (take i es) part ∙ length-take-le i es (omega arith)) in
    ap (λ (r : List ℕ). set r i x) e
    ∙ ap (λ (j : ℕ). set (laid (map part (take i es)) s₀) j x) n
    ∙ laid_more (map part (take i es)) s₀ x
    ∙ ap (λ (l : List ℕ). laid l s₀) (sym (map-append part (take i es) (get_or es i no_entry ∷ [])) ∙ ap (map part) (sym (take-suc es i no_entry b)))

-- ---- the first i entries written, all of them before

pub record Filled (before : ℕ → Bool) (es : List Entry) (ks₀ vs₀ : List ℕ) (i : ℕ) (ks vs : List ℕ) : Type 0 where
  pub few : i ≤ gap_of before es
  pub keys : ks ≡ laid (map (λ e. e.key) (take i es)) ks₀
  pub values : vs ≡ laid (map (λ e. e.value) (take i es)) vs₀

-- entry i, by its key and its value
pub record Stood (es : List Entry) (i k v : ℕ) : Type 0 where
  pub there : i < length es
  pub key : key_at es i ≡ k
  pub value : (get_or es i no_entry).value ≡ v

module _ (es : List Entry) (ks₀ vs₀ : List ℕ) where
  filled_none : (before : ℕ → Bool) → Filled before es ks₀ vs₀ 0 ks₀ vs₀
  filled_none before = record { few = omega arith; keys = sym (laid_none ks₀); values = sym (laid_none vs₀) }

  filled_more : (before : ℕ → Bool) {i k v : ℕ} {ks vs : List ℕ} → Filled before es ks₀ vs₀ i ks vs → Stood es i k v → before k ≡ true
      → Filled before es ks₀ vs₀ (i + 1) (set ks i k) (set vs i v)
  filled_more before {i} {k} {v} {ks} {vs} f x y = rw (add-one, ← x.key, ← x.value) (record {
    few = gap_more before es i f.few x.there (ap before x.key ∙ y);
    keys = laid-entry (λ e. e.key) es i ks₀ ks x.there f.keys;
    values = laid-entry (λ e. e.value) es i vs₀ vs x.there f.values;
  })

  filled-holds : (upper : Aim) (n : ℕ) {i : ℕ} {ks vs : List ℕ} → Filled (aimed upper) es ks₀ vs₀ i ks vs → min n (gap_of (aimed upper) es) ≡ i
      → ColumnsHold (front upper n es) ks₀ vs₀ ks vs (Ok i)
  filled-holds upper n {i} f all = rw all (record {
    wrote = ap Ok (sym (length-take-le i es (omega (arith, f.few, gap-le (aimed upper) es))));
    keys = f.keys;
    values = f.values;
  })

-- ---- a step from gap g + i

-- what a step over an entry answers
abbrev pub went : ℕ → ℕ → Step
went k v = Ok (Some (record { key = k; value = v }))

-- the key and the value that are answered
abbrev key_told : Step → ℕ
key_told (Ok (Some e)) = e.key
key_told (Ok None) = 0
key_told (Err e) = 0

abbrev value_told : Step → ℕ
value_told (Ok (Some e)) = e.value
value_told (Ok None) = 0
value_told (Err e) = 0

step-some : (o : Option Entry) (k v : ℕ) → went k v ≡ step_by o → some (entry k v) ≡ o
step-some (some e) k v q = ap (λ (r : Step). some (entry (key_told r) (value_told r))) q
step-some none k v q = never (cc)

step_end : (o : Option Entry) (r : Step) → r ≡ step_by o → ((k v : ℕ) → r ≡ went k v → ⊥) → (r ≡ Ok None) × (none ≡ o)
step_end (some e) r q other = absurd (other e.key e.value q)
step_end none r q other = (q, refl)

module _ (es : List Entry) (g i : ℕ) where
  -- the entry after it is the one behind i of those after gap g
  pub behind-some : {e : Entry} → some e ≡ next (g + i) es → (i < length (drop g es)) × (get_or (drop g es) i no_entry ≡ e)
  behind-some q = let here = found_some es (g + i) no_entry q in (simp length-drop (omega (arith, here.0)), get_or-drop g es i no_entry ∙ sym here.1)

  pub behind-none : none ≡ next (g + i) es → length (drop g es) ≤ i
  behind-none q = simp length-drop (omega (arith, found_none es (g + i) q))

  step-entry : (k v : ℕ) → went k v ≡ step_by (next (g + i) es) → Stood (drop g es) i k v
  step-entry k v e = let here = behind-some (step-some (next (g + i) es) k v e) in record { there = here.0; key = ap (λ (x : Entry). x.key) here.1; value = ap (λ (x : Entry). x.value) here.1 }

  -- and it goes over that
  step-forth : i < length (drop g es) → forth (next (g + i) es) (g + i) ≡ g + (i + 1)
  step-forth l = let b = simp length-drop at l in rw (next-some es (g + i) no_entry (omega arith)) (omega arith)

  -- where it answers no entry there is none
  step-none : (r : Step) → r ≡ step_by (next (g + i) es) → ((k v : ℕ) → r ≡ went k v → ⊥) → (r ≡ Ok None) × (length (drop g es) ≤ i)
  step-none r e other = let end = step_end (next (g + i) es) r e other in (end.0, behind-none end.1)

-- ---- a list after i entries

pub record Ran (w : List ℕ) (upper : Aim) (ps₀ ss₀ : List ℕ) (n : ℕ) (ks₀ vs₀ ps ss ks vs : List ℕ) (i : ℕ) : Type 0 where
  pub few : i ≤ n
  pub inside : PathIn w ps ss
  pub pages : length ps ≡ length ps₀
  pub slots : length ss ≡ length ss₀
  pub keys : length ks ≡ length ks₀
  pub values : length vs ≡ length vs₀
  pub none : i ≡ 0 → (ks ≡ ks₀) × (vs ≡ vs₀)
  pub path : OnPath w ps₀ ss₀ (λ h t g. PathOf h t (g + i) ps ss)
  pub filled : OnPath w ps₀ ss₀ (λ h t g. Filled (aimed upper) (drop g (entries h t)) ks₀ vs₀ i ks vs)

pub ran-none : {w : List ℕ} {ps ss : List ℕ} (upper : Aim) (n : ℕ) (ks vs : List ℕ) → PathIn w ps ss → Ran w upper ps ss n ks vs ps ss ks vs 0
ran-none upper n ks vs inside = record {
  few = omega arith;
  inside = inside;
  pages = refl;
  slots = refl;
  keys = refl;
  values = refl;
  none = λ z. (refl, refl);
  path = λ low h t g s r b p. rw add-zero p;
  filled = λ low h t g s r b p. filled_none (drop g (entries h t)) ks vs (aimed upper);
}

module _ {w : List ℕ} {upper : Aim} {ps₀ ss₀ : List ℕ} {n : ℕ} {ks₀ vs₀ ps ss ks vs : List ℕ} {i : ℕ} (ran : Ran w upper ps₀ ss₀ n ks₀ vs₀ ps ss ks vs i) where
  -- the gap that it has come to
  gap-in : OnPath w ps₀ ss₀ (λ h t g. g + i ≤ size h t)
  gap-in low h t g s r b p =
      omega (arith, (ran.filled low h t g s r b p).few, gap-le (aimed upper) (drop g (entries h t)), length-drop g (entries h t))

  -- all that were asked for, or that there are
  ran-wrote : OnPath w ps₀ ss₀ (λ h t g. min n (gap_of (aimed upper) (drop g (entries h t))) ≡ i) → Runs w upper ps₀ ss₀ n ks₀ vs₀ ks vs (Ok i)
  ran-wrote all = record {
    tells = record { keys = ran.keys; values = ran.values; kept = λ e z. never (cc) };
    late = λ e z. never (cc);
    exact = λ low h t g s r b p. filled-holds (drop g (entries h t)) ks₀ vs₀ upper n (ran.filled low h t g s r b p) (all low h t g s r b p);
  }

  pub ran-full : n ≤ i → Runs w upper ps₀ ss₀ n ks₀ vs₀ ks vs (Ok n)
  ran-full l =
      let all : i ≡ n = omega (arith, ran.few) in
      subst (λ (m : ℕ). Runs w upper ps₀ ss₀ n ks₀ vs₀ ks vs (Ok m)) all
      (ran-wrote (λ low h t g s r b p. omega (arith, (ran.filled low h t g s r b p).few)))

  module _ {ps' ss' : List ℕ} {q : Step} (f : Forth w ps ss ps' ss' q) where
    answer-is : OnPath w ps₀ ss₀ (λ h t g. q ≡ step_by (next (g + i) (entries h t)))
    answer-is low h t g s r b p = f.exact low h t (g + i) s r (gap-in low h t g s r b p) (ran.path low h t g s r b p)

    entry_at : {k v : ℕ} → q ≡ went k v → OnPath w ps₀ ss₀ (λ h t g. Stood (drop g (entries h t)) i k v)
    entry_at {k} {v} e low h t g s r b p = step-entry (entries h t) g i k v (sym e ∙ answer-is low h t g s r b p)

    -- one more
    pub ran-more : {k v : ℕ} {ks' vs' : List ℕ} → q ≡ went k v → i < n → aimed upper k ≡ true → ks' ≡ set ks i k → vs' ≡ set vs i v
        → Ran w upper ps₀ ss₀ n ks₀ vs₀ ps' ss' ks' vs' (i + 1)
    ran-more {k} {v} e l y eₖ eᵥ = rw (eₖ, eᵥ) (record {
      few = omega arith;
      inside = f.inside _ e;
      pages = f.pages ∙ ran.pages;
      slots = f.slots ∙ ran.slots;
      keys = length-set ks i k ∙ ran.keys;
      values = length-set vs i v ∙ ran.values;
      none = λ z. absurd (omega arith);
      path = λ low h t g s r b p.
          subst (λ (j : ℕ). PathOf h t j ps' ss') (step-forth (entries h t) g i (entry_at e low h t g s r b p).there)
          (f.path low h t (g + i) s r (gap-in low h t g s r b p) (ran.path low h t g s r b p));
      filled = λ low h t g s r b p.
          filled_more (drop g (entries h t)) ks₀ vs₀ (aimed upper) (ran.filled low h t g s r b p) (entry_at e low h t g s r b p) y;
    })

    -- the next entry is not before the upper bound
    pub ran-behind : {k v : ℕ} → q ≡ went k v → aimed upper k ≡ false → Runs w upper ps₀ ss₀ n ks₀ vs₀ ks vs (Ok i)
    ran-behind e y =
        ran-wrote
        (λ low h t g s r b p.
        let es = drop g (entries h t) in
        let all : gap_of (aimed upper) es ≡ i =
        gap_ends (aimed upper) es i (ran.filled low h t g s r b p).few (λ l. ap (aimed upper) (entry_at e low h t g s r b p).key ∙ y) in
        omega (arith, ran.few))

    -- there is no next entry
    pub ran-end : {a : Result ℕ Refusal} → ((k v : ℕ) → q ≡ went k v → ⊥) → Stops q i a → Runs w upper ps₀ ss₀ n ks₀ vs₀ ks vs a
    ran-end other stop = record {
      tells = record { keys = ran.keys; values = ran.values; kept = λ e z. ran.none (stop.stops e z).1 };
      late = λ e z. (stop.stops e z).0;
      exact = λ low h t g s r b p.
          let es = drop g (entries h t) in
          let none = step-none (entries h t) g i q (answer-is low h t g s r b p) other in
          let filled = ran.filled low h t g s r b p in
          let all : gap_of (aimed upper) es ≡ i = gap_ends (aimed upper) es i filled.few (λ l. absurd (omega (arith, none.1))) in
          rw (stop.wrote none.0) (filled-holds es ks₀ vs₀ upper n filled (omega (arith, ran.few)));
    }
