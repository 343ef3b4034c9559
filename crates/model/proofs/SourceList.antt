-- The source's clauses on `keys`, `values` and `iter`, which here are lists with both bounds unbounded into slices that
-- are long enough: the words written, in key order. Of a map or a set, for every answer that the contract allows on a
-- sound pool, with no premise on the order of keys.
-- Assumes nothing.
use mathlib.Core.Path.{◌≡◌, refl, sym, ap, ◌∙◌}
use mathlib.Core.Bool.{true}
use mathlib.Core.Option.{Option, some}
use mathlib.Core.List.{List, [], ◌∷◌, map}
use Prim.Native.Nat.{ℕ, zero, suc, min, ◌≤◌, ◌<◌}
use native.Mathlib.Omega.{arith}
use lib.ListN.{length, get_or, take, drop, length-map}
use lib.Seq.{take_all, take_at, get_or-take}
use Rattle.model.specs.Basics.{All, those}
use Rattle.model.specs.Tree.{Entry, no_entry, Rising}
use Rattle.model.specs.Bound.{Bound, unbounded}
use Rattle.model.specs.Entries.{has, lookup, gap_before}
use Rattle.model.specs.Pool.{held_by, pool_of}
use Rattle.model.specs.Sound.{Sound}
use Rattle.model.specs.Refusal.{Test, refusal}
use Rattle.model.specs.Call.{Outcome, refused, answered}
use Rattle.model.specs.ListCalls.{Column, key_column, value_column, shortest, listed, fronted, Lists}
use Rattle.model.specs.Source.{view, member, Enumerates, Pairing}
use Rattle.model.proofs.Basics.{get_or_map, all_map}
use Rattle.model.proofs.Entries.{key_at, has-lookup, has_key, has-entry, lookup-at, gap-of-entry}
use Rattle.model.proofs.Right.{sound-right}
use Rattle.model.proofs.SourceMap.{keys, key-there, keys-enumerate}

-- ---- lists of entries

pub those-all : (es : List Entry) → those (λ e. true) es ≡ es
those-all [] = refl
those-all (e ∷ es) = ap (λ (l : List Entry). e ∷ l) (those-all es)

-- the keys and the values of rising entries
pub entries-pairing : (es : List Entry) → Rising es → Pairing (λ k. lookup k es) (keys es) (map (λ e. e.value) es)
entries-pairing es r = record {
  long = length-map es (λ e. e.value) ∙ sym (length-map es (λ e. e.key));
  each = λ i l.
      let b : i < length es = simp length-map at l in
      rw (key-there es i b, get_or_map (λ e. e.value) es i no_entry 0 b, lookup-at (key_at es i) es r, has-entry i es r b, gap-of-entry i es r b);
  all = λ k x e.
      let h : has k es ≡ true = has-lookup k es ∙ rw e in
      let g = gap_before k es in
      let here = has_key k es r h in
      let found = rw h at (lookup-at k es r) in
      (g, simp length-map here.0, key-there es g here.0 ∙ here.1, get_or_map (λ e. e.value) es g no_entry 0 here.0 ∙ (cc));
}

-- ---- a list that answered

not-refused : (t n : ℕ) → ((k : ℕ) → t ≡ suc k → ◌≡◌ {A = Outcome ℕ} (answered n) (refused (suc k))) → t ≡ 0
not-refused zero n f = refl
not-refused (suc k) n f = let e = f k refl in cc

-- it has passed its tests
pub list-passed : {tests : List Test} {low high : Bound} {w : List ℕ} {cs : List Column} {n : ℕ} → Lists tests low high w cs (answered n) → refusal tests ≡ 0
list-passed {tests} {n = n} m = not-refused (refusal tests) n m.early

module _ (tests : List Test) (w : List ℕ) (cs : List Column) (n : ℕ) (s : Sound w) (m : Lists tests unbounded unbounded w cs (answered n))
    (long : length (held_by (pool_of w)) ≤ shortest cs) where
  passed : refusal tests ≡ 0
  passed = list-passed m

  all_listed : listed unbounded unbounded cs (pool_of w) ≡ held_by (pool_of w)
  all_listed = rw (those-all (held_by (pool_of w))) (take_all (shortest cs) (held_by (pool_of w)) long)

  pub list_count : n ≡ length (held_by (pool_of w))
  list_count =
      let e = m.exact s passed in
      let told : n ≡ length (listed unbounded unbounded cs (pool_of w)) = cc in
      told ∙ ap length all_listed

  -- what stands at the front of each slice
  pub list-front : All (λ c. take n c.after ≡ map c.part (held_by (pool_of w))) cs
  list-front =
      all_map (λ c. c.after ≡ fronted (map c.part (listed unbounded unbounded cs (pool_of w))) c.before) (λ c. take n c.after ≡ map c.part (held_by (pool_of w))) cs
      (λ c e.
      let es = held_by (pool_of w) in
      let whole : c.after ≡ fronted (map c.part es) c.before = rw all_listed at e in
      rw whole (take_at (map c.part es) (drop (length (map c.part es)) c.before) n (length-map es c.part ∙ sym list_count)))
      (m.writes s passed)

  -- the keys are as many
  number-of-keys : length (keys (held_by (pool_of w))) ≡ n
  number-of-keys = length-map (held_by (pool_of w)) (λ e. e.key) ∙ sym list_count

-- ---- keys, of a map or a set

pub list-keys : (tests : List Test) (w before after : List ℕ) (n : ℕ) → Sound w
    → Lists tests unbounded unbounded w (key_column before after ∷ []) (answered n)
    → length (held_by (pool_of w)) ≤ length before
    → Enumerates (member w) (take n after) × (length (take n after) ≡ n)
list-keys tests w before after n s m long =
    rw (list-front tests w _ n s m long).0 (keys-enumerate (held_by (pool_of w)) (sound-right w s).rising, number-of-keys tests w _ n s m long)

-- ---- values

module _ (tests : List Test) (w before after : List ℕ) (n : ℕ) (s : Sound w)
    (m : Lists tests unbounded unbounded w (value_column before after ∷ []) (answered n))
    (long : length (held_by (pool_of w)) ≤ length before) where
  -- at the keys in key order
  pub list-values : (ks : List ℕ) × Enumerates (member w) ks × Pairing (view w) ks (take n after) × (length ks ≡ n)
  list-values =
      let es = held_by (pool_of w) in
      let r = (sound-right w s).rising in
      (keys es, keys-enumerate es r, rw (list-front tests w _ n s m long).0 (entries-pairing es r), number-of-keys tests w _ n s m long)

  -- taken as a set: each is the value of a key, and the value of each key is among them
  pub list-values-each : (i : ℕ) → i < n → (k : ℕ) × (view w k ≡ some (get_or after i 0))
  list-values-each i l =
      let a = list-values in
      (get_or a.0 i 0, a.2.each i (omega (arith, a.3)) ∙ ap {B = Option ℕ} some (get_or-take n after i 0 l))

  pub list-values-all : (k x : ℕ) → view w k ≡ some x → (i : ℕ) × (i < n) × (get_or after i 0 ≡ x)
  list-values-all k x e =
      let a = list-values in
      let p = a.2.all k x e in
      let l : p.0 < n = omega (arith, p.1, a.3) in
      (p.0, l, sym (get_or-take n after p.0 0 l) ∙ p.3)

-- ---- entries

pub list-entries : (tests : List Test) (w ks vs ks' vs' : List ℕ) (n : ℕ) → Sound w
    → Lists tests unbounded unbounded w (key_column ks ks' ∷ value_column vs vs' ∷ []) (answered n)
    → length (held_by (pool_of w)) ≤ min (length ks) (length vs)
    → Enumerates (member w) (take n ks') × Pairing (view w) (take n ks') (take n vs') × (length (take n ks') ≡ n)
list-entries tests w ks vs ks' vs' n s m long =
    let es = held_by (pool_of w) in
    let r = (sound-right w s).rising in
    let f = list-front tests w _ n s m long in
    rw (f.0, f.1.0) (keys-enumerate es r, entries-pairing es r, number-of-keys tests w _ n s m long)
