-- The source's clauses on a map, for every answer that a call's contract allows on a sound pool, with no premise on the
-- order of keys.
-- Where a call is refused the source is silent, and `Meets` says that no word has changed.
-- Assumes nothing.
use mathlib.Core.Path.{◌≡◌, refl, sym, ap, ◌∙◌}
use mathlib.Core.Bool.{Bool, true}
use mathlib.Core.Logic.{◌↔◌}
use mathlib.Core.Option.{Option, none, some}
use mathlib.Core.List.{List, [], ◌∷◌, ◌++◌, map}
use Prim.Native.Nat.{ℕ, zero, suc, ◌<◌, ◌≤◌, pred}
use native.Mathlib.Omega.{arith}
use lib.Dec.{eqb, ltb}
use lib.ListN.{length, get_or, set, take, drop, take-append-drop, length-map}
use lib.Seq.{split_at, set_split}
use borrow.Author.Tests.{eq-eqb, ne_eqb}
use Rattle.model.specs.Basics.{All, del}
use Rattle.model.specs.Head.{open_word}
use Rattle.model.specs.Tree.{Entry, entry, no_entry, Rising, held, entries}
use Rattle.model.specs.Entries.{has, lookup, gap_before}
use Rattle.model.specs.Search.{Found, Seen}
use Rattle.model.specs.Pool.{Pool, held_by, pool_of}
use Rattle.model.specs.Sound.{Sound}
use Rattle.model.specs.Refusal.{map_kind}
use Rattle.model.specs.Call.{Call, Outcome, answered, left, number, Meets}
use Rattle.model.specs.PoolCalls.{Makes, Clears, Copies, Counts, TellsEmpty}
use Rattle.model.specs.HeadCalls.{pool_count, pool_is_empty}
use Rattle.model.specs.MapCalls.{file, strike, pages_read, map_insert, map_get, map_contains, map_replace, map_remove}
use Rattle.model.specs.Source.{view, member, altered, Mutated, Increasing, Enumerates}
use Rattle.model.proofs.Cases.{either, either-eq, contrary, either_lt}
use Rattle.model.proofs.Basics.{get_or_map}
use Rattle.model.proofs.Entries.{filed, removed, key_at, rising-at, rising-lo, rising-right, lookup-none, lookup-past, there, has-lookup, has_key, has-entry, gap-le, absent-fits, rising-ins, lookup-at}
use Rattle.model.proofs.Right.{Right, sound-right}
use Rattle.model.proofs.Calls.{file-held, strike-held}
use Rattle.model.proofs.Making.{exact-answered, makes-new, clears-new}
use Rattle.model.proofs.HeadCalls.{counts-meets, empty-meets}
use Rattle.model.proofs.Cursorless.{cursorless-sound, cursorless-pool}
use Rattle.model.proofs.Meets.{given-answered, passes-reading}

-- ---- a call that answered

module _ {A : Type 0} (c : Call A) (w v : List ℕ) (a : A) (s : Sound w) (m : Meets c w v (answered a)) where
  pub answered-number : number c w ≡ 0
  answered-number = (given-answered (number c w) (c.answer (pool_of w)) a (m.exact s)).0

  pub answered-answer : a ≡ c.answer (pool_of w)
  answered-answer = (given-answered (number c w) (c.answer (pool_of w)) a (m.exact s)).1

  pub answered-after : pool_of v ≡ c.after (pool_of w)
  answered-after = m.holds s ∙ ap (λ (n : ℕ). left n (pool_of w) (c.after (pool_of w))) answered-number

-- a call that no test refuses must answer
pub must-answer : {A : Type 0} (c : Call A) {w v : List ℕ} {a : A} {r : Outcome A} → Sound w → number c w ≡ 0 → a ≡ c.answer (pool_of w) → Meets c w v r
    → (r ≡ answered a) × Meets c w v (answered a)
must-answer c {a = a} {r = r} s pass is m = let q : r ≡ answered a = m.exact s ∙ rw (pass, is) in (q, rw q at m)

-- ---- lists of entries

-- the entry of a key that none in front has
lookup-around : (xs : List Entry) (e : Entry) (ys : List Entry) → All (λ x. x.key < e.key) xs
    → (j : ℕ) → lookup j (xs ++ e ∷ ys) ≡ altered (λ i. lookup i (xs ++ ys)) e.key (some e.value) j
unfolding lookup
lookup-around [] e ys a j = refl
lookup-around (x ∷ xs) e ys a j =
    let l : x.key < e.key = a.0 in
    rw (lookup-around xs e ys a.1 j)
    (either-eq e.key j
    (λ q. rw (eq-eqb e.key j q, ne_eqb x.key j (λ p. omega arith)))
    (λ n. rw (ne_eqb e.key j n)))

-- the entry of a key that is there, and the list without it
module _ (k : ℕ) (es : List Entry) (r : Rising es) (h : has k es ≡ true) where
  abbrev g : ℕ
  g = gap_before k es

  abbrev own : Entry
  own = get_or es g no_entry

  here : (g < length es) × (own.key ≡ k)
  here = has_key k es r h

  rises : Rising (take g es ++ own ∷ drop (suc g) es)
  rises = rw (split_at es g no_entry here.0) at r

  low : All (λ y. y.key < k) (take g es)
  low = rw here.1 at (rising-lo (take g es) own (drop (suc g) es) rises)

  gone : lookup k (del g es) ≡ none
  gone =
      lookup-past k (take g es) (drop (suc g) es) low
      ∙ lookup-none k (drop (suc g) es) (rw here.1 at (rising-right (take g es) (own ∷ drop (suc g) es) rises).0)

  -- with another value, as it is, and without it
  lookup-set : (v j : ℕ) → lookup j (set es g (entry k v)) ≡ altered (λ i. lookup i (del g es)) k (some v) j
  lookup-set v j = rw (set_split es g (entry k v) here.0) (lookup-around (take g es) (entry k v) (drop (suc g) es) low j)

  lookup-is : (j : ℕ) → lookup j es ≡ altered (λ i. lookup i (del g es)) k (some own.value) j
  lookup-is j =
      ap (lookup j) (split_at es g no_entry here.0)
      ∙ rw here.1 at (lookup-around (take g es) own (drop (suc g) es) (rising-lo (take g es) own (drop (suc g) es) rises) j)

  lookup-del : (j : ℕ) → lookup j (del g es) ≡ altered (λ i. lookup i es) k none j
  lookup-del j =
      either-eq k j
      (λ q. rw (← q, eq-eqb k k refl) gone)
      (λ n. rw (lookup-is j, ne_eqb k j n))

-- what the list model's changes leave
pub lookup-filed : (k v : ℕ) (es : List Entry) → Rising es → (j : ℕ) → lookup j (filed (entry k v) es) ≡ altered (λ i. lookup i es) k (some v) j
unfolding filed
lookup-filed k v es r j =
    either (has k es)
    (λ y. rw (y, lookup-set k es r y v j, lookup-is k es r y j) (either (eqb k j) (λ q. rw q) (λ n. rw n)))
    (λ n.
    let g = gap_before k es in
    let front = rising-lo (take g es) (entry k v) (drop g es) (rising-ins k v g es r (gap-le (λ y. ltb y k) es) (absent-fits k es r n)) in
    rw (n, lookup-around (take g es) (entry k v) (drop g es) front j, take-append-drop g es))

pub lookup-removed : (k : ℕ) (es : List Entry) → Rising es → (j : ℕ) → lookup j (removed k es) ≡ altered (λ i. lookup i es) k none j
unfolding removed
lookup-removed k es r j =
    either (has k es)
    (λ y. rw y (lookup-del k es r y j))
    (λ n. rw n (either-eq k j (λ q. rw (← q, eq-eqb k k refl) (lookup-at k es r ∙ rw n)) (λ o. rw (ne_eqb k j o))))

abbrev pub keys : List Entry → List ℕ
keys es = map (λ e. e.key) es

pub key-there : (es : List Entry) (i : ℕ) → i < length es → get_or (keys es) i 0 ≡ key_at es i
key-there es i b = get_or_map (λ e. e.key) es i no_entry 0 b

-- the keys in key order
module _ (es : List Entry) (r : Rising es) where
  as_many : (i : ℕ) → i < length (keys es) → i < length es
  as_many i l = simp length-map at l

  key-at : (i : ℕ) → i < length (keys es) → get_or (keys es) i 0 ≡ key_at es i
  key-at i l = key-there es i (as_many i l)

  keys-increase : Increasing (keys es)
  keys-increase i j l b = rw (key-at i (omega arith), key-at j b) (rising-at es r i j l (as_many j b))

  pub keys-enumerate : Enumerates (λ k. has k es) (keys es)
  keys-enumerate = record {
    increasing = keys-increase;
    each = λ i l. rw (key-at i l) (has-entry i es r (as_many i l));
    all = λ k h.
        let at_gap = has_key k es r h in
        let l : gap_before k es < length (keys es) = simp length-map at_gap.0 in
        (gap_before k es, l, key-at (gap_before k es) l ∙ at_gap.1);
    once = λ i j l b q. omega (arith, keys-increase i j l b);
  }

-- two enumerations of the same keys are as long as each other, so the number of keys is that length
module _ (m : ℕ → Bool) (ks ls : List ℕ) (a : Enumerates m ks) (b : Enumerates m ls) where
  place : (i : ℕ) → i < length ks → (j : ℕ) × (j < length ls) × (get_or ls j 0 ≡ get_or ks i 0)
  place i l = b.all (get_or ks i 0) (a.each i l)

  place-far : (i : ℕ) (l : i < length ks) → i ≤ (place i l).0
  place-far zero l = omega arith
  place-far (suc i) l =
      let x = place i (omega arith) in
      let y = place (suc i) l in
      let far = place-far i (omega arith) in
      let up = a.increasing i (suc i) (omega arith) l in
      either_lt x.0 y.0
      (λ h. omega arith)
      (λ h. either-eq y.0 x.0
      (λ q. let same : get_or ls y.0 0 ≡ get_or ls x.0 0 = ap (λ (j : ℕ). get_or ls j 0) q in absurd (omega (arith, x.2, y.2)))
      (λ n. absurd (omega (arith, b.increasing y.0 x.0 (omega arith) x.1, x.2, y.2))))

  enumerates-fits : length ks ≤ length ls
  enumerates-fits =
      either-eq (length ks) 0 (λ z. omega arith)
      (λ n. let l : pred (length ks) < length ks = omega arith in omega (arith, place-far (pred (length ks)) l, (place (pred (length ks)) l).1))

pub enumerates-length : (m : ℕ → Bool) (ks ls : List ℕ) → Enumerates m ks → Enumerates m ls → length ks ≡ length ls
enumerates-length m ks ls a b = omega (arith, enumerates-fits m ks ls a b, enumerates-fits m ls ks b a)

-- no entry, no key
none-empty : (es : List Entry) → eqb (length es) 0 ≡ true ↔ ((k : ℕ) → lookup k es ≡ none)
unfolding lookup
none-empty [] = (λ y k. refl, λ f. refl)
none-empty (e ∷ es) = (
  λ y. contrary y (ne_eqb (suc (length es)) 0 (λ q. omega arith)),
  λ f. let z = rw (eq-eqb e.key e.key refl) at (f e.key) in cc,
)

-- ---- what a pool holds

module _ (p : Pool) (r : Right p) (k : ℕ) where
  pub file-lookup : (v j : ℕ) → lookup j (held_by (file (entry k v) p)) ≡ altered (λ i. lookup i (held_by p)) k (some v) j
  file-lookup v j = rw (file-held p r (entry k v)) (lookup-filed k v (held_by p) r.rising j)

  pub strike-lookup : (j : ℕ) → lookup j (held_by (strike k p)) ≡ altered (λ i. lookup i (held_by p)) k none j
  strike-lookup j = rw (strike-held p r k) (lookup-removed k (held_by p) r.rising j)

pub member-view : (w : List ℕ) (k : ℕ) → member w k ≡ there (view w k)
member-view w k = has-lookup k (held_by (pool_of w))

-- ---- the clauses

module _ (k x : ℕ) (w v : List ℕ) (o : Option ℕ) (s : Sound w) (m : Meets (map_insert k x) w v (answered o)) where
  pub insert-view : (j : ℕ) → view v j ≡ altered (view w) k (some x) j
  insert-view j = rw (answered-after (map_insert k x) w v o s m) (file-lookup (pool_of w) (sound-right w s) k x j)

  -- the value that the map before had at the key, or none
  pub insert-answer : o ≡ view w k
  insert-answer = answered-answer (map_insert k x) w v o s m

module _ (k : ℕ) (w v : List ℕ) (a : Seen) (s : Sound w) (m : Meets (map_contains k) w v (answered a)) where
  pub contains-answer : a.present ≡ member w k
  contains-answer = ap (λ (b : Seen). b.present) (answered-answer (map_contains k) w v a s m)

  pub contains-read : a.read ≡ pages_read k (pool_of w)
  contains-read = ap (λ (b : Seen). b.read) (answered-answer (map_contains k) w v a s m)

module _ (k : ℕ) (w v : List ℕ) (a : Found) (s : Sound w) (m : Meets (map_get k) w v (answered a)) where
  -- the value that the map has at the key, or none
  pub get-answer : a.value ≡ view w k
  get-answer = ap (λ (b : Found). b.value) (answered-answer (map_get k) w v a s m)

  pub get-read : a.read ≡ pages_read k (pool_of w)
  get-read = ap (λ (b : Found). b.read) (answered-answer (map_get k) w v a s m)

module _ (k : ℕ) (w v : List ℕ) (o : Option ℕ) (s : Sound w) (m : Meets (map_remove k) w v (answered o)) where
  pub remove-view : (j : ℕ) → view v j ≡ altered (view w) k none j
  remove-view j = rw (answered-after (map_remove k) w v o s m) (strike-lookup (pool_of w) (sound-right w s) k j)

  pub remove-answer : o ≡ view w k
  remove-answer = answered-answer (map_remove k) w v o s m

-- ---- replace, for the source's `get_mut`

-- `borrowed_key_mutated` holds exactly when the first map has the old value at the key, and the second is the first
-- with the new one
pub mutated-altered : (before after : ℕ → Option ℕ) (k old new : ℕ) → Mutated before after k old new ↔ (before k ≡ some old) × ((j : ℕ) → after j ≡ altered before k (some new) j)
mutated-altered before after k old new = (
  λ m. (m.first, λ j. either-eq k j (λ q. rw (← q, eq-eqb k k refl) m.second) (λ n. rw (ne_eqb k j n) (let e = rw (ne_eqb k j n) at (m.rest j) in sym e))),
  λ m. record {
    first = m.0;
    second = m.1 k ∙ rw (eq-eqb k k refl);
    rest = λ j. either (eqb k j) (λ y. rw y) (λ n. rw n (sym (m.1 j ∙ rw n)));
  },
)

module _ (k x : ℕ) (w v : List ℕ) (o : Option ℕ) (s : Sound w) (m : Meets (map_replace k x) w v (answered o)) where
  pub replace-answer : o ≡ view w k
  replace-answer = answered-answer (map_replace k x) w v o s m

  pub replace-mutated : (old : ℕ) → o ≡ some old → Mutated (view w) (view v) k old x
  replace-mutated old e =
      let was : view w k ≡ some old = sym replace-answer ∙ e in
      let there-is : member w k ≡ true = member-view w k ∙ rw was in
      (mutated-altered (view w) (view v) k old x).1 (was, λ j. rw (answered-after (map_replace k x) w v o s m, there-is) (file-lookup (pool_of w) (sound-right w s) k x j))

  -- no word changes
  pub replace_absent : o ≡ none → (view w k ≡ none) × (v ≡ w)
  replace_absent e =
      let was : view w k ≡ none = sym replace-answer ∙ e in
      (was, m.still s (rw (member-view w k, was)))

module _ (k : ℕ) (w : List ℕ) (a : Found) (s : Sound w) (seen : Meets (map_get k) w w (answered a)) where
  -- get, then replace: with the cursor closed it must answer, for get's answer says that the head fits and the pool is
  -- a map
  pub get-replaced : (x old : ℕ) {v : List ℕ} {r : Outcome (Option ℕ)} → a.value ≡ some old → open_word w ≡ 0 → Meets (map_replace k x) w v r
      → (r ≡ answered (some old)) × Mutated (view w) (view v) k old x
  get-replaced x old {v} e shut stored =
      let fits = passes-reading map_kind w (answered-number (map_get k) w w a s seen) in
      let pass : number (map_replace k x) w ≡ 0 = rw (fits.0, fits.1, shut) in
      let told = must-answer (map_replace k x) s pass (sym e ∙ get-answer k w w a s seen) stored in
      (told.0, replace-mutated k x w v (some old) s told.1 old refl)

  -- get alone: nothing stored
  pub get-kept : (old : ℕ) → a.value ≡ some old → Mutated (view w) (view w) k old old
  get-kept old e = let is = sym (get-answer k w w a s seen) ∙ e in record { first = is; second = is; rest = λ j. refl }

-- ---- make (the source's `new` and `default`) and clear, copy, count, is-empty: of a map or a set

pub make-view : (kind : ℕ) (w v : List ℕ) → Makes kind w v (answered tt) → (k : ℕ) → view v k ≡ none
unfolding held entries lookup
make-view kind w v m k = rw (makes-new kind m).1

pub clear-view : (w v : List ℕ) → Clears w v (answered tt) → (k : ℕ) → view v k ≡ none
unfolding held entries lookup
clear-view w v m k = rw (clears-new m).1

module _ (w old v : List ℕ) (s : Sound w) (m : Copies w old v (answered tt)) where
  pub copy-view : Sound v × ((k : ℕ) → view v k ≡ view w k)
  copy-view = let e = (exact-answered m).2 in (rw e (cursorless-sound w s), λ k. rw (e, cursorless-pool w s))

module _ (w v : List ℕ) (n : ℕ) (s : Sound w) (m : Counts w v (answered n)) where
  pub count-answer : n ≡ length (held_by (pool_of w))
  count-answer = answered-answer pool_count w v n s (counts-meets m)

  -- the number of keys
  pub count-keys : (ks : List ℕ) × Enumerates (member w) ks × (length ks ≡ n)
  count-keys = let es = held_by (pool_of w) in (keys es, keys-enumerate es (sound-right w s).rising, length-map es (λ e. e.key) ∙ sym count-answer)

module _ (w v : List ℕ) (b : Bool) (s : Sound w) (m : TellsEmpty w v (answered b)) where
  pub is-empty-view : b ≡ true ↔ ((k : ℕ) → view w k ≡ none)
  is-empty-view = rw (answered-answer pool_is_empty w v b s (empty-meets m)) (none-empty (held_by (pool_of w)))
