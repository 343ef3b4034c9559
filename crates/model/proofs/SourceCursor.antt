-- The source's clauses about the cursor, of any call that meets its promise on a sound pool, with no premise on the
-- order of keys: open at a bound, next, prev, the peeks, the writes, insert after, remove next, close. The cursor after
-- is well formed, for the pool after is sound.
-- Assumes nothing.
use mathlib.Core.Path.{◌≡◌, refl, sym, ap, ◌∙◌}
use mathlib.Core.Bool.{Bool, true, false, not, cond}
use mathlib.Core.Logic.{◌⊎◌, inl, inr, ◌↔◌}
use mathlib.Core.Option.{Option, none, some}
use mathlib.Core.List.{List}
use Prim.Native.Nat.{ℕ, zero, suc, pred, ◌≤◌, ◌<◌}
use native.Mathlib.Omega.{arith}
use lib.Dec.{eqb}
use lib.ListN.{length, get_or, set, length-map}
use lib.Seq.{map-set_same}
use borrow.Author.Tests.{lt-ltb, eq-eqb, ne_eqb}
use Rattle.model.specs.Basics.{ins, del}
use Rattle.model.specs.Head.{headed, kind_word, open_word}
use Rattle.model.specs.Tree.{Entry, entry, no_entry, Rising}
use Rattle.model.specs.Bound.{bound_of, before_lower, before_upper}
use Rattle.model.specs.Entries.{has, lookup, gap_of, gap_before, gap, next, prev, above, under, key_fits, back, value_of}
use Rattle.model.specs.Pool.{Pool, held_by, fresh_of, pool_of, with_cursor, least_by}
use Rattle.model.specs.Sound.{Sound}
use Rattle.model.specs.Refusal.{refusal, map_kind}
use Rattle.model.specs.Call.{Call, Outcome, Meets, refused, answered, given, number}
use Rattle.model.specs.PoolCalls.{clear_tests, Clears}
use Rattle.model.specs.MapCalls.{crowded, change_tests}
use Rattle.model.specs.CursorCalls.{cursor_tests, cursor_open_lower, cursor_open_upper, cursor_next, cursor_prev, cursor_peek_next, cursor_peek_prev, cursor_write_next, cursor_write_prev, cursor_insert_after, cursor_remove_next, next_of, prev_of, rewrite, strike_next, Closes}
use Rattle.model.specs.Source.{view, altered, Mutated, keys_in, position, WellFormed, Positioned, FitsThere, Shown, Moved}
use Rattle.model.proofs.Cases.{either_lt, either-eq, never, contrary}
use Rattle.model.proofs.Basics.{map-ins, map-del, next-some, next-none, found_some, found_none}
use Rattle.model.proofs.Entries.{filed, removed, Falls, falls-lower, falls-upper, key_at, gap-le, gap-front, gap_back, gap-of-entry, has-entry, lookup-at, true-fits, fits-gap, fits-absent}
use Rattle.model.proofs.Insert.{insert-held}
use Rattle.model.proofs.Remove.{remove-held}
use Rattle.model.proofs.Write.{write-held}
use Rattle.model.proofs.Right.{Right, sound-right}
use Rattle.model.proofs.Meets.{gap-opened, gap-map, gap-passes}
use Rattle.model.proofs.HeadCalls.{closes-meets}
use Rattle.model.proofs.SourceMap.{answered-number, answered-answer, answered-after, must-answer, keys, key-there, keys-enumerate, lookup-filed, lookup-removed, mutated-altered}

-- ---- lists of entries: an entry at its place

abbrev At : List Entry → ℕ → Entry → Type 0
At es i e = (i < length es) × (e ≡ get_or es i no_entry)

module _ (es : List Entry) where
  prev-at : (g : ℕ) {e : Entry} → some e ≡ prev g es → (0 < g) × At es (pred g) e
  prev-at zero h = never (cc)
  prev-at (suc g) h = (omega arith, found_some es g no_entry h)

  prev-next : (g : ℕ) {e : Entry} → some e ≡ prev g es → some e ≡ next (pred g) es
  prev-next zero h = never (cc)
  prev-next (suc g) h = h

  prev-start : (g : ℕ) → g ≤ length es → none ≡ prev g es → g ≡ 0
  prev-start zero b h = refl
  prev-start (suc g) b h = never (cc (next-some es g no_entry b))

-- what a change at a place leaves: that of the same change at the entry's key
module _ (es : List Entry) (r : Rising es) (i : ℕ) {e : Entry} (a : At es i e) where
  has-it : (has e.key es ≡ true) × (gap_before e.key es ≡ i)
  has-it = rw a.1 (has-entry i es r a.0, gap-of-entry i es r a.0)

  lookup-it : lookup e.key es ≡ some e.value
  lookup-it = lookup-at e.key es r ∙ rw (has-it.0, has-it.1, a.1)

  lookup-write : (x j : ℕ) → lookup j (set es i (entry e.key x)) ≡ altered (λ k. lookup k es) e.key (some x) j
  unfolding filed
  lookup-write x j = rw (has-it.0, has-it.1) at (lookup-filed e.key x es r j)

  lookup-strike : (j : ℕ) → lookup j (del i es) ≡ altered (λ k. lookup k es) e.key none j
  unfolding removed
  lookup-strike j = rw (has-it.0, has-it.1) at (lookup-removed e.key es r j)

lookup-put : (k x g : ℕ) (es : List Entry) → Rising es → g ≤ length es → key_fits k g es ≡ true
    → (j : ℕ) → lookup j (ins g (entry k x) es) ≡ altered (λ i. lookup i es) k (some x) j
unfolding filed
lookup-put k x g es r b h j = rw (fits-absent k g es r b h, fits-gap k g es r b h) at (lookup-filed k x es r j)

-- the two halves of the test whether a key fits, by the keys on the two sides
above-side : (k g : ℕ) (es : List Entry) → g ≤ length es → (g ≡ 0) ⊎ (get_or (keys es) (pred g) 0 < k) → above (prev g es) k ≡ true
above-side k zero es b h = refl
above-side k (suc g) es b (inl z) = absurd (omega arith)
above-side k (suc g) es b (inr l) = rw (next-some es g no_entry b) (lt-ltb (key_at es g) k (rw (key-there es g b) at l))

under-side : (k g : ℕ) (es : List Entry) → (g ≡ length (keys es)) ⊎ (k < get_or (keys es) g 0) → under (next g es) k ≡ true
under-side k g es (inl z) = rw (next-none es g (omega (arith, length-map es (λ e. e.key))))
under-side k g es (inr l) =
    either_lt g (length es)
    (λ i. rw (next-some es g no_entry i) (lt-ltb k (key_at es g) (rw (key-there es g i) at l)))
    (λ i. rw (next-none es g i))

back_one : (e : Entry) (g : ℕ) → back (some e) g ≡ pred g
back_one e zero = refl
back_one e (suc g) = refl

-- an entry by its value
value-some : (o : Option Entry) {x : ℕ} → some x ≡ value_of o → (e : Entry) × (some e ≡ o) × (x ≡ e.value)
value-some none h = never (cc)
value-some (some e) h = (e, refl, cc)

value_none : (o : Option Entry) → none ≡ value_of o → none ≡ o
value_none none h = refl
value_none (some e) h = never (cc)

-- an insert after that answers has a key that fits, and one refused with 6 has not: no other test of its call has that
-- number
fits-given : (unheaded other shut fits full : Bool) →
    let r : Outcome (Unit {0}) = given (cond unheaded 1 (cond other 2 (cond shut 5 (cond (not fits) 6 (cond full 7 0))))) tt in
    (answered tt ≡ r → fits ≡ true) × (refused 6 ≡ r → fits ≡ false)
fits-given true b c f d = (λ e. never (cc), λ e. never (cc))
fits-given false true c f d = (λ e. never (cc), λ e. never (cc))
fits-given false false true f d = (λ e. never (cc), λ e. never (cc))
fits-given false false false false d = (λ e. never (cc), λ e. refl)
fits-given false false false true true = (λ e. refl, λ e. never (cc))
fits-given false false false true false = (λ e. refl, λ e. never (cc))

-- ---- a sound pool

module _ {w : List ℕ} (s : Sound w) where
  abbrev es : List Entry
  es = held_by (pool_of w)

  right : Right (pool_of w)
  right = sound-right w s

  many-keys : length (keys_in w) ≡ length es
  many-keys = length-map es (λ e. e.key)

  shown : (i : ℕ) {e : Entry} → At es i e → Shown w i e
  shown i a = record { there = omega (arith, many-keys, a.0); key = rw a.1 (sym (key-there es i a.0)); value = lookup-it es right.rising i a }

  next-shown : {e : Entry} → some e ≡ next_of (pool_of w) → Shown w (position w) e
  next-shown h = shown (position w) (found_some es (position w) no_entry h)

  prev-shown : {e : Entry} → some e ≡ prev_of (pool_of w) → (0 < position w) × Shown w (pred (position w)) e
  prev-shown h = let a = prev-at es (position w) h in (a.0, shown (pred (position w)) a.1)

  next-over : none ≡ next_of (pool_of w) → position w ≡ length (keys_in w)
  next-over h = omega (arith, found_none es (position w) h, many-keys, right.within)

  prev-over : none ≡ prev_of (pool_of w) → position w ≡ 0
  prev-over h = prev-start es (position w) right.within h

  true-there : (k : ℕ) → key_fits k (position w) es ≡ true → FitsThere w k
  true-there k h =
      let f = true-fits k (position w) es right.rising right.within h in
      let b = right.within in
      record {
        front = either-eq (position w) 0 (λ z. inl z)
            (λ n. inr (rw (key-there es (pred (position w)) (omega arith)) (f.front (pred (position w)) (omega arith))));
        back = either_lt (position w) (length es)
            (λ l. inr (rw (key-there es (position w) l) (f.back (position w) (omega arith) l)))
            (λ l. inl (omega (arith, many-keys)));
      }

  there-true : (k : ℕ) → FitsThere w k → key_fits k (position w) es ≡ true
  unfolding key_fits
  there-true k f = rw (above-side k (position w) es right.within f.front, under-side k (position w) es f.back)

  pub fits-there : (k : ℕ) → key_fits k (position w) es ≡ true ↔ FitsThere w k
  fits-there k = (true-there k, there-true k)

  after-fits : (k x : ℕ) → let r : Outcome (Unit {0}) = given (number (cursor_insert_after k x) w) tt in
      (answered tt ≡ r → key_fits k (position w) es ≡ true) × (refused 6 ≡ r → key_fits k (position w) es ≡ false)
  after-fits k x = fits-given (not (headed w)) (not (eqb (kind_word w) 0)) (eqb (open_word w) 0) (key_fits k (position w) es) (crowded (position w) (pool_of w))

-- and what a call leaves of it
moved : {w v : List ℕ} (g : ℕ) → pool_of v ≡ with_cursor (pool_of w) (gap g) → Moved w v g
moved g h = record { keys = rw h; values = λ k. rw h; position = rw h }

module _ {w v : List ℕ} (s : Sound w) where
  told : {A : Type 0} {c : Call A} {a : A} → Meets c w v (answered a) → a ≡ c.answer (pool_of w)
  told {c = c} {a = a} meets = answered-answer c w v a s meets

  after : {A : Type 0} {c : Call A} {a : A} → Meets c w v (answered a) → pool_of v ≡ c.after (pool_of w)
  after {c = c} {a = a} meets = answered-after c w v a s meets

  placed : (before : ℕ → Bool) → Falls before → pool_of v ≡ with_cursor (pool_of w) (gap (gap_of before (es s))) → Positioned before v × Moved w v (position v)
  placed before falls h =
      let at_gap : position v ≡ gap_of before (es s) = rw h in
      let many : length (keys_in v) ≡ length (es s) = rw h (many-keys s) in
      let b = gap-le before (es s) in (
        record {
          front = λ i l. rw (h, key-there (es s) i (omega arith)) (gap-front before (es s) i (omega arith));
          back = λ i l m. rw (h, key-there (es s) i (omega arith)) (gap_back before (es s) falls (right s).rising i (omega arith) (omega arith));
        },
        rw at_gap (moved (gap_of before (es s)) h),
      )

rewritten : (w v : List ℕ) (s : Sound w) (x i : ℕ) (o : Option Entry) {e : Entry} → some e ≡ o → At (es s) i e → pool_of v ≡ rewrite o i x (pool_of w)
    → Mutated (view w) (view v) (get_or (keys_in w) i 0) e.value x × (keys_in v ≡ keys_in w) × (position v ≡ position w)
rewritten w v s x i o {e} there-is a h =
    let r = right s in
    let there = shown s i a in
    let left : pool_of v ≡ rewrite (some e) i x (pool_of w) = h ∙ rw (← there-is) in
    let written : held_by (pool_of v) ≡ set (es s) i (entry e.key x) = rw left (write-held (least_by (pool_of w)) (pool_of w).whole i (entry e.key x) r.formed a.0) in (
      rw (← there.key) ((mutated-altered (view w) (view v) e.key e.value x).1 (there.value, λ j. rw written (lookup-write (es s) r.rising i a x j))),
      rw written (map-set_same (λ e. e.key) (es s) i (entry e.key x) no_entry (rw a.1)),
      rw left,
    )

-- ---- the clauses

pub sound-well-formed : (w : List ℕ) → Sound w → WellFormed w
sound-well-formed w s = record { within = omega (arith, many-keys s, (right s).within); keys = keys-enumerate (es s) (right s).rising }

module _ {w v : List ℕ} (s : Sound w) where
  -- ---- opening

  pub open-lower-gap : (kind k : ℕ) {n : ℕ} → Meets (cursor_open_lower kind k) w v (answered n) → Positioned (before_lower (bound_of kind k)) v × Moved w v (position v)
  open-lower-gap kind k meets = placed s (before_lower (bound_of kind k)) (falls-lower (bound_of kind k)) (after s meets)

  pub open-upper-gap : (kind k : ℕ) {n : ℕ} → Meets (cursor_open_upper kind k) w v (answered n) → Positioned (before_upper (bound_of kind k)) v × Moved w v (position v)
  open-upper-gap kind k meets = placed s (before_upper (bound_of kind k)) (falls-upper (bound_of kind k)) (after s meets)

  -- ---- over an entry

  pub next-entry : {e : Entry} → Meets cursor_next w v (answered (some e)) → Shown w (position w) e × Moved w v (suc (position w))
  next-entry meets = let h = told s meets in (next-shown s h, moved (suc (position w)) (after s meets ∙ rw (← h)))

  pub next-end : Meets cursor_next w v (answered none) → (position w ≡ length (keys_in w)) × (v ≡ w)
  next-end meets = let h = told s meets in (next-over s h, meets.still s (rw (← h)))

  pub prev-entry : {e : Entry} → Meets cursor_prev w v (answered (some e)) → (0 < position w) × Shown w (pred (position w)) e × Moved w v (pred (position w))
  prev-entry meets = let h = told s meets in let a = prev-shown s h in (a.0, a.1, moved (pred (position w)) (after s meets ∙ rw (← h, back_one)))

  pub prev-end : Meets cursor_prev w v (answered none) → (position w ≡ 0) × (v ≡ w)
  prev-end meets = let h = told s meets in (prev-over s h, meets.still s (rw (← h)))

  -- ---- the gap stays

  pub peek-next-entry : {e : Entry} → Meets cursor_peek_next w v (answered (some e)) → Shown w (position w) e × (v ≡ w)
  peek-next-entry meets = (next-shown s (told s meets), meets.still s refl)

  pub peek-next-end : Meets cursor_peek_next w v (answered none) → (position w ≡ length (keys_in w)) × (v ≡ w)
  peek-next-end meets = (next-over s (told s meets), meets.still s refl)

  pub peek-prev-entry : {e : Entry} → Meets cursor_peek_prev w v (answered (some e)) → (0 < position w) × Shown w (pred (position w)) e × (v ≡ w)
  peek-prev-entry meets = let a = prev-shown s (told s meets) in (a.0, a.1, meets.still s refl)

  pub peek-prev-end : Meets cursor_peek_prev w v (answered none) → (position w ≡ 0) × (v ≡ w)
  peek-prev-end meets = (prev-over s (told s meets), meets.still s refl)

  -- the source's change through the reference that a step or a peek answers: a write at that side of the gap
  pub write-next-entry : (x : ℕ) {old : ℕ} → Meets (cursor_write_next x) w v (answered (some old))
      → (position w < length (keys_in w)) × Mutated (view w) (view v) (get_or (keys_in w) (position w) 0) old x × (keys_in v ≡ keys_in w) × (position v ≡ position w)
  write-next-entry x meets =
      let o = value-some (next_of (pool_of w)) (told s meets) in
      let a = found_some (es s) (position w) no_entry o.1 in
      let m = rewritten w v s x (position w) (next_of (pool_of w)) o.1 a (after s meets) in
      ((next-shown s o.1).there, rw o.2 m.0, m.1, m.2)

  pub write-next-end : (x : ℕ) → Meets (cursor_write_next x) w v (answered none) → (position w ≡ length (keys_in w)) × (v ≡ w)
  write-next-end x meets = let h = value_none (next_of (pool_of w)) (told s meets) in (next-over s h, meets.still s (rw (← h)))

  pub write-prev-entry : (x : ℕ) {old : ℕ} → Meets (cursor_write_prev x) w v (answered (some old))
      → (0 < position w) × Mutated (view w) (view v) (get_or (keys_in w) (pred (position w)) 0) old x × (keys_in v ≡ keys_in w) × (position v ≡ position w)
  write-prev-entry x meets =
      let o = value-some (prev_of (pool_of w)) (told s meets) in
      let a = prev-at (es s) (position w) o.1 in
      let m = rewritten w v s x (pred (position w)) (prev_of (pool_of w)) o.1 a.1 (after s meets) in
      (a.0, rw o.2 m.0, m.1, m.2)

  pub write-prev-end : (x : ℕ) → Meets (cursor_write_prev x) w v (answered none) → (position w ≡ 0) × (v ≡ w)
  write-prev-end x meets = let h = value_none (prev_of (pool_of w)) (told s meets) in (prev-over s h, meets.still s (rw (← h)))

  -- ---- insert after

  pub insert-after-done : (k x : ℕ) → Meets (cursor_insert_after k x) w v (answered tt)
      → FitsThere w k × (keys_in v ≡ ins (position w) k (keys_in w)) × (position v ≡ position w) × ((j : ℕ) → view v j ≡ altered (view w) k (some x) j)
  insert-after-done k x meets =
      let r = right s in
      let h = (after-fits s k x).0 (meets.exact s) in
      let put : held_by (pool_of v) ≡ ins (position w) (entry k x) (es s) =
      rw (after s meets) (insert-held (least_by (pool_of w)) (fresh_of (pool_of w)) (pool_of w).whole (position w) (entry k x) r.formed r.within) in
      (true-there s k h, rw put (map-ins (λ e. e.key) (position w) (entry k x) (es s)), rw (after s meets), λ j. rw put (lookup-put k x (position w) (es s) r.rising r.within h j))

  -- the source's error
  pub insert-after-error : (k x : ℕ) → Meets (cursor_insert_after k x) w v (refused 6) → (FitsThere w k → ⊥) × (v ≡ w)
  insert-after-error k x meets =
      (λ f. contrary (there-true s k f) ((after-fits s k x).1 (meets.exact s)), meets.kept 6 refl)

  -- ---- remove next

  pub remove-next-entry : {e : Entry} → Meets cursor_remove_next w v (answered (some e))
      → Shown w (position w) e × (keys_in v ≡ del (position w) (keys_in w)) × (position v ≡ position w) × ((j : ℕ) → view v j ≡ altered (view w) e.key none j)
  remove-next-entry {e} meets =
      let r = right s in
      let h = told s meets in
      let a = found_some (es s) (position w) no_entry h in
      let left : pool_of v ≡ strike_next (some e) (pool_of w) = after s meets ∙ rw (← h) in
      let struck : held_by (pool_of v) ≡ del (position w) (es s) = rw left (remove-held (least_by (pool_of w)) (pool_of w).whole (position w) (omega arith) r.formed a.0) in
      (next-shown s h, rw struck (map-del (λ e. e.key) (position w) (es s)), rw left, λ j. rw struck (lookup-strike (es s) r.rising (position w) a j))

  pub remove-next-end : Meets cursor_remove_next w v (answered none) → (position w ≡ length (keys_in w)) × (v ≡ w)
  remove-next-end meets = let h = told s meets in (next-over s h, meets.still s (rw (← h)))

  -- ---- close: the borrow ends, and what the cursor held is what the map holds

  pub close-view : Closes w v (answered tt) → (keys_in v ≡ keys_in w) × ((k : ℕ) → view v k ≡ view w k)
  close-view closes = let h = after s (closes-meets closes) in (rw h, λ k. rw h)

-- till then a call that changes the map is refused with 4: insert, replace and remove have these tests, and clear
module _ {w v : List ℕ} {g : ℕ} (s : Sound w) (open-there : (pool_of w).cursor ≡ gap g) where
  pub open-shuts : {A : Type 0} (c : Call A) {r : Outcome A} → c.early w ≡ change_tests map_kind w → Meets c w v r → (r ≡ refused 4) × (v ≡ w)
  open-shuts c tests meets =
      let q = meets.early 3 (rw (tests, s.head, gap-map w s open-there, gap-opened w s open-there)) in
      (q, meets.kept 4 q)

  pub open-shuts-clear : {r : Outcome (Unit {0})} → Clears w v r → (r ≡ refused 4) × (v ≡ w)
  open-shuts-clear {r} clears =
      let q : refusal (clear_tests w) ≡ 4 = rw (s.head, gap-opened w s open-there) in
      (clears.exact ∙ rw q, clears.words ∙ rw q)

-- ---- a changed value: the source's write through the reference that a step or a peek answers

-- x written at entry e, beside the gap
abbrev Changed : List ℕ → List ℕ → Entry → ℕ → Outcome (Option ℕ) → Type 0
Changed w v e x r = (r ≡ answered (some e.value)) × (keys_in v ≡ keys_in w) × (position v ≡ position w) × ((j : ℕ) → view v j ≡ altered (view w) e.key (some x) j)

-- a write at the entry's place is one at its key
at_entry : (w v : List ℕ) (x : ℕ) {i : ℕ} {e : Entry} → Shown w i e → Mutated (view w) (view v) (get_or (keys_in w) i 0) e.value x
    → (j : ℕ) → view v j ≡ altered (view w) e.key (some x) j
at_entry w v x {e = e} there wrote = ((mutated-altered (view w) (view v) e.key e.value x).0 (rw there.key wrote)).1

-- past the tests the write must answer
module _ {w v : List ℕ} (s : Sound w) (pass : refusal (cursor_tests w) ≡ 0) {e : Entry} (x : ℕ) {r : Outcome (Option ℕ)} where
  changed-next : some e ≡ next_of (pool_of w) → Meets (cursor_write_next x) w v r → Changed w v e x r
  changed-next h meets =
      let a = must-answer (cursor_write_next x) s pass (ap value_of h) meets in
      let b = write-next-entry s x a.1 in
      (a.0, b.2, b.3, at_entry w v x (next-shown s h) b.1)

  changed-prev : some e ≡ prev_of (pool_of w) → Meets (cursor_write_prev x) w v r → Changed w v e x r
  changed-prev h meets =
      let a = must-answer (cursor_write_prev x) s pass (ap value_of h) meets in
      let b = write-prev-entry s x a.1 in
      (a.0, b.2, b.3, at_entry w v x (prev-shown s h).1 b.1)

module _ {w u v : List ℕ} (s : Sound w) where
  pub next-changed : {e : Entry} (x : ℕ) {r : Outcome (Option ℕ)} → Meets cursor_next w u (answered (some e)) → Meets (cursor_write_prev x) u v r
      → (r ≡ answered (some e.value)) × (keys_in v ≡ keys_in w) × (position v ≡ suc (position w)) × ((j : ℕ) → view v j ≡ altered (view w) e.key (some x) j)
  next-changed x stepped wrote =
      let h = told s stepped in
      let left : pool_of u ≡ with_cursor (pool_of w) (gap (suc (position w))) = after s stepped ∙ rw (← h) in
      let pass = gap-passes u (stepped.sound s) (ap (λ (p : Pool). p.cursor) left) in
      rw left at (changed-prev (stepped.sound s) pass x (h ∙ sym (ap prev_of left)) wrote)

  pub prev-changed : {e : Entry} (x : ℕ) {r : Outcome (Option ℕ)} → Meets cursor_prev w u (answered (some e)) → Meets (cursor_write_next x) u v r
      → (r ≡ answered (some e.value)) × (keys_in v ≡ keys_in w) × (position v ≡ pred (position w)) × ((j : ℕ) → view v j ≡ altered (view w) e.key (some x) j)
  prev-changed x stepped wrote =
      let h = told s stepped in
      let left : pool_of u ≡ with_cursor (pool_of w) (gap (pred (position w))) = after s stepped ∙ rw (← h, back_one) in
      let pass = gap-passes u (stepped.sound s) (ap (λ (p : Pool). p.cursor) left) in
      rw left at (changed-next (stepped.sound s) pass x (prev-next (es s) (position w) h ∙ sym (ap next_of left)) wrote)

  pub peek-next-changed : {e : Entry} (x : ℕ) {r : Outcome (Option ℕ)} → Meets cursor_peek_next w u (answered (some e)) → Meets (cursor_write_next x) u v r
      → (r ≡ answered (some e.value)) × (keys_in v ≡ keys_in w) × (position v ≡ position w) × ((j : ℕ) → view v j ≡ altered (view w) e.key (some x) j)
  peek-next-changed {e} x peeked wrote =
      changed-next s (answered-number cursor_peek_next w u (some e) s peeked) x (told s peeked) (rw (peeked.still s refl) at wrote)

  pub peek-prev-changed : {e : Entry} (x : ℕ) {r : Outcome (Option ℕ)} → Meets cursor_peek_prev w u (answered (some e)) → Meets (cursor_write_prev x) u v r
      → (r ≡ answered (some e.value)) × (keys_in v ≡ keys_in w) × (position v ≡ position w) × ((j : ℕ) → view v j ≡ altered (view w) e.key (some x) j)
  peek-prev-changed {e} x peeked wrote =
      changed-prev s (answered-number cursor_peek_prev w u (some e) s peeked) x (told s peeked) (rw (peeked.still s refl) at wrote)

-- a reference that is not written through
pub shown-kept : {w : List ℕ} {i : ℕ} {e : Entry} → Shown w i e → (j : ℕ) → view w j ≡ altered (view w) e.key (some e.value) j
shown-kept {e = e} there j = either-eq e.key j (λ q. rw (← q, eq-eqb e.key e.key refl) there.value) (λ n. rw (ne_eqb e.key j n))
