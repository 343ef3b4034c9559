-- A season of use (demand 3): what each call does to the number of entries, by its answer alone; that a sound pool is
-- as demand 3 asks; and, by induction over the calls, that every pool of a season is.
-- Assumes nothing.
use mathlib.Core.Path.{◌≡◌, refl, sym, ap, ◌∙◌}
use mathlib.Core.Bool.{true, false, not, ◌&&◌}
use mathlib.Core.Option.{some}
use mathlib.Core.List.{List, [], ◌∷◌, ◌++◌}
use Prim.Native.Nat.{ℕ, suc, pred, ◌+◌, ◌*◌, ◌^◌, ◌≤◌, ◌<◌}
use native.Mathlib.Omega.{arith}
use lib.Dec.{ltb, eqb}
use lib.ListN.{length, get_or, length-set}
use borrow.Author.Tests.{not-false, eqb-true}
use Rattle.model.specs.declared.Geometry.{Geometry}
use Rattle.model.specs.Layout.{today, first_word, allowed}
use Rattle.model.specs.Head.{geometry_of, levels_word, headed}
use Rattle.model.specs.Tree.{Entry, entry, no_entry, Rising, held, entries}
use Rattle.model.specs.Entries.{has, lookup, gap_before}
use Rattle.model.specs.Pool.{Pool, least_by, held_by, pool_of, whole_of, gap_by, fresh_of}
use Rattle.model.specs.Sound.{Sound}
use Rattle.model.specs.Refusal.{Test, applies, first_of, order, refusal}
use Rattle.model.specs.Call.{Call, Outcome, refused, answered, given, left, number, Meets}
use Rattle.model.specs.PoolCalls.{copy_tests, cursorless}
use Rattle.model.specs.MapCalls.{map_insert, map_replace, map_remove, no_room, crowded, put_at}
use Rattle.model.specs.SetCalls.{set_insert, set_remove}
use Rattle.model.specs.CursorCalls.{next_of, prev_of, rewrite, strike_next, cursor_tests, cursor_open_lower, cursor_open_upper, cursor_next, cursor_prev, cursor_write_next, cursor_write_prev, cursor_insert_after, cursor_remove_next}
use Rattle.model.specs.HeadCalls.{cursor_close}
use Rattle.model.specs.Season.{is_new, is_there, is_yes, is_done, number_in, Use, by_make, by_clear, by_copy_in, by_copy_out, by_check, by_count, by_is_empty, by_insert, by_get, by_contains, by_replace, by_remove, by_set_insert, by_set_get, by_set_contains, by_set_remove, by_list, by_open_lower, by_open_upper, by_next, by_prev, by_peek_next, by_peek_prev, by_write_next, by_write_prev, by_insert_after, by_remove_next, by_close, by_play, Season, after_make, after_clear, after_copy, after_use, Demand}
use Rattle.model.proofs.Cases.{either, either_lt, either-zero, contrary}
use Rattle.model.proofs.Basics.{length-ins, length-del, next-some, next-none}
use Rattle.model.proofs.Lawful.{pages-of, geometry-lawful}
use Rattle.model.proofs.Head.{head-facts}
use Rattle.model.proofs.Entries.{filed, removed, replaced, gap-le, has_key, lookup-at}
use Rattle.model.proofs.Insert.{insert-held}
use Rattle.model.proofs.Remove.{remove-held}
use Rattle.model.proofs.Write.{write-held}
use Rattle.model.proofs.Right.{Right, sound-right, right-deep, right-room}
use Rattle.model.proofs.Calls.{file-geometry, strike-geometry, replace-geometry, rewrite-geometry, strike-next-geometry, file-held, replace-held, strike-held}
use Rattle.model.proofs.Keeps.{passed}
use Rattle.model.proofs.Meets.{given-refused}
use Rattle.model.proofs.Making.{exact-answered, exact-refused, makes-new, makes-long, clears-new, clears-long}
use Rattle.model.proofs.HeadCalls.{counts-meets, empty-meets, closes-meets}
use Rattle.model.proofs.Reached.{reached-once, reached-marked, marked-reached, reached-level}
use Rattle.model.proofs.Cursorless.{cursorless-length, cursorless-geometry, cursorless-sound, cursorless-pool}

-- ---- the number of entries, by the answer

module _ (k : ℕ) (es : List Entry) (rising : Rising es) where
  filed-number : (v : ℕ) → length (filed (entry k v) es) ≡ length es + is_new (answered (lookup k es))
  unfolding filed
  filed-number v =
      let g = gap_before k es in
      either (has k es)
      (λ y. rw (lookup-at k es rising, y) (omega (arith, length-set es g (entry k v))))
      (λ n. rw (lookup-at k es rising, n) (omega (arith, length-ins g (entry k v) es (gap-le (λ x. ltb x k) es))))

  removed-number : length (removed k es) + is_there (answered (lookup k es)) ≡ length es
  unfolding removed
  removed-number =
      either (has k es)
      (λ y. rw (lookup-at k es rising, y) (omega (arith, length-del (gap_before k es) es (has_key k es rising y).0)))
      (λ n. rw (lookup-at k es rising, n) (omega arith))

  replaced-number : (v : ℕ) → length (replaced (entry k v) es) ≡ length es
  unfolding replaced
  replaced-number v = either (has k es) (λ y. rw y (length-set es (gap_before k es) (entry k v))) (λ n. rw n)

  -- of a set
  yes-new : is_yes (answered (not (has k es))) ≡ is_new (answered (lookup k es))
  yes-new = either (has k es) (λ y. rw (lookup-at k es rising, y)) (λ n. rw (lookup-at k es rising, n))

  yes-there : is_yes (answered (has k es)) ≡ is_there (answered (lookup k es))
  yes-there = either (has k es) (λ y. rw (lookup-at k es rising, y)) (λ n. rw (lookup-at k es rising, n))

module _ (p : Pool) (r : Right p) where
  abbrev es : List Entry
  es = held_by p

  written-number : (i x : ℕ) (e : Entry) → i < length es → length (held_by (rewrite (some e) i x p)) ≡ length es
  written-number i x e b = rw (write-held (least_by p) p.whole i (entry e.key x) r.formed b) (length-set es i (entry e.key x))

  write-next-number : (x : ℕ) → length (held_by (rewrite (next_of p) (gap_by p) x p)) ≡ length es
  write-next-number x =
      either_lt (gap_by p) (length es)
      (λ b. rw (next-some es (gap_by p) no_entry b) (written-number (gap_by p) x (get_or es (gap_by p) no_entry) b))
      (λ b. rw (next-none es (gap_by p) b))

  write-prev-number : (x : ℕ) → length (held_by (rewrite (prev_of p) (pred (gap_by p)) x p)) ≡ length es
  write-prev-number x =
      let b = r.within in
      either-zero (gap_by p)
      (λ z. rw z)
      (λ g z. let i : g < length es = omega arith in rw (z, next-some es g no_entry i) (written-number g x (get_or es g no_entry) i))

  put-number : (k x : ℕ) → length (held_by (put_at (gap_by p) (entry k x) p)) ≡ suc (length es)
  put-number k x = rw (insert-held (least_by p) (fresh_of p) p.whole (gap_by p) (entry k x) r.formed r.within) (length-ins (gap_by p) (entry k x) es r.within)

  strike-next-number : length (held_by (strike_next (next_of p) p)) + is_there (answered (next_of p)) ≡ length es
  strike-next-number =
      either_lt (gap_by p) (length es)
      (λ b. rw (next-some es (gap_by p) no_entry b, remove-held (least_by p) p.whole (gap_by p) (omega arith) r.formed b) (omega (arith, length-del (gap_by p) es b)))
      (λ b. rw (next-none es (gap_by p) b) (omega arith))

-- ---- the geometry

-- of what a pool holds, it is the one that the head names
pool-geometry : (w : List ℕ) → geometry_of w ≡ (pool_of w).geometry
unfolding pool_of
pool-geometry w = refl

held-geometry : (v : List ℕ) {p : Pool} → pool_of v ≡ p → geometry_of v ≡ p.geometry
held-geometry v e = pool-geometry v ∙ ap (λ (p : Pool). p.geometry) e

-- ---- one call

pub record Counted (w v : List ℕ) (a r : ℕ) : Type 0 where
  pub geometry : geometry_of v ≡ geometry_of w
  pub long : length v ≡ length w
  pub sound : Sound v
  pub entries : number_in v + r ≡ number_in w + a

unchanged : {w v : List ℕ} → Sound w → v ≡ w → Counted w v 0 0
unchanged s e = rw e (record { geometry = refl; long = refl; sound = s; entries = refl })

-- `up` and `down` say what an answer counts for
module _ {A : Type 0} (c : Call A) (up down : Outcome A → ℕ) {w v : List ℕ} {o : Outcome A} (s : Sound w) (m : Meets c w v o) where
  counted : (c.after (pool_of w)).geometry ≡ (pool_of w).geometry → ((n : ℕ) → (up (refused n) ≡ 0) × (down (refused n) ≡ 0))
      → length (held_by (c.after (pool_of w))) + down (answered (c.answer (pool_of w))) ≡ number_in w + up (answered (c.answer (pool_of w))) → Counted w v (up o) (down o)
  counted same nothing fact = record { geometry = geometry-after; long = m.long; sound = m.sound s; entries = number-after }
    where
      geometry-after : geometry_of v ≡ geometry_of w
      geometry-after = held-geometry v (m.holds s) ∙ either-zero (number c w) (λ z. rw z same) (λ n z. rw z) ∙ sym (pool-geometry w)

      number-after : number_in v + down o ≡ number_in w + up o
      number-after =
          either-zero (number c w)
          (λ z.
          let e : o ≡ answered (c.answer (pool_of w)) = m.exact s ∙ ap (λ (n : ℕ). given n (c.answer (pool_of w))) z in
          let h : pool_of v ≡ c.after (pool_of w) = m.holds s ∙ ap (λ (n : ℕ). left n (pool_of w) (c.after (pool_of w))) z in
          rw (e, h) fact)
          (λ n z.
          let e : o ≡ refused (suc n) = m.exact s ∙ ap (λ (n : ℕ). given n (c.answer (pool_of w))) z in
          let h : pool_of v ≡ pool_of w = m.holds s ∙ ap (λ (n : ℕ). left n (pool_of w) (c.after (pool_of w))) z in
          rw (e, h, (nothing (suc n)).0, (nothing (suc n)).1))

-- a call that leaves as many entries as there were
quiet : {A : Type 0} (c : Call A) {w v : List ℕ} {o : Outcome A} → Sound w → Meets c w v o → (c.after (pool_of w)).geometry ≡ (pool_of w).geometry
    → length (held_by (c.after (pool_of w))) ≡ number_in w → Counted w v 0 0
quiet c s m same fact = counted c (λ o. 0) (λ o. 0) s m same (λ n. (refl, refl)) (rw fact)

use-counted : {w v : List ℕ} {a r : ℕ} → Sound w → Use w v a r → Counted w v a r
use-counted s (by_make kind n m) = unchanged s (exact-refused m).2
use-counted s (by_clear n m) = unchanged s (exact-refused m).2
use-counted s (by_copy_in source n m) = unchanged s (exact-refused m).2
use-counted s (by_copy_out destination after o m) = unchanged s refl
use-counted s (by_check o m) = unchanged s refl
use-counted s (by_count o m) = unchanged s ((counts-meets m).still s refl)
use-counted s (by_is_empty o m) = unchanged s ((empty-meets m).still s refl)
use-counted {w} s (by_insert k x o m) =
    let r = sound-right w s in
    counted (map_insert k x) is_new (λ o. 0) s m (file-geometry (entry k x) (pool_of w)) (λ n. (refl, refl))
    (rw (file-held (pool_of w) r (entry k x)) (omega (arith, filed-number k (held_by (pool_of w)) r.rising x)))
use-counted s (by_get k o m) = unchanged s (m.still s refl)
use-counted s (by_contains k o m) = unchanged s (m.still s refl)
use-counted {w} s (by_replace k x o m) =
    let r = sound-right w s in
    quiet (map_replace k x) s m (replace-geometry (entry k x) (pool_of w)) (rw (replace-held (pool_of w) r (entry k x)) (replaced-number k (held_by (pool_of w)) r.rising x))
use-counted {w} s (by_remove k o m) =
    let r = sound-right w s in
    counted (map_remove k) (λ o. 0) is_there s m (strike-geometry k (pool_of w)) (λ n. (refl, refl))
    (rw (strike-held (pool_of w) r k) (omega (arith, removed-number k (held_by (pool_of w)) r.rising)))
use-counted {w} s (by_set_insert k o m) =
    let r = sound-right w s in
    let es = held_by (pool_of w) in
    counted (set_insert k) is_yes (λ o. 0) s m (file-geometry (entry k 0) (pool_of w)) (λ n. (refl, refl))
    (rw (file-held (pool_of w) r (entry k 0), yes-new k es r.rising) (omega (arith, filed-number k es r.rising 0)))
use-counted s (by_set_get k o m) = unchanged s (m.still s refl)
use-counted s (by_set_contains k o m) = unchanged s (m.still s refl)
use-counted {w} s (by_set_remove k o m) =
    let r = sound-right w s in
    let es = held_by (pool_of w) in
    counted (set_remove k) (λ o. 0) is_yes s m (strike-geometry k (pool_of w)) (λ n. (refl, refl))
    (rw (strike-held (pool_of w) r k, yes-there k es r.rising) (omega (arith, removed-number k es r.rising)))
use-counted s (by_list kind lower from upper to cs o m) = unchanged s refl
use-counted s (by_open_lower kind k o m) = quiet (cursor_open_lower kind k) s m refl refl
use-counted s (by_open_upper kind k o m) = quiet (cursor_open_upper kind k) s m refl refl
use-counted s (by_next o m) = quiet cursor_next s m refl refl
use-counted s (by_prev o m) = quiet cursor_prev s m refl refl
use-counted s (by_peek_next o m) = unchanged s (m.still s refl)
use-counted s (by_peek_prev o m) = unchanged s (m.still s refl)
use-counted {w} s (by_write_next x o m) =
    let p = pool_of w in
    quiet (cursor_write_next x) s m (rewrite-geometry (next_of p) (gap_by p) x p) (write-next-number p (sound-right w s) x)
use-counted {w} s (by_write_prev x o m) =
    let p = pool_of w in
    quiet (cursor_write_prev x) s m (rewrite-geometry (prev_of p) (pred (gap_by p)) x p) (write-prev-number p (sound-right w s) x)
use-counted {w} s (by_insert_after k x o m) =
    counted (cursor_insert_after k x) is_done (λ o. 0) s m refl (λ n. (refl, refl)) (omega (arith, put-number (pool_of w) (sound-right w s) k x))
use-counted {w} s (by_remove_next o m) =
    let p = pool_of w in
    counted cursor_remove_next (λ o. 0) is_there s m (strike-next-geometry (next_of p) p) (λ n. (refl, refl)) (omega (arith, strike-next-number p (sound-right w s)))
use-counted s (by_close o m) = quiet cursor_close s (closes-meets m) refl refl
use-counted {w} {v} s (by_play cs o m) =
    either-zero (refusal (cursor_tests w))
    (λ z. record { geometry = held-geometry v (m.holds s z) ∙ sym (pool-geometry w); long = m.long.0; sound = m.sound s; entries = rw (m.holds s z) })
    (λ n e. unchanged s (m.kept (suc n) (m.early n e)).0)

-- ---- what demand 3 asks of a sound pool

-- a number that is given has its test apply
refusal-applies : (ns : List ℕ) (ts : List Test) (n : ℕ) → first_of ns ts ≡ suc n → applies (suc n) ts ≡ true
refusal-applies [] ts n = λ e. absurd (omega arith)
refusal-applies (m ∷ ns) ts n = either (applies m ts) (λ y. rw y (λ e. rw (← e) y)) (λ z. rw z (refusal-applies ns ts n))

-- a call whose test of 7 does not apply is not refused with 7
never-full : {A : Type 0} (c : Call A) {w v : List ℕ} → Sound w → applies 7 (c.early w ++ c.late (pool_of w)) ≡ false → Meets c w v (refused 7) → ⊥
never-full c {w} s free m =
    contrary (refusal-applies order (c.early w ++ c.late (pool_of w)) 6 (given-refused (number c w) 7 (c.answer (pool_of w)) (m.exact s)).0) free

module _ (γ : Geometry) (P : ℕ) (w : List ℕ) (s : Sound w) (same : geometry_of w ≡ γ) (long : length w ≡ first_word γ P) where
  abbrev p : Pool
  p = pool_of w

  r : Right p
  r = sound-right w s

  pages-are : p.pages ≡ P
  unfolding pool_of
  pages-are = rw same (pages-of γ (rw same at (geometry-lawful w)) (length w) P long)

  least-is : least_by p ≡ γ.least
  unfolding pool_of
  least-is = ap (λ (x : Geometry). x.least) same

  free-at : (g : ℕ) → g ≤ length (held_by p) → number_in w ≤ γ.least * P → crowded g p ≡ false
  free-at g b n = right-room p r g b (rw (pages-are, least-is) n)

  has_room : (k : ℕ) → number_in w ≤ γ.least * P → no_room k p ≡ false
  unfolding no_room
  has_room k n = either (has k (held_by p)) (λ y. rw y) (λ z. rw z (free-at (gap_before k (held_by p)) (gap-le (λ x. ltb x k) (held_by p)) n))

  deep-enough : 1 ≤ number_in w → 2 * suc γ.least ^ pred (levels_word w) ≤ number_in w + 1
  unfolding pool_of whole_of
  deep-enough n =
      let levels = ((head-facts w s.head).rooted.1 (omega (arith, s.count))).1 in
      rw (← least-is) (omega (arith, right-deep p r levels))

  sound-demand : (accepted gone : ℕ) → number_in w + gone ≡ accepted → Demand γ P accepted gone w
  sound-demand accepted gone e = record {
    sound = s;
    geometry = same;
    pages = long;
    entries = e;
    once = reached-once w s;
    marked = reached-marked w s;
    reached = marked-reached w s;
    level = reached-level w s;
    deep = deep-enough;
    room = λ n k x v. (
      never-full (map_insert k x) s (has_room k n),
      never-full (set_insert k) s (has_room k n),
      never-full (cursor_insert_after k x) s (free-at (gap_by p) r.within n),
    );
  }

-- ---- a season

module _ (source w : List ℕ) (s : Sound source) where
  source-long : 8 ≤ length source
  source-long = omega (arith, (head-facts source s.head).long)

  -- a copy that is accepted is as long as what it was copied over
  copy-long : refusal (copy_tests source w) ≡ 0 → length (cursorless source) ≡ length w
  copy-long e =
      let a = passed (not (headed source && allowed (geometry_of source) (length w))) 1 _ (omega arith) e in
      let b = passed (not (eqb (length source) (length w))) 8 _ (omega arith) a.1 in
      cursorless-length source source-long ∙ eqb-true (length source) (length w) (not-false _ b.0)

pub season-demand : {γ : Geometry} {P accepted gone : ℕ} {w : List ℕ} → Season γ P accepted gone w → Demand γ P accepted gone w
unfolding held entries
season-demand {γ} {P} (after_make {w} {v} kind same long m) =
    let a = makes-new kind m in
    sound-demand γ P v a.0 (held-geometry v a.1 ∙ sym same) (makes-long kind m ∙ long) 0 0 (rw a.1)
season-demand {γ} {P} (after_clear {w} {v} same long m) =
    let a = clears-new m in
    sound-demand γ P v a.0 (held-geometry v a.1 ∙ same) (clears-long m ∙ long) 0 0 (rw a.1)
season-demand {γ} {P} (after_copy {w} {v} source same long s m) =
    let e = exact-answered m in
    let a = e.2 in
    let like : geometry_of v ≡ γ = rw a (cursorless-geometry source (source-long source w s)) ∙ same in
    sound-demand γ P v (rw a (cursorless-sound source s)) like (ap length a ∙ copy-long source w s e.0 ∙ long) (number_in source) 0
    (rw (a, cursorless-pool source s) (omega arith))
season-demand {γ} {P} (after_use {v = v} {accepted = accepted} {removed = gone} {a = a} {r = r} before used) =
    let d = season-demand before in
    let c = use-counted d.sound used in
    sound-demand γ P v c.sound (c.geometry ∙ d.geometry) (c.long ∙ d.pages) (accepted + a) (gone + r) (omega (arith, c.entries, d.entries))

-- demand 3 in document 01's numbers
pub season-today : {P accepted gone : ℕ} {w : List ℕ} → Season today P accepted gone w
    → (1 ≤ number_in w → 2 * 5 ^ pred (levels_word w) ≤ number_in w + 1)
    × (number_in w ≤ 4 * P → (k x : ℕ) (v : List ℕ)
    → (Meets (map_insert k x) w v (refused 7) → ⊥) × (Meets (set_insert k) w v (refused 7) → ⊥) × (Meets (cursor_insert_after k x) w v (refused 7) → ⊥))
season-today a = let d = season-demand a in (d.deep, d.room)
