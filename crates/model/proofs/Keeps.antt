-- No call leaves a pool that is not right: of a sound pool, and where the call is not refused, what it leaves is right
-- again. One line a call. (Make and clear: `right-made`; copy: Copy.)
-- Assumes nothing.
use mathlib.Core.Path.{◌≡◌, refl}
use mathlib.Core.Bool.{Bool, true, false, not, cond}
use mathlib.Core.List.{List}
use Prim.Native.Nat.{ℕ, ◌≤◌}
use native.Mathlib.Omega.{arith}
use lib.Dec.{eqb}
use borrow.Author.Tests.{not-false, eqb-true, eqb-false, eq-eqb}
use Rattle.model.specs.Head.{headed, kind_word, open_word}
use Rattle.model.specs.Bound.{before_lower, before_upper, bound_of}
use Rattle.model.specs.Entries.{shut, key_fits, has}
use Rattle.model.specs.Pool.{Pool, pool_of, cursor_of, gap_by, held_by}
use Rattle.model.specs.Sound.{Sound}
use Rattle.model.specs.Refusal.{Test, map_kind, set_kind}
use Rattle.model.specs.Call.{Call, number, reads}
use Rattle.model.specs.MapCalls.{map_insert, no_room, map_remove, map_replace, crowded}
use Rattle.model.specs.SetCalls.{set_insert, set_remove}
use Rattle.model.specs.CursorCalls.{cursor_insert_after, cursor_next, cursor_open_lower, cursor_open_upper, cursor_prev, cursor_remove_next, cursor_write_next, cursor_write_prev}
use Rattle.model.specs.HeadCalls.{cursor_close}
use Rattle.model.proofs.Cases.{either}
use Rattle.model.proofs.Head.{head-facts}
use Rattle.model.proofs.Right.{sound-right, Right, right-shut}
use Rattle.model.proofs.Calls.{file-right, next-right, open-right, prev-right, remove-next-right, strike-right, write-next-right, write-prev-right, insert-after-right}

abbrev pub Keeps : {A : Type 0} → Call A → Type 0
Keeps c = (w : List ℕ) → Sound w → number c w ≡ 0 → Right (c.after (pool_of w))

-- ---- what it means that no test applies

pub passed : (b : Bool) (n rest : ℕ) → 1 ≤ n → cond b n rest ≡ 0 → (b ≡ false) × (rest ≡ 0)
passed true n rest l e = absurd (omega arith)
passed false n rest l e = (refl, e)

module _ (w : List ℕ) where
  -- the head fits, and the kind is the call's
  pub of-kind : (kind rest : ℕ) → cond (not (headed w)) 1 (cond (not (eqb (kind_word w) kind)) 2 rest) ≡ 0 → (headed w ≡ true) × (kind_word w ≡ kind) × (rest ≡ 0)
  of-kind kind rest e =
      let a = passed (not (headed w)) 1 (cond (not (eqb (kind_word w) kind)) 2 rest) (omega arith) e in
      let b = passed (not (eqb (kind_word w) kind)) 2 rest (omega arith) a.1 in
      (not-false (headed w) a.0, eqb-true (kind_word w) kind (not-false (eqb (kind_word w) kind) b.0), b.1)

  held-kind : (kind rest : ℕ) → cond (not (headed w)) 1 (cond (not (eqb (kind_word w) kind)) 2 rest) ≡ 0 → ((pool_of w).kind ≡ kind) × (rest ≡ 0)
  unfolding pool_of
  held-kind kind rest e = let a = of-kind kind rest e in (a.1, a.2)

  -- the cursor is closed
  pub shut-there : headed w ≡ true → (rest : ℕ) → cond (eqb (open_word w) 1) 4 rest ≡ 0 → ((pool_of w).cursor ≡ shut) × (rest ≡ 0)
  unfolding pool_of cursor_of
  shut-there fits rest e =
      let a = passed (eqb (open_word w) 1) 4 rest (omega arith) e in
      let z : open_word w ≡ 0 = omega (arith, (head-facts w fits).opened, eqb-false (open_word w) 1 a.0) in
      (rw (eq-eqb (open_word w) 0 z), a.1)

-- ---- the calls

pub keeps-reads : {A : Type 0} (tests : List ℕ → List Test) (answer : Pool → A) → Keeps (reads tests answer)
keeps-reads tests answer w s e = sound-right w s

pub keeps-map-insert : (k v : ℕ) → Keeps (map_insert k v)
keeps-map-insert k v w s e =
    let a = held-kind w map_kind _ e in
    let b = shut-there w s.head _ a.1 in
    file-right (pool_of w) (sound-right w s) k v (λ set-kind. omega arith) (passed (no_room k (pool_of w)) 7 0 (omega arith) b.1).0

pub keeps-map-replace : (k v : ℕ) → Keeps (map_replace k v)
unfolding no_room
keeps-map-replace k v w s e =
    let a = held-kind w map_kind _ e in
    let r = sound-right w s in
    either (has k (held_by (pool_of w)))
    (λ y. rw y (file-right (pool_of w) r k v (λ set-kind. omega arith) (rw y)))
    (λ n. rw n r)

pub keeps-map-remove : (k : ℕ) → Keeps (map_remove k)
keeps-map-remove k w s e =
    let a = held-kind w map_kind _ e in
    strike-right (pool_of w) (sound-right w s) k (shut-there w s.head _ a.1).0

pub keeps-set-insert : (k : ℕ) → Keeps (set_insert k)
keeps-set-insert k w s e =
    let a = held-kind w set_kind _ e in
    let b = shut-there w s.head _ a.1 in
    file-right (pool_of w) (sound-right w s) k 0 (λ set-kind. refl) (passed (no_room k (pool_of w)) 7 0 (omega arith) b.1).0

pub keeps-set-remove : (k : ℕ) → Keeps (set_remove k)
keeps-set-remove k w s e =
    let a = held-kind w set_kind _ e in
    strike-right (pool_of w) (sound-right w s) k (shut-there w s.head _ a.1).0

pub keeps-open-lower : (kind k : ℕ) → Keeps (cursor_open_lower kind k)
keeps-open-lower kind k w s e = open-right (pool_of w) (sound-right w s) (held-kind w map_kind _ e).0 (before_lower (bound_of kind k))

pub keeps-open-upper : (kind k : ℕ) → Keeps (cursor_open_upper kind k)
keeps-open-upper kind k w s e = open-right (pool_of w) (sound-right w s) (held-kind w map_kind _ e).0 (before_upper (bound_of kind k))

pub keeps-next : Keeps cursor_next
keeps-next w s e = next-right (pool_of w) (sound-right w s) (held-kind w map_kind _ e).0

pub keeps-prev : Keeps cursor_prev
keeps-prev w s e = prev-right (pool_of w) (sound-right w s) (held-kind w map_kind _ e).0

pub keeps-write-next : (v : ℕ) → Keeps (cursor_write_next v)
keeps-write-next v w s e = write-next-right (pool_of w) (sound-right w s) (held-kind w map_kind _ e).0 v

pub keeps-write-prev : (v : ℕ) → Keeps (cursor_write_prev v)
keeps-write-prev v w s e = write-prev-right (pool_of w) (sound-right w s) (held-kind w map_kind _ e).0 v

-- the key fits at the gap, and the pages are there
pub insert-fits : (k v : ℕ) (w : List ℕ) → number (cursor_insert_after k v) w ≡ 0
    → (key_fits k (gap_by (pool_of w)) (held_by (pool_of w)) ≡ true) × (crowded (gap_by (pool_of w)) (pool_of w) ≡ false)
insert-fits k v w e =
    let b = passed (eqb (open_word w) 0) 5 _ (omega arith) (held-kind w map_kind _ e).1 in
    let c = passed (not (key_fits k (gap_by (pool_of w)) (held_by (pool_of w)))) 6 _ (omega arith) b.1 in
    (not-false _ c.0, (passed (crowded (gap_by (pool_of w)) (pool_of w)) 7 0 (omega arith) c.1).0)

pub keeps-insert-after : (k v : ℕ) → Keeps (cursor_insert_after k v)
keeps-insert-after k v w s e =
    let f = insert-fits k v w e in
    insert-after-right (pool_of w) (sound-right w s) (held-kind w map_kind _ e).0 k v f.0 f.1

pub keeps-remove-next : Keeps cursor_remove_next
keeps-remove-next w s e = remove-next-right (pool_of w) (sound-right w s) (held-kind w map_kind _ e).0

pub keeps-close : Keeps cursor_close
keeps-close w s e = right-shut (pool_of w) (sound-right w s)
