-- What each changing call leaves, of a pool that is right: the entries are the list model's, and the pool stays right
-- where the call is not refused.
-- Assumes nothing.
use mathlib.Core.Path.{◌≡◌, refl, subst, ◌∙◌}
use mathlib.Core.Bool.{true, false, Bool, cond}
use mathlib.Core.Option.{Option, none, some}
use mathlib.Core.List.{List}
use Prim.Native.Nat.{ℕ, ◌<◌, suc, pred}
use native.Mathlib.Omega.{arith}
use lib.Dec.{ltb}
use lib.ListN.{length}
use Rattle.model.specs.Tree.{Entry, no_entry, entry}
use Rattle.model.specs.Entries.{has, shut, gap_before, key_fits, gap, back, forth, gap_of}
use Rattle.model.specs.Write.{write}
use Rattle.model.specs.Pool.{Pool, held_by, gap_by, with_whole, fresh_of, with_cursor, least_by}
use Rattle.model.specs.MapCalls.{file, strike, no_room, crowded, put_at}
use Rattle.model.specs.CursorCalls.{rewrite, next_of, prev_of, strike_next}
use Rattle.model.proofs.Cases.{either, either_lt, either-zero}
use Rattle.model.proofs.Basics.{next-some, next-none}
use Rattle.model.proofs.Entries.{filed, removed, replaced, key_at, has_key, gap-le, absent-fits}
use Rattle.model.proofs.Insert.{insert-held}
use Rattle.model.proofs.Remove.{remove-held}
use Rattle.model.proofs.Write.{write-held}
use Rattle.model.proofs.Right.{Right, right-remove, right-write, right-put, right-cursor}

-- ---- no call changes the geometry

pub file-geometry : (e : Entry) (p : Pool) → (file e p).geometry ≡ p.geometry
unfolding file
file-geometry e p = either (has e.key (held_by p)) (λ y. rw y) (λ n. rw n)

pub replace-geometry : (e : Entry) (p : Pool) → (cond (has e.key (held_by p)) (file e p) p).geometry ≡ p.geometry
replace-geometry e p = either (has e.key (held_by p)) (λ y. rw y (file-geometry e p)) (λ n. rw n)

pub strike-geometry : (k : ℕ) (p : Pool) → (strike k p).geometry ≡ p.geometry
unfolding strike
strike-geometry k p = either (has k (held_by p)) (λ y. rw y) (λ n. rw n)

pub rewrite-geometry : (e : Option Entry) (i x : ℕ) (p : Pool) → (rewrite e i x p).geometry ≡ p.geometry
rewrite-geometry none i x p = refl
rewrite-geometry (some e) i x p = refl

pub strike-next-geometry : (e : Option Entry) (p : Pool) → (strike_next e p).geometry ≡ p.geometry
strike-next-geometry none p = refl
strike-next-geometry (some e) p = refl

-- ---- map and set

module _ (p : Pool) (r : Right p) where
  -- the entry that has the key, where there is one
  here : (k : ℕ) → has k (held_by p) ≡ true → (gap_before k (held_by p) < length (held_by p)) × (key_at (held_by p) (gap_before k (held_by p)) ≡ k)
  here k = has_key k (held_by p) r.rising

  pub file-held : (e : Entry) → held_by (file e p) ≡ filed e (held_by p)
  unfolding file filed
  file-held e =
      either (has e.key (held_by p))
      (λ y. rw y (write-held (least_by p) p.whole (gap_before e.key (held_by p)) e r.formed (here e.key y).0))
      (λ n. rw n (insert-held (least_by p) (fresh_of p) p.whole (gap_before e.key (held_by p)) e r.formed (gap-le (λ x. ltb x e.key) (held_by p))))

  pub replace-held : (e : Entry) → held_by (cond (has e.key (held_by p)) (file e p) p) ≡ replaced e (held_by p)
  unfolding replaced filed
  replace-held e = either (has e.key (held_by p)) (λ y. rw y (file-held e ∙ rw y)) (λ n. rw n)

  pub strike-held : (k : ℕ) → held_by (strike k p) ≡ removed k (held_by p)
  unfolding strike removed
  strike-held k =
      either (has k (held_by p))
      (λ y. rw y (remove-held (least_by p) p.whole (gap_before k (held_by p)) (omega arith) r.formed (here k y).0))
      (λ n. rw n)

  pub file-right : (k v : ℕ) → (p.kind ≡ 1 → v ≡ 0) → no_room k p ≡ false → Right (file (entry k v) p)
  unfolding file no_room
  file-right k v none-in-set =
      let g = gap_before k (held_by p) in
      either (has k (held_by p))
      (λ y. rw y (λ free. subst (λ (j : ℕ). Right (with_whole p (write p.whole g (entry j v)))) (here k y).1 (right-write p r g v (here k y).0 none-in-set)))
      (λ n. rw n (λ free. right-put p r g k v (gap-le (λ x. ltb x k) (held_by p)) (absent-fits k (held_by p) r.rising n) free none-in-set))

  pub strike-right : (k : ℕ) → p.cursor ≡ shut → Right (strike k p)
  unfolding strike
  strike-right k s =
      either (has k (held_by p))
      (λ y. rw y (right-remove p r (gap_before k (held_by p)) (here k y).0 (rw s (omega arith))))
      (λ n. rw n r)

-- ---- the cursor: the entry after the gap, where there is one, and the entry before it

module _ (p : Pool) (r : Right p) (map-kind : p.kind ≡ 0) where
  abbrev es : List Entry
  es = held_by p

  abbrev at_gap : ℕ
  at_gap = gap_by p

  no-set : {C : Type 0} → p.kind ≡ 1 → C
  no-set s = absurd (omega arith)

  pub open-right : (before : ℕ → Bool) → Right (with_cursor p (gap (gap_of before es)))
  open-right before = right-cursor p r (gap_of before es) (gap-le before es) map-kind

  pub next-right : Right (with_cursor p (gap (forth (next_of p) at_gap)))
  next-right =
      either_lt at_gap (length es)
      (λ b. rw (next-some es at_gap no_entry b) (right-cursor p r (suc at_gap) b map-kind))
      (λ b. rw (next-none es at_gap b) (right-cursor p r at_gap r.within map-kind))

  pub prev-right : Right (with_cursor p (gap (back (prev_of p) at_gap)))
  prev-right =
      let b = r.within in
      either-zero at_gap
      (λ e. rw e (right-cursor p r 0 (omega arith) map-kind))
      (λ g e. rw (e, next-some es g no_entry (omega arith)) (right-cursor p r g (omega arith) map-kind))

  pub write-next-right : (v : ℕ) → Right (rewrite (next_of p) at_gap v p)
  write-next-right v =
      either_lt at_gap (length es)
      (λ b. rw (next-some es at_gap no_entry b) (right-write p r at_gap v b no-set))
      (λ b. rw (next-none es at_gap b) r)

  pub write-prev-right : (v : ℕ) → Right (rewrite (prev_of p) (pred at_gap) v p)
  write-prev-right v =
      let b = r.within in
      either-zero at_gap
      (λ e. rw e r)
      (λ g e. let i : g < length es = omega arith in rw (e, next-some es g no_entry i) (right-write p r g v i no-set))

  pub insert-after-right : (k v : ℕ) → key_fits k at_gap es ≡ true → crowded at_gap p ≡ false → Right (put_at at_gap (entry k v) p)
  insert-after-right k v fit free = right-put p r at_gap k v r.within fit free no-set

  pub remove-next-right : Right (strike_next (next_of p) p)
  remove-next-right =
      either_lt at_gap (length es)
      (λ b. rw (next-some es at_gap no_entry b) (right-remove p r at_gap b (omega arith)))
      (λ b. rw (next-none es at_gap b) r)
