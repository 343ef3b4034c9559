-- The source's clauses on a set, for every answer that a call's contract allows on a sound pool, with no premise on the
-- order of keys.
-- Its count is the map's: `count-keys` (SourceMap).
-- Assumes nothing.
use mathlib.Core.Path.{◌≡◌, sym, ap, ◌∙◌}
use mathlib.Core.Bool.{Bool, true, false, not, cond}
use mathlib.Core.Logic.{◌↔◌}
use mathlib.Core.Option.{Option, none, some}
use mathlib.Core.List.{List}
use Prim.Native.Nat.{ℕ}
use lib.Dec.{eqb}
use Rattle.model.specs.Search.{Found, Seen}
use Rattle.model.specs.Pool.{pool_of}
use Rattle.model.specs.Sound.{Sound}
use Rattle.model.specs.Call.{answered, Meets}
use Rattle.model.specs.PoolCalls.{Makes, Clears, Copies, TellsEmpty}
use Rattle.model.specs.MapCalls.{pages_read}
use Rattle.model.specs.SetCalls.{set_insert, set_get, set_contains, set_remove}
use Rattle.model.specs.Source.{view, member, altered}
use Rattle.model.proofs.Cases.{either}
use Rattle.model.proofs.Entries.{there}
use Rattle.model.proofs.Right.{sound-right}
use Rattle.model.proofs.SourceMap.{answered-answer, answered-after, file-lookup, strike-lookup, member-view, make-view, clear-view, copy-view, is-empty-view}

-- ---- a set is the keys of a map

member-altered : (w v : List ℕ) (k : ℕ) (o : Option ℕ) → ((j : ℕ) → view v j ≡ altered (view w) k o j) → (j : ℕ) → member v j ≡ altered (member w) k (there o) j
member-altered w v k o e j = rw (member-view v j, e j, member-view w j) (either (eqb k j) (λ y. rw y) (λ n. rw n))

there-none : (o : Option ℕ) → there o ≡ false → o ≡ none
there-none none e = cc
there-none (some x) e = cc

-- ---- the clauses

module _ (k : ℕ) (w v : List ℕ) (b : Bool) (s : Sound w) (m : Meets (set_insert k) w v (answered b)) where
  pub set-insert-member : (j : ℕ) → member v j ≡ altered (member w) k true j
  set-insert-member =
      member-altered w v k (some 0) (λ j. rw (answered-after (set_insert k) w v b s m) (file-lookup (pool_of w) (sound-right w s) k 0 j))

  pub set-insert-answer : b ≡ not (member w k)
  set-insert-answer = answered-answer (set_insert k) w v b s m

module _ (k : ℕ) (w v : List ℕ) (a : Seen) (s : Sound w) (m : Meets (set_contains k) w v (answered a)) where
  pub set-contains-answer : a.present ≡ member w k
  set-contains-answer = ap (λ (b : Seen). b.present) (answered-answer (set_contains k) w v a s m)

  pub set-contains-read : a.read ≡ pages_read k (pool_of w)
  set-contains-read = ap (λ (b : Seen). b.read) (answered-answer (set_contains k) w v a s m)

module _ (k : ℕ) (w v : List ℕ) (a : Found) (s : Sound w) (m : Meets (set_get k) w v (answered a)) where
  -- the set's own key, or none
  pub set-get-answer : a.value ≡ cond (member w k) (some k) none
  set-get-answer = ap (λ (b : Found). b.value) (answered-answer (set_get k) w v a s m)

  pub set-get-read : a.read ≡ pages_read k (pool_of w)
  set-get-read = ap (λ (b : Found). b.read) (answered-answer (set_get k) w v a s m)

module _ (k : ℕ) (w v : List ℕ) (b : Bool) (s : Sound w) (m : Meets (set_remove k) w v (answered b)) where
  pub set-remove-member : (j : ℕ) → member v j ≡ altered (member w) k false j
  set-remove-member =
      member-altered w v k none (λ j. rw (answered-after (set_remove k) w v b s m) (strike-lookup (pool_of w) (sound-right w s) k j))

  pub set-remove-answer : b ≡ member w k
  set-remove-answer = answered-answer (set_remove k) w v b s m

-- ---- make (the source's `new` and `default`) and clear, copy, is-empty

pub make-member : (kind : ℕ) (w v : List ℕ) → Makes kind w v (answered tt) → (k : ℕ) → member v k ≡ false
make-member kind w v m k = rw (member-view v k, make-view kind w v m k)

pub clear-member : (w v : List ℕ) → Clears w v (answered tt) → (k : ℕ) → member v k ≡ false
clear-member w v m k = rw (member-view v k, clear-view w v m k)

pub copy-member : (w old v : List ℕ) → Sound w → Copies w old v (answered tt) → (k : ℕ) → member v k ≡ member w k
copy-member w old v s m k = rw (member-view v k, (copy-view w old v s m).1 k, member-view w k)

pub is-empty-member : (w v : List ℕ) (b : Bool) → Sound w → TellsEmpty w v (answered b) → b ≡ true ↔ ((k : ℕ) → member w k ≡ false)
is-empty-member w v b s m =
    let e = is-empty-view w v b s m in
    (λ y k. rw (member-view w k, e.0 y k), λ f. e.1 (λ k. there-none (view w k) (sym (member-view w k) ∙ f k)))
