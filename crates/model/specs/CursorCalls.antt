-- Document 01, "The calls", cursor, on a map: open at lower bound, open at upper bound, next, prev, peek next, peek
-- prev, write next, write prev, insert after, remove next, close. The gap is a place number; both ends of the list have
-- the answer `none`, and nothing changes.
-- Assumes nothing: these are definitions.
use Rattle.std.specs.Prelude.{not, Bool, false, true, List, [], ◌∷◌, ℕ, pred}
use Rattle.std.proofs.Math.Option.{Option, none, some}
use Rattle.model.specs.Tree.{Entry, entry}
use Rattle.model.specs.Bound.{Bound, included, excluded, unbounded, bound_of, before_lower, before_upper}
use Rattle.model.specs.Entries.{gap_of, gap, next, prev, key_fits, forth, back, value_of}
use Rattle.model.specs.Remove.{remove}
use Rattle.model.specs.Write.{write}
use Rattle.model.specs.Pool.{Pool, least_by, held_by, gap_by, with_whole, with_cursor}
use Rattle.model.specs.Refusal.{Test, ◌when◌, map_kind, unfit, other_kind, bad_bound, no_bound, while_open, while_closed}
use Rattle.model.specs.Call.{Call, Outcome, Exact, reads}
use Rattle.model.specs.PoolCalls.{cursorless}
use Rattle.model.specs.MapCalls.{put_at, crowded}

abbrev pub open_tests : ℕ → List ℕ → List Test
open_tests kind w = unfit w ∷ other_kind map_kind w ∷ bad_bound (no_bound kind) ∷ while_open w ∷ []

abbrev pub cursor_tests : List ℕ → List Test
cursor_tests w = unfit w ∷ other_kind map_kind w ∷ while_closed w ∷ []

-- the entry after the gap, and the one before it
abbrev pub next_of : Pool → Option Entry
next_of p = next (gap_by p) (held_by p)

abbrev pub prev_of : Pool → Option Entry
prev_of p = prev (gap_by p) (held_by p)

-- whether there is none
abbrev pub missing : Option Entry → Bool
missing none = true
missing (some e) = false

-- the value v in the place of that of entry g, where there is one
abbrev pub rewrite : Option Entry → ℕ → ℕ → Pool → Pool
rewrite none g v p = p
rewrite (some e) g v p = with_whole p (write p.whole g (entry e.key v))

abbrev pub strike_next : Option Entry → Pool → Pool
strike_next none p = p
strike_next (some e) p = with_whole p (remove (least_by p) p.whole (gap_by p))

-- a call on the entry beside the gap, where there is one; where there is none that is the answer, and nothing changes
abbrev pub beside : {A : Type 0} → (Pool → Option Entry) → (Option Entry → A) → (Option Entry → Pool → Pool) → Call A
beside side answer after = record {
  early = cursor_tests;
  late = λ p. [];
  answer = λ p. answer (side p);
  after = λ p. after (side p) p;
  still = λ p. missing (side p);
}

-- ---- the calls

-- at the gap behind the entries that come `before`, with so many pages read of so many levels
abbrev pub opens : ℕ → (ℕ → Bool) → (ℕ → ℕ) → Call ℕ
opens kind before read = record {
  early = open_tests kind;
  late = λ p. [];
  answer = λ p. read p.whole.levels;
  after = λ p. with_cursor p (gap (gap_of before (held_by p)));
  still = λ p. false;
}

-- opening reads all levels, except that lower Unbounded reads none
abbrev pub lower_read : Bound → ℕ → ℕ
lower_read (included k) levels = levels
lower_read (excluded k) levels = levels
lower_read unbounded levels = 0

abbrev pub cursor_open_lower : ℕ → ℕ → Call ℕ
cursor_open_lower kind k = opens kind (before_lower (bound_of kind k)) (lower_read (bound_of kind k))

abbrev pub cursor_open_upper : ℕ → ℕ → Call ℕ
cursor_open_upper kind k = opens kind (before_upper (bound_of kind k)) (λ levels. levels)

abbrev pub cursor_next : Call (Option Entry)
cursor_next = beside next_of (λ e. e) (λ e p. with_cursor p (gap (forth e (gap_by p))))

abbrev pub cursor_prev : Call (Option Entry)
cursor_prev = beside prev_of (λ e. e) (λ e p. with_cursor p (gap (back e (gap_by p))))

abbrev pub cursor_peek_next : Call (Option Entry)
cursor_peek_next = reads cursor_tests next_of

abbrev pub cursor_peek_prev : Call (Option Entry)
cursor_peek_prev = reads cursor_tests prev_of

abbrev pub cursor_write_next : ℕ → Call (Option ℕ)
cursor_write_next v = beside next_of value_of (λ e p. rewrite e (gap_by p) v p)

abbrev pub cursor_write_prev : ℕ → Call (Option ℕ)
cursor_write_prev v = beside prev_of value_of (λ e p. rewrite e (pred (gap_by p)) v p)

abbrev pub cursor_insert_after : ℕ → ℕ → Call (Unit {0})
cursor_insert_after k v = record {
  early = cursor_tests;
  late = λ p. 6 when not (key_fits k (gap_by p) (held_by p)) ∷ 7 when crowded (gap_by p) p ∷ [];
  answer = λ p. tt;
  after = λ p. put_at (gap_by p) (entry k v) p;
  still = λ p. false;
}

abbrev pub cursor_remove_next : Call (Option Entry)
cursor_remove_next = beside next_of (λ e. e) strike_next

-- close looks at the head alone, so it is exact on any words
abbrev pub Closes : (before after : List ℕ) → Outcome (Unit {0}) → Type 0
Closes w = Exact (cursor_tests w) tt w (cursorless w)
