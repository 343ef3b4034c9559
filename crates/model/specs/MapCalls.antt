-- Document 01, "The calls", map: insert, get, contains, replace, remove. (Its lists: ListCalls.)
-- The set's calls are the same ones on entries with value 0 (SetCalls).
-- Assumes nothing: these are definitions.
use Rattle.std.specs.Prelude.{Bool, cond, false, not, List, [], ◌∷◌, ℕ, ltb, length}
use Rattle.std.proofs.Math.Option.{Option}
use Rattle.model.specs.Tree.{Entry, entry}
use Rattle.model.specs.Entries.{has, lookup, gap_before}
use Rattle.model.specs.Search.{search_path, Found, Seen}
use Rattle.model.specs.Insert.{insert, needed}
use Rattle.model.specs.Remove.{remove}
use Rattle.model.specs.Write.{write}
use Rattle.model.specs.Pool.{Pool, least_by, held_by, room, fresh_of, with_whole}
use Rattle.model.specs.Refusal.{Test, ◌when◌, map_kind, unfit, other_kind, while_open}
use Rattle.model.specs.Call.{Call, reads}

-- ---- shared with the set

-- refusals of a call that reads, and of one that changes; `kind` is the kind that it is for
abbrev pub read_tests : ℕ → List ℕ → List Test
read_tests kind w = unfit w ∷ other_kind kind w ∷ []

abbrev pub change_tests : ℕ → List ℕ → List Test
change_tests kind w = unfit w ∷ other_kind kind w ∷ while_open w ∷ []

-- entry e put at gap g; and whether the pages it needs are more than are free
abbrev pub put_at : ℕ → Entry → Pool → Pool
put_at g e p = with_whole p (insert (least_by p) (fresh_of p) p.whole g e)

abbrev pub crowded : ℕ → Pool → Bool
crowded g p = ltb (room p) (needed (least_by p) p.whole g)

-- an entry filed: over the one that has its key, or put at the key's gap
unfoldable pub file : Entry → Pool → Pool
file e p =
    let g = gap_before e.key (held_by p) in
    cond (has e.key (held_by p)) (with_whole p (write p.whole g e)) (put_at g e p)

-- a key present needs no page
unfoldable pub no_room : ℕ → Pool → Bool
no_room k p = cond (has k (held_by p)) false (crowded (gap_before k (held_by p)) p)

unfoldable pub strike : ℕ → Pool → Pool
strike k p = cond (has k (held_by p)) (with_whole p (remove (least_by p) p.whole (gap_before k (held_by p)))) p

-- the pages read in the search for a key: the length of its search path
unfoldable pub pages_read : ℕ → Pool → ℕ
pages_read k p = length (search_path k p.whole.levels p.whole.tree)

-- ---- the calls

abbrev pub map_insert : ℕ → ℕ → Call (Option ℕ)
map_insert k v = record {
  early = change_tests map_kind;
  late = λ p. 7 when no_room k p ∷ [];
  answer = λ p. lookup k (held_by p);
  after = file (entry k v);
  still = λ p. false;
}

abbrev pub map_get : ℕ → Call Found
map_get k = reads (read_tests map_kind) (λ p. record { value = lookup k (held_by p); read = pages_read k p })

abbrev pub map_contains : ℕ → Call Seen
map_contains k = reads (read_tests map_kind) (λ p. record { present = has k (held_by p); read = pages_read k p })

abbrev pub map_replace : ℕ → ℕ → Call (Option ℕ)
map_replace k v = record {
  early = change_tests map_kind;
  late = λ p. [];
  answer = λ p. lookup k (held_by p);
  after = λ p. cond (has k (held_by p)) (file (entry k v) p) p;
  still = λ p. not (has k (held_by p));
}

abbrev pub map_remove : ℕ → Call (Option ℕ)
map_remove k = record {
  early = change_tests map_kind;
  late = λ p. [];
  answer = λ p. lookup k (held_by p);
  after = strike k;
  still = λ p. not (has k (held_by p));
}
