-- Document 01, "The calls", set: insert, get, contains, remove. A set is a map whose values are 0. (Its list:
-- ListCalls.)
-- Assumes nothing: these are definitions.
use Rattle.std.specs.Prelude.{Bool, not, cond, [], ◌∷◌, ℕ}
use Rattle.std.proofs.Math.Option.{none, some}
use Rattle.model.specs.Tree.{entry}
use Rattle.model.specs.Entries.{has}
use Rattle.model.specs.Search.{Found, Seen}
use Rattle.model.specs.Pool.{held_by}
use Rattle.model.specs.Refusal.{◌when◌, set_kind}
use Rattle.model.specs.Call.{Call, reads}
use Rattle.model.specs.MapCalls.{read_tests, change_tests, file, no_room, strike, pages_read}

-- whether the key is new
abbrev pub set_insert : ℕ → Call Bool
set_insert k = record {
  early = change_tests set_kind;
  late = λ p. 7 when no_room k p ∷ [];
  answer = λ p. not (has k (held_by p));
  after = file (entry k 0);
  still = λ p. has k (held_by p);
}

-- the key itself
abbrev pub set_get : ℕ → Call Found
set_get k = reads (read_tests set_kind) (λ p. record { value = cond (has k (held_by p)) (some k) none; read = pages_read k p })

abbrev pub set_contains : ℕ → Call Seen
set_contains k = reads (read_tests set_kind) (λ p. record { present = has k (held_by p); read = pages_read k p })

abbrev pub set_remove : ℕ → Call Bool
set_remove k = record {
  early = change_tests set_kind;
  late = λ p. [];
  answer = λ p. has k (held_by p);
  after = strike k;
  still = λ p. not (has k (held_by p));
}
