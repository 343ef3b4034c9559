-- Each exported function's promise decides it (specs/Decided): any two outcomes agree, from the same words, arguments
-- and `out`. A line for each of the thirty functions of include/moorpontoon.h; the three
-- lists of a map share theirs.
-- Assumes nothing.
use mathlib.Core.Path.{refl}
use mathlib.Core.List.{List, [], ◌∷◌}
use Prim.Native.Nat.{ℕ}
use lib.Dec.{eqb}
use Rattle.model.specs.Layout.{today}
use Rattle.model.specs.Head.{geometry_of, count_word, kind_word}
use Rattle.model.specs.Sound.{Sound}
use Rattle.model.specs.Refusal.{unfit, map_kind, set_kind}
use Rattle.model.specs.Call.{Meets, ReadsPages}
use Rattle.model.specs.PoolCalls.{make_tests, clear_tests, copy_tests, fresh, cursorless, Makes, Clears, Counts, TellsEmpty, Copies}
use Rattle.model.specs.MapCalls.{read_tests, change_tests, map_insert, map_get, map_contains, map_replace, map_remove}
use Rattle.model.specs.SetCalls.{set_insert, set_get, set_contains, set_remove}
use Rattle.model.specs.CursorCalls.{open_tests, cursor_tests, cursor_open_lower, cursor_open_upper, cursor_next, cursor_prev, cursor_peek_next, cursor_peek_prev, cursor_write_next, cursor_write_prev, cursor_insert_after, cursor_remove_next, Closes}
use Rattle.model.specs.Agree.{NearBy}
use Rattle.moorpontoon.specs.Words.{nothing, amount, whether, perhaps, found, seen, stepped}
use Rattle.moorpontoon.specs.Exported.{ChecksOnly}
use Rattle.moorpontoon.specs.Decided.{CalledDecided, ListDecided}
use Rattle.moorpontoon.proofs.Deciding.{meets-decided, pages-decided, exact-decided, check-decided, list-decided, Always, Equal}

-- ---- a pool of either kind: nothing is left open

pub mp-make-decided : (kind : ℕ) → CalledDecided nothing (Makes kind) (make_tests kind) Always Equal
mp-make-decided kind = exact-decided nothing (make_tests kind) (λ w. tt) (fresh today kind)

pub mp-clear-decided : CalledDecided nothing Clears clear_tests Always Equal
mp-clear-decided = exact-decided nothing clear_tests (λ w. tt) (λ w. fresh (geometry_of w) (kind_word w) w)

pub mp-count-decided : CalledDecided amount Counts (λ w. unfit w ∷ []) Always Equal
mp-count-decided = exact-decided amount (λ w. unfit w ∷ []) count_word (λ w. w)

pub mp-is-empty-decided : CalledDecided whether TellsEmpty (λ w. unfit w ∷ []) Always Equal
mp-is-empty-decided = exact-decided whether (λ w. unfit w ∷ []) (λ w. eqb (count_word w) 0) (λ w. w)

pub mp-copy-decided : (source : List ℕ) → CalledDecided nothing (Copies source) (copy_tests source) Always Equal
mp-copy-decided source = exact-decided nothing (copy_tests source) (λ w. tt) (λ w. cursorless source)

pub mp-check-decided : CalledDecided whether ChecksOnly (λ w. []) Always Equal
mp-check-decided = check-decided

-- ---- a map

pub mp-map-insert-decided : (k x : ℕ) → CalledDecided perhaps (Meets (map_insert k x)) (change_tests map_kind) Sound (NearBy (map_insert k x))
mp-map-insert-decided k x = meets-decided perhaps (map_insert k x) (λ p. refl)

pub mp-map-get-decided : (k : ℕ) → CalledDecided found (ReadsPages (map_get k) (λ f. f.read)) (read_tests map_kind) Sound (NearBy (map_get k))
mp-map-get-decided k = pages-decided found (map_get k) (λ p. refl) (λ f. f.read)

pub mp-map-contains-decided : (k : ℕ) → CalledDecided seen (ReadsPages (map_contains k) (λ f. f.read)) (read_tests map_kind) Sound (NearBy (map_contains k))
mp-map-contains-decided k = pages-decided seen (map_contains k) (λ p. refl) (λ f. f.read)

pub mp-map-replace-decided : (k x : ℕ) → CalledDecided perhaps (Meets (map_replace k x)) (change_tests map_kind) Sound (NearBy (map_replace k x))
mp-map-replace-decided k x = meets-decided perhaps (map_replace k x) (λ p. refl)

pub mp-map-remove-decided : (k : ℕ) → CalledDecided perhaps (Meets (map_remove k)) (change_tests map_kind) Sound (NearBy (map_remove k))
mp-map-remove-decided k = meets-decided perhaps (map_remove k) (λ p. refl)

-- entries, keys or values: one promise, with the columns that are lent
pub mp-map-list-decided : ListDecided map_kind
mp-map-list-decided = list-decided map_kind

-- ---- a set

pub mp-set-insert-decided : (k : ℕ) → CalledDecided whether (Meets (set_insert k)) (change_tests set_kind) Sound (NearBy (set_insert k))
mp-set-insert-decided k = meets-decided whether (set_insert k) (λ p. refl)

pub mp-set-get-decided : (k : ℕ) → CalledDecided found (ReadsPages (set_get k) (λ f. f.read)) (read_tests set_kind) Sound (NearBy (set_get k))
mp-set-get-decided k = pages-decided found (set_get k) (λ p. refl) (λ f. f.read)

pub mp-set-contains-decided : (k : ℕ) → CalledDecided seen (ReadsPages (set_contains k) (λ f. f.read)) (read_tests set_kind) Sound (NearBy (set_contains k))
mp-set-contains-decided k = pages-decided seen (set_contains k) (λ p. refl) (λ f. f.read)

pub mp-set-remove-decided : (k : ℕ) → CalledDecided whether (Meets (set_remove k)) (change_tests set_kind) Sound (NearBy (set_remove k))
mp-set-remove-decided k = meets-decided whether (set_remove k) (λ p. refl)

pub mp-set-list-decided : ListDecided set_kind
mp-set-list-decided = list-decided set_kind

-- ---- the cursor

pub mp-cursor-open-lower-decided : (kind k : ℕ) → CalledDecided amount (ReadsPages (cursor_open_lower kind k) (λ n. n)) (open_tests kind) Sound (NearBy (cursor_open_lower kind k))
mp-cursor-open-lower-decided kind k = pages-decided amount (cursor_open_lower kind k) (λ p. refl) (λ n. n)

pub mp-cursor-open-upper-decided : (kind k : ℕ) → CalledDecided amount (ReadsPages (cursor_open_upper kind k) (λ n. n)) (open_tests kind) Sound (NearBy (cursor_open_upper kind k))
mp-cursor-open-upper-decided kind k = pages-decided amount (cursor_open_upper kind k) (λ p. refl) (λ n. n)

pub mp-cursor-next-decided : CalledDecided stepped (Meets cursor_next) cursor_tests Sound (NearBy cursor_next)
mp-cursor-next-decided = meets-decided stepped cursor_next (λ p. refl)

pub mp-cursor-prev-decided : CalledDecided stepped (Meets cursor_prev) cursor_tests Sound (NearBy cursor_prev)
mp-cursor-prev-decided = meets-decided stepped cursor_prev (λ p. refl)

pub mp-cursor-peek-next-decided : CalledDecided stepped (Meets cursor_peek_next) cursor_tests Sound (NearBy cursor_peek_next)
mp-cursor-peek-next-decided = meets-decided stepped cursor_peek_next (λ p. refl)

pub mp-cursor-peek-prev-decided : CalledDecided stepped (Meets cursor_peek_prev) cursor_tests Sound (NearBy cursor_peek_prev)
mp-cursor-peek-prev-decided = meets-decided stepped cursor_peek_prev (λ p. refl)

pub mp-cursor-write-next-decided : (x : ℕ) → CalledDecided perhaps (Meets (cursor_write_next x)) cursor_tests Sound (NearBy (cursor_write_next x))
mp-cursor-write-next-decided x = meets-decided perhaps (cursor_write_next x) (λ p. refl)

pub mp-cursor-write-prev-decided : (x : ℕ) → CalledDecided perhaps (Meets (cursor_write_prev x)) cursor_tests Sound (NearBy (cursor_write_prev x))
mp-cursor-write-prev-decided x = meets-decided perhaps (cursor_write_prev x) (λ p. refl)

pub mp-cursor-insert-after-decided : (k x : ℕ) → CalledDecided nothing (Meets (cursor_insert_after k x)) cursor_tests Sound (NearBy (cursor_insert_after k x))
mp-cursor-insert-after-decided k x = meets-decided nothing (cursor_insert_after k x) (λ p. refl)

pub mp-cursor-remove-next-decided : CalledDecided stepped (Meets cursor_remove_next) cursor_tests Sound (NearBy cursor_remove_next)
mp-cursor-remove-next-decided = meets-decided stepped cursor_remove_next (λ p. refl)

pub mp-cursor-close-decided : CalledDecided nothing Closes cursor_tests Always Equal
mp-cursor-close-decided = exact-decided nothing cursor_tests (λ w. tt) cursorless
