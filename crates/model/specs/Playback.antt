-- Playback, which document 01 names and gives no rules: nexts, one after the other, into lent slices. It writes the
-- entries after the gap, the lesser of their number and the shortest slice, and the gap goes over them. Where the first
-- next is refused nothing is written and no word is changed.
-- Assumes nothing: these are definitions.
use Rattle.std.specs.Prelude.{◌≡◌, List, [], map, ℕ, suc, ◌+◌, length, take, drop}
use Rattle.model.specs.Basics.{All}
use Rattle.model.specs.Tree.{Entry}
use Rattle.model.specs.Entries.{gap}
use Rattle.model.specs.Pool.{Pool, held_by, pool_of, gap_by, with_cursor}
use Rattle.model.specs.Sound.{Sound}
use Rattle.model.specs.Refusal.{refusal}
use Rattle.model.specs.Call.{Outcome, refused, answered}
use Rattle.model.specs.ListCalls.{Column, shortest, fronted}
use Rattle.model.specs.CursorCalls.{cursor_tests}

abbrev pub played : List Column → Pool → List Entry
played cs p = take (shortest cs) (drop (gap_by p) (held_by p))

-- r is what the caller is given: how many entries were written
pub record Plays (w v : List ℕ) (cs : List Column) (r : Outcome ℕ) : Type 0 where
  pub long : (length v ≡ length w) × All (λ c. length c.after ≡ length c.before) cs
  -- on any words
  pub early : (n : ℕ) → refusal (cursor_tests w) ≡ suc n → r ≡ refused (suc n)
  pub late : (n : ℕ) → refusal (cursor_tests w) ≡ 0 → r ≡ refused n → n ≡ 9
  pub kept : (n : ℕ) → r ≡ refused n → (v ≡ w) × All (λ c. c.after ≡ c.before) cs
  -- on a sound pool
  pub sound : Sound w → Sound v
  pub exact : Sound w → refusal (cursor_tests w) ≡ 0 → r ≡ answered (length (played cs (pool_of w)))
  pub writes : Sound w → refusal (cursor_tests w) ≡ 0 → All (λ c. c.after ≡ fronted (map c.part (played cs (pool_of w))) c.before) cs
  pub holds : Sound w → refusal (cursor_tests w) ≡ 0 → pool_of v ≡ with_cursor (pool_of w) (gap (gap_by (pool_of w) + length (played cs (pool_of w))))
  pub still : Sound w → refusal (cursor_tests w) ≡ 0 → played cs (pool_of w) ≡ [] → v ≡ w
