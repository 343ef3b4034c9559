-- The calls over the entry after the gap: what an arm of next, peek next and write next answers meets the call's
-- promise. With no such entry the gap is at the end, and no word changes.
-- Assumes nothing.
use mathlib.Core.Path.{◌≡◌, refl, sym, ap, ◌∙◌}
use mathlib.Core.Option.{Option, none, some}
use mathlib.Core.List.{List}
use Prim.Native.Nat.{ℕ, suc}
use lib.ListN.{length-set, get_or}
use Rattle.std.specs.Prelude as std
use Rattle.std.specs.Prelude.{Ok, Some, None}
use Rattle.tree.specs.declared.steps.Spot.{Spot}
use Rattle.model.specs.Tree.{Entry, entry, no_entry}
use Rattle.model.specs.Page.{entry_in}
use Rattle.model.specs.Entries.{gap}
use Rattle.model.specs.Pool.{held_by, pool_of, gap_by}
use Rattle.model.specs.Sound.{Sound}
use Rattle.model.specs.Refusal.{refusal}
use Rattle.model.specs.Call.{answered, Meets}
use Rattle.model.specs.CursorCalls.{cursor_tests, next_of, missing, cursor_next, cursor_peek_next, cursor_write_next}
use Rattle.lend.specs.Pages.{most, page_in}
use Rattle.tree.specs.Write.{Writes}
use Rattle.cursor.specs.Ahead.{FindsAhead}
use Rattle.cursor.specs.Gap.{gap_words}
use Rattle.model.proofs.Cases.{contrary}
use Rattle.model.proofs.Basics.{next-some}
use Rattle.model.proofs.Keeps.{keeps-next, keeps-write-next}
use Rattle.model.proofs.Meets.{meets-answered, meets-read}
use Rattle.model.proofs.Written.{sound-written}
use Rattle.cursor.proofs.Gaps.{passes-cursor, gap_same, gap-written}
use Rattle.cursor.proofs.Nexts.{Next, ahead-entry, ahead-end}
use Rattle.tree.specs.Steps.{spot}

next-held : {w : List ℕ} {p s : ℕ} → Next w p s → next_of (pool_of w) ≡ some (get_or (held_by (pool_of w)) (gap_by (pool_of w)) no_entry)
next-held {w} n = next-some (held_by (pool_of w)) (gap_by (pool_of w)) no_entry n.there

module _ {w : List ℕ} {x : std.Option Spot} (pass : 0 ≡ refusal (cursor_tests w)) (finds : FindsAhead w (Ok x)) where
  -- ---- next

  pub next-over : {u : List ℕ} {p s key v : ℕ} → x ≡ Some (spot p s) → entry key v ≡ entry_in most (page_in w p) s → u ≡ gap_words 1 1 key w
      → Meets cursor_next w u (answered (some (entry key v)))
  next-over {key = key} e read laid =
      meets-answered (λ w p. (refl, refl)) keeps-next pass (rw laid (simp length-set))
      (λ sound.
      let n = ahead-entry finds sound e in
      let P = pool_of w in
      let named : key ≡ (get_or (held_by P) (gap_by P) no_entry).key = ap (λ (x : Entry). x.key) (read ∙ n.entry) in
      record {
        passes = refl;
        answers = ap some read ∙ sym n.next;
        holds = rw (laid, next-held n, named) (gap-written w P (gap (suc (gap_by P))) (sound-written w sound));
        still = λ z. contrary z (ap missing n.next);
      })

  pub next-end : x ≡ None → Meets cursor_next w w (answered none)
  next-end e =
      meets-answered (λ w p. (refl, refl)) keeps-next pass refl
      (λ sound.
      let end = ahead-end finds sound e in
      record {
        passes = refl;
        answers = sym end;
        holds = rw (end, gap_same w (passes-cursor w (sym pass)).opened) (sound-written w sound);
        still = λ z. refl;
      })

  -- ---- peek next

  peek-answered : {a : Option Entry} → (Sound w → a ≡ next_of (pool_of w)) → Meets cursor_peek_next w w (answered a)
  peek-answered exact = meets-read cursor_tests next_of (λ w p. (refl, refl)) pass exact

  pub peek-over : {p s key v : ℕ} → x ≡ Some (spot p s) → entry key v ≡ entry_in most (page_in w p) s → Meets cursor_peek_next w w (answered (some (entry key v)))
  peek-over e read = peek-answered (λ sound. ap some read ∙ sym (ahead-entry finds sound e).next)

  pub peek-end : x ≡ None → Meets cursor_peek_next w w (answered none)
  peek-end e = peek-answered (λ sound. sym (ahead-end finds sound e))

  -- ---- write next

  pub write-over : {u : List ℕ} {p s v old : ℕ} → x ≡ Some (spot p s) → Writes p s v w u old → Meets (cursor_write_next v) w u (answered (some old))
  write-over {v = v} e writes =
      meets-answered (λ w p. (refl, refl)) (keeps-write-next v) pass writes.only.long
      (λ sound.
      let n = ahead-entry finds sound e in
      let g = gap_by (pool_of w) in
      record {
        passes = refl;
        answers = rw (next-held n) (ap some (writes.before g sound n.there n.spot));
        holds = rw (next-held n) (writes.holds g sound n.there n.spot);
        still = λ z. contrary z (ap missing n.next);
      })

  pub write-end : (v : ℕ) → x ≡ None → Meets (cursor_write_next v) w w (answered none)
  write-end v e =
      meets-answered (λ w p. (refl, refl)) (keeps-write-next v) pass refl
      (λ sound. let end = ahead-end finds sound e in record { passes = refl; answers = rw end; holds = rw end (sound-written w sound); still = λ z. refl })
