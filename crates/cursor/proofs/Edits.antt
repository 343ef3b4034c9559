-- Insert after, remove next and close: what a way out of the call answers meets the call's promise. In a sound pool the
-- gap's path is the one that insertion and removal ask for, and the entry read after the gap is the one that goes; on
-- any other words a refusal has changed no word. (Where the search of the gap fails: `meets-unsound`.)
-- Assumes nothing.
use mathlib.Core.Path.{◌≡◌, refl, sym, ap, ◌∙◌}
use mathlib.Core.Bool.{true, false}
use mathlib.Core.Logic.{inr}
use mathlib.Core.Option.{none, some}
use mathlib.Core.List.{List, [], ◌∷◌, ◌++◌}
use Prim.Native.Nat.{ℕ, zero, suc, ◌+◌, ◌≤◌}
use native.Mathlib.Omega.{arith}
use lib.ListN.{length, take, drop, set}
use Rattle.std.specs.Prelude.{Ok, Err, Some, None, Option, Result, ⊤}
use Rattle.tree.specs.declared.steps.Spot.{Spot}
use Rattle.model.specs.Tree.{entry}
use Rattle.model.specs.Page.{entry_in}
use Rattle.model.specs.Entries.{key_fits}
use Rattle.model.specs.Pool.{held_by, pool_of, gap_by}
use Rattle.model.specs.Sound.{Sound}
use Rattle.model.specs.Refusal.{refusal}
use Rattle.model.specs.Call.{refused, answered, Meets}
use Rattle.model.specs.PoolCalls.{cursorless}
use Rattle.model.specs.MapCalls.{crowded}
use Rattle.model.specs.CursorCalls.{missing, cursor_tests, cursor_insert_after, cursor_remove_next}
use Rattle.lend.specs.Pages.{most, page_in}
use Rattle.tree.specs.Insert.{Inserts, inserted_by, full}
use Rattle.tree.specs.Remove.{Removes}
use Rattle.cursor.specs.Gap.{gap_words}
use Rattle.cursor.specs.Ahead.{SeeksAhead, fits_at}
use Rattle.model.proofs.Cases.{either, contrary, never}
use Rattle.model.proofs.Right.{sound-right}
use Rattle.model.proofs.Keeps.{keeps-insert-after, keeps-remove-next}
use Rattle.model.proofs.Written.{sound-written}
use Rattle.model.proofs.Meets.{meets-answered, meets-stopped, meets-unsound}
use Rattle.cursor.proofs.Nexts.{Next, ahead-entry, ahead-end, ahead-fits}
use Rattle.tree.specs.Steps.{spot}
use Rattle.tree.specs.declared.insert.Full.{Full}
use Rattle.tree.specs.Search.{unsound}
use Rattle.page.specs.declared.Unsound.{Unsound}

-- ---- insert after

module _ (k v : ℕ) {w ps ss ps' ss' : List ℕ} {at : Option Spot} (pass : 0 ≡ refusal (cursor_tests w)) (seeks : SeeksAhead w ps ss ps' ss' (Ok at)) where
  pub put-misplaced : fits_at w at k ≡ false → Meets (cursor_insert_after k v) w w (refused 6)
  put-misplaced misfit =
      meets-stopped (λ w p. (refl, refl)) (keeps-insert-after k v) pass 5 refl (inr refl) (λ s. rw (sym (ahead-fits seeks.finds s k) ∙ misfit))

  module _ (fit : fits_at w at k ≡ true) {w' : List ℕ} {x : Result ⊤ Full} (puts : Inserts w ps' ss' (entry k v) w' x) where
    fits : Sound w → key_fits k (gap_by (pool_of w)) (held_by (pool_of w)) ≡ true
    fits s = sym (ahead-fits seeks.finds s k) ∙ fit

    answers : Sound w → x ≡ inserted_by (crowded (gap_by (pool_of w)) (pool_of w))
    answers s = puts.exact (gap_by (pool_of w)) s (sound-right w s).within (seeks.path s)

    pub put-done : x ≡ Ok tt → Meets (cursor_insert_after k v) w w' (answered tt)
    put-done done =
        meets-answered (λ w p. (refl, refl)) (keeps-insert-after k v) pass puts.long
        (λ s.
        let g = gap_by (pool_of w) in
        let room = either (crowded g (pool_of w)) (λ y. never (cc (answers s, ap inserted_by y))) (λ n. n) in
        record {
          passes = rw (fits s, room);
          answers = refl;
          holds = puts.holds g s (sound-right w s).within (seeks.path s) (omega arith) room;
          still = λ z. contrary z refl;
        })

    pub put_full : x ≡ full → Meets (cursor_insert_after k v) w w' (refused 7)
    put_full full =
        meets-stopped (λ w p. (refl, refl)) (keeps-insert-after k v) pass 6 (puts.kept full) (inr refl)
        (λ s.
        let crowd = either (crowded (gap_by (pool_of w)) (pool_of w)) (λ y. y) (λ n. never (cc (answers s, ap inserted_by n))) in
        rw (fits s, crowd))

-- ---- remove next

module _ {w ps ss ps' ss' : List ℕ} {at : Option Spot} (pass : 0 ≡ refusal (cursor_tests w)) (seeks : SeeksAhead w ps ss ps' ss' (Ok at)) where
  pub take-end : at ≡ None → Meets cursor_remove_next w w (answered none)
  take-end e =
      meets-answered (λ w p. (refl, refl)) keeps-remove-next pass refl
      (λ s. let n = ahead-end seeks.finds s e in record { passes = refl; answers = sym n; holds = rw n (sound-written w s); still = λ z. refl })

  module _ {p i : ℕ} (e : at ≡ Some (spot p i)) {w' : List ℕ} {x : Result ⊤ Unsound} (removes : Removes w ps' ss' w' x) where
    next : Sound w → Next w p i
    next s = ahead-entry seeks.finds s e

    pub take_done : {key value : ℕ} → entry key value ≡ entry_in most (page_in w p) i → x ≡ Ok tt → Meets cursor_remove_next w w' (answered (some (entry key value)))
    take_done read done =
        meets-answered (λ w p. (refl, refl)) keeps-remove-next pass removes.long
        (λ s.
        let n = next s in
        record {
          passes = refl;
          answers = ap some read ∙ sym n.next;
          holds = rw n.next (removes.holds (gap_by (pool_of w)) s n.there (seeks.path s) (omega arith));
          still = λ z. contrary z (ap missing n.next);
        })

    pub take-lost : x ≡ Err unsound → Meets cursor_remove_next w w' (refused 9)
    take-lost lost =
        meets-unsound (λ w p. (refl, refl)) keeps-remove-next pass
        (removes.kept lost, λ s. never (cc (removes.sound (gap_by (pool_of w)) s (next s).there (seeks.path s))))

-- ---- close: words 5 to 7 become 0, one after the other

cleared : (n : ℕ) (w : List ℕ) → n + 3 ≤ length w
    → set (set (set w n 0) (suc n) 0) (suc (suc n)) 0 ≡ take n w ++ (0 ∷ 0 ∷ 0 ∷ drop (suc (suc (suc n))) w)
cleared n [] long = absurd (omega arith)
cleared zero (x ∷ []) long = absurd (omega arith)
cleared zero (x ∷ y ∷ []) long = absurd (omega arith)
cleared zero (x ∷ y ∷ z ∷ w) long = refl
cleared (suc n) (x ∷ w) long = ap (λ (l : List ℕ). x ∷ l) (cleared n w (omega arith))

pub gap-cleared : (w : List ℕ) → 8 ≤ length w → gap_words 0 0 0 w ≡ cursorless w
unfolding cursorless
gap-cleared w long = cleared 5 w (omega arith)
