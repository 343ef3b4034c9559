-- The entry before the gap, in a sound pool: where word 6 is 0 there is none, else it is the one whose key word 7
-- names. So a search for that key finds it, and the gap before that key is where the gap goes back to. What each call
-- answers there meets its promise.
-- Assumes nothing.
use mathlib.Core.Path.{◌≡◌, refl, sym, ap, ap₂, subst, ◌∙◌}
use mathlib.Core.Option.{Option, none, some}
use mathlib.Core.List.{List}
use Prim.Native.Nat.{ℕ}
use native.Mathlib.Omega.{arith}
use lib.ListN.{length, get_or}
use Rattle.std.specs.Prelude as std
use Rattle.std.specs.Prelude.{Ok, Some, None, Result}
use Rattle.page.specs.declared.Unsound.{Unsound}
use Rattle.model.specs.Head.{levels_word, after_word}
use Rattle.model.specs.Tree.{entry, no_entry, held}
use Rattle.model.specs.Page.{entry_in}
use Rattle.model.specs.Pool.{held_by, pool_of}
use Rattle.model.specs.Sound.{Sound}
use Rattle.model.specs.Refusal.{refusal}
use Rattle.model.specs.Call.{refused, answered, Meets}
use Rattle.model.specs.MapCalls.{file}
use Rattle.model.specs.CursorCalls.{cursor_tests, prev_of, cursor_prev, cursor_peek_prev, cursor_write_prev}
use Rattle.model.specs.Source.{view}
use Rattle.lend.specs.Pages.{most, page_in}
use Rattle.tree.specs.declared.search.Found as search
use Rattle.tree.specs.declared.steps.Spot.{Spot}
use Rattle.tree.specs.Sits.{PathOf}
use Rattle.tree.specs.Search.{Gets, ReadFew, got_by}
use Rattle.tree.specs.Steps.{SpotBefore, spot}
use Rattle.tree.specs.Write.{Writes}
use Rattle.map.specs.Entry.{Finds, SeeksKey}
use Rattle.cursor.specs.Gap.{named_key, rest_words}
use Rattle.model.proofs.Cases.{contrary, never}
use Rattle.model.proofs.Basics.{next-some}
use Rattle.model.proofs.Entries.{lookup-at}
use Rattle.model.proofs.Right.{sound-right}
use Rattle.model.proofs.Written.{sound-written}
use Rattle.model.proofs.Keeps.{keeps-reads, keeps-prev, keeps-write-prev}
use Rattle.model.proofs.Meets.{meets-answered, meets-unsound, meets-read}
use Rattle.tree.proofs.Sitting.{sound-sits}
use Rattle.map.proofs.Placing.{spot-value}
use Rattle.map.proofs.Calling.{overwritten, gets-value}
use Rattle.cursor.proofs.Gaps.{Ready, passes-cursor, named-none, named-some, Named, gap-start, gap-named, gap_same, rest-long, rest-written}

-- ---- the entry before the gap

module _ (w : List ℕ) (s : Sound w) where
  prev-none : after_word w ≡ 0 → prev_of (pool_of w) ≡ none
  prev-none z = rw (gap-start w s z)

  module _ {k g : ℕ} (n : Named w k g) where
    named_value : view w k ≡ some (get_or (held_by (pool_of w)) g no_entry).value
    named_value = lookup-at k (held_by (pool_of w)) (sound-right w s).rising ∙ rw (n.member, n.before)

    prev-some : {x : ℕ} → view w k ≡ some x → prev_of (pool_of w) ≡ some (entry k x)
    prev-some {x} v =
        let value : (get_or (held_by (pool_of w)) g no_entry).value ≡ x = cc named_value in
        rw n.at (next-some (held_by (pool_of w)) g no_entry n.there ∙ ap some (ap₂ entry n.key value))

-- a search for a key that is there finds a value
got-there : (o : Option ℕ) (n : ℕ) {x : ℕ} → o ≡ some x → Ok None ≡ got_by 0 o n → ⊥
got-there (some v) n value e = never (cc)
got-there none n value e = never (cc)

-- ---- the calls, past their first tests

module _ {w : List ℕ} (pass : 0 ≡ refusal (cursor_tests w)) where
  ready : Ready w
  ready = passes-cursor w (sym pass)

  -- with the gap at the start
  module _ (start : None ≡ named_key w) where
    pub prev-end : Meets cursor_prev w w (answered none)
    prev-end =
        meets-answered (λ w p. (refl, refl)) keeps-prev pass refl
        (λ s.
        let empty = prev-none w s (named-none w start) in
        record { passes = refl; answers = sym empty; holds = rw (empty, gap_same w ready.opened) (sound-written w s); still = λ z. refl })

    pub peek-prev-end : Meets cursor_peek_prev w w (answered none)
    peek-prev-end = meets-read cursor_tests prev_of (λ w p. (refl, refl)) pass (λ s. sym (prev-none w s (named-none w start)))

    pub write-prev-end : (x : ℕ) → Meets (cursor_write_prev x) w w (answered none)
    write-prev-end x =
        meets-answered (λ w p. (refl, refl)) (keeps-write-prev x) pass refl
        (λ s.
        let empty = prev-none w s (named-none w start) in
        record { passes = refl; answers = rw empty; holds = rw empty (sound-written w s); still = λ z. refl })

  -- with the gap after an entry
  module _ {k : ℕ} (after : Some k ≡ named_key w) where
    named : Sound w → (g : ℕ) × Named w k g
    named s = let (one, key) = named-some w ready.fits after in rw key (gap-named w s ready.opened one)

    -- a search for its key finds it
    found-there : Finds w k (Ok None) → Sound w → ⊥
    found-there finds s = contrary (named s).1.member (finds.absent refl s)

    module _ {at : std.Option Spot} (finds : Finds w k (Ok at)) (past : at ≡ None) where
      lost : Sound w → ⊥
      lost = found-there (rw past at finds)

      pub prev-lost : Meets cursor_prev w w (refused 9)
      prev-lost = meets-unsound (λ w p. (refl, refl)) keeps-prev pass (refl, lost)

      pub write-prev-lost : (x : ℕ) → Meets (cursor_write_prev x) w w (refused 9)
      write-prev-lost x = meets-unsound (λ w p. (refl, refl)) (keeps-write-prev x) pass (refl, lost)

    pub peek-prev-lost : {r : Result (std.Option search.Found) Unsound} → Gets w k r → r ≡ Ok None → Meets cursor_peek_prev w w (refused 9)
    peek-prev-lost gets lost =
        meets-unsound (λ w p. (refl, refl)) (keeps-reads cursor_tests prev_of) pass (refl, λ s. got-there _ _ (named_value w s (named s).1) (sym lost ∙ gets s))

    pub prev-back : {ps ss ps' ss' v : List ℕ} {at : std.Option Spot} {p i key x : ℕ} {behind : std.Option Spot}
        → SeeksKey w k ps ss ps' ss' (Ok at) → at ≡ Some (spot p i) → entry key x ≡ entry_in most (page_in w p) i → SpotBefore w ps' ss' behind → v ≡ rest_words behind w
        → Meets cursor_prev w v (answered (some (entry k x)))
    unfolding held
    prev-back {ps' = ps'} {ss' = ss'} {p = p} {i = i} {key = key} {x = x} {behind = behind} seeks e read before rested =
        meets-answered (λ w p. (refl, refl)) keeps-prev pass (ap length rested ∙ rest-long behind w)
        (λ s.
        let P = pool_of w in
        let g = (named s).0 in
        let n = (named s).1 in
        let stands = (seeks.finds.here p i (ap Ok e)).there s in
        let is = prev-some w s n (spot-value w k s p i key x stands.1 read stands.0) in
        let path = subst (λ (j : ℕ). PathOf P.whole.levels P.whole.tree j ps' ss') n.before (seeks.path s) in
        let found = before.exact 1 P.whole.levels P.whole.tree g (sound-sits w s) (omega (arith, n.there)) path in
        record {
          passes = refl;
          answers = sym is;
          holds = rw (rested, is, n.at) (rest-written w g behind s (omega (arith, n.there)) found);
          still = λ z. contrary z (rw is);
        })

    pub peek-prev-value : {r : Result (std.Option search.Found) Unsound} {f : search.Found} → Gets w k r × ReadFew (levels_word w) r → r ≡ Ok (Some f)
        → Meets cursor_peek_prev w w (answered (some (entry k f.value)))
    peek-prev-value gets e = meets-read cursor_tests prev_of (λ w p. (refl, refl)) pass (λ s. sym (prev-some w s (named s).1 (gets-value k w gets e s).0))

    pub write-prev-over : {at : std.Option Spot} {p i x old : ℕ} {v : List ℕ} → Finds w k (Ok at) → at ≡ Some (spot p i) → Writes p i x w v old
        → Meets (cursor_write_prev x) w v (answered (some old))
    unfolding file
    write-prev-over {p = p} {i = i} {x = x} finds e writes =
        meets-answered (λ w p. (refl, refl)) (keeps-write-prev x) pass writes.only.long
        (λ s.
        let n = (named s).1 in
        let o = overwritten w k (finds.here p i (ap Ok e)) writes s in
        let is = prev-some w s n o.1 in
        record {
          passes = refl;
          answers = rw is;
          holds = rw (is, n.at) (rw (n.member, n.before) at o.2);
          still = λ z. contrary z (rw is);
        })
