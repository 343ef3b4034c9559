-- Laws of opening: the gap that a search finds, or the start itself, is the one that is laid; a bound's early refusals
-- are document 01's; and so opening at the gap of a bound is document 01's call.
-- Assumes nothing.
use mathlib.Core.Path.{◌≡◌, refl, sym, ap, subst, ◌∙◌}
use mathlib.Core.Bool.{cond}
use mathlib.Core.Logic.{◌≢◌}
use mathlib.Core.List.{List}
use Prim.Native.Nat.{ℕ, zero, suc, ◌≤◌}
use native.Mathlib.Omega.{arith}
use lib.Dec.{eqb}
use lib.ListN.{length}
use borrow.Author.Tests.{ne_eqb}
use Rattle.std.specs.Prelude.{Result, Ok, Err, Option}
use Rattle.model.specs.Head.{levels_word, open_word}
use Rattle.model.specs.Tree.{held}
use Rattle.model.specs.Bound.{bound_of}
use Rattle.model.specs.Entries.{gap, gap_of}
use Rattle.model.specs.Pool.{held_by, pool_of, whole_of, with_cursor}
use Rattle.model.specs.Written.{Written}
use Rattle.model.specs.Refusal.{refusal, map_kind, no_bound}
use Rattle.model.specs.Call.{Outcome, refused, Meets, ReadsPages}
use Rattle.model.specs.MapCalls.{read_tests}
use Rattle.model.specs.CursorCalls.{open_tests, cursor_open_lower, cursor_open_upper}
use Rattle.tree.specs.declared.search.Aim.{Aim}
use Rattle.tree.specs.declared.search.Aim.TheVariants.{Before, After, Start, End}
use Rattle.tree.specs.declared.steps.Spot.{Spot}
use Rattle.tree.specs.Search.{aimed, Seeks}
use Rattle.tree.specs.Steps.{SpotBefore}
use Rattle.map.specs.declared.refusal.Refusal.TheVariants as reason
use Rattle.map.specs.declared.refusal.Refusal.{Refusal}
use Rattle.map.specs.Answers.{number_of, outcome_of, itself}
use Rattle.map.specs.Bound.{lower_aim, upper_aim}
use Rattle.cursor.specs.Gap.{gap_words, rest_words}
use Rattle.cursor.specs.Open.{aim_read, Opens, opens_at, OpensBy}
use Rattle.model.proofs.Cases.{contrary, never}
use Rattle.model.proofs.Entries.{gap-le, gap-start}
use Rattle.model.proofs.Right.{sound-right}
use Rattle.model.proofs.Calls.{open-right}
use Rattle.model.proofs.Keeps.{Keeps, of-kind}
use Rattle.model.proofs.Written.{sound-written}
use Rattle.model.proofs.Meets.{meets-answered, meets-unsound, reading-first, reading-passed}
use Rattle.model.proofs.Reading.{pages-told, pages-refused}
use Rattle.tree.proofs.Sitting.{sound-sits}
use Rattle.map.proofs.Answers.{number-some}
use Rattle.map.proofs.Calling.{meets-refused}
use Rattle.map.proofs.Spanning.{bound-known}
use Rattle.cursor.proofs.Gaps.{gap-long, rest-long, gap-written, rest-written}
use Rattle.page.specs.declared.Unsound.{Unsound}

-- ---- at the gap of an aim

module _ {aim : Aim} {w ps ss ps' ss' : List ℕ} {x : Unsound} where
  pub opens-unsound : {read : ℕ} → Seeks w aim ps ss ps' ss' (Err x) → Opens aim read w w (Err reason.Unsound)
  opens-unsound sought = record { long = refl; refused = λ e q. (cc, refl, λ s. never (cc (sought.sound s))); opens = λ n q. never (cc) }

-- any gap but the start takes all levels
read-all : (aim : Aim) (levels : ℕ) → (aim ≡ Start → ⊥) → aim_read aim levels ≡ levels
read-all (Before k) levels other = refl
read-all (After k) levels other = refl
read-all Start levels other = absurd (other refl)
read-all End levels other = refl

module _ {aim : Aim} {w ps ss ps' ss' : List ℕ} (sought : Seeks w aim ps ss ps' ss' (Ok tt)) (other : aim ≡ Start → ⊥) where
  pub opens-sought : {r : Option Spot} {v : List ℕ} {n : ℕ} → SpotBefore w ps' ss' r → v ≡ rest_words r w → n ≡ levels_word w → Opens aim (aim_read aim (levels_word w)) w v (Ok n)
  unfolding held
  opens-sought {r} before laid levels =
      let P = pool_of w in
      let g = gap_of (aimed aim) (held_by P) in
      let inside = gap-le (aimed aim) (held_by P) in
      record {
        long = ap length laid ∙ rest-long r w;
        refused = λ e q. never (cc);
        opens = λ m q. (
          cc (q, levels, read-all aim (levels_word w) other),
          λ s. rw laid (rest-written w g r s inside (before.exact 1 P.whole.levels P.whole.tree g (sound-sits w s) inside (sought.path s))),
        );
      }

pub opens-start : {aim : Aim} {w v : List ℕ} → aim ≡ Start → v ≡ gap_words 1 0 0 w → Opens aim (aim_read aim (levels_word w)) w v (Ok 0)
opens-start {w = w} start laid =
    let P = pool_of w in
    rw (start, laid) record {
      long = gap-long 1 0 0 w;
      refused = λ e q. never (cc);
      opens = λ n q. (
        cc,
        λ s.
            subst (λ (g : ℕ). Written (gap_words 1 0 0 w) (with_cursor P (gap g))) (sym (gap-start (held_by P)))
            (gap-written w P (gap 0) (sound-written w s)),
      );
    }

-- ---- at the gap of a bound

aim-few : (aim : Aim) (levels : ℕ) → aim_read aim levels ≤ levels
aim-few (Before k) levels = omega arith
aim-few (After k) levels = omega arith
aim-few Start levels = omega arith
aim-few End levels = omega arith

module _ (kind : ℕ) (aim : Aim) where
  keeps-open : Keeps (opens_at kind aim)
  unfolding pool_of
  keeps-open w s e = open-right (pool_of w) (sound-right w s) (of-kind w map_kind _ e).1 (aimed aim)

  pages-open : {w v : List ℕ} (r : Result ℕ Refusal) → 0 ≡ refusal (open_tests kind w) → Opens aim (aim_read aim (levels_word w)) w v r
      → ReadsPages (opens_at kind aim) (λ n. n) w v (outcome_of itself r)
  unfolding pool_of whole_of
  pages-open {w} (Ok n) pass opens =
      let o = opens.opens n refl in
      pages-told
      (meets-answered (λ w p. (refl, refl)) keeps-open pass opens.long (λ s. record { passes = refl; answers = o.0; holds = o.1 s; still = λ z. contrary z refl }))
      (omega (arith, o.0, aim-few aim (levels_word w)))
  pages-open {w} {v} (Err e) pass opens =
      let o = opens.refused e refl in
      pages-refused (subst (λ (x : Refusal). Meets (opens_at kind aim) w v (refused (number_of x))) (sym o.0) (meets-unsound (λ w p. (refl, refl)) keeps-open pass (o.1, o.2)))

-- past the tests of a call that reads
open-last : (kind : ℕ) (w : List ℕ) → 0 ≡ refusal (read_tests map_kind w) → refusal (open_tests kind w) ≡ cond (no_bound kind) 3 (cond (eqb (open_word w) 1) 4 0)
open-last kind w pass = reading-passed map_kind w _ pass

module _ {b : Result Aim Refusal} {w : List ℕ} where
  pub by-refused : (n : Refusal) → number_of n ≡ refusal (read_tests map_kind w) → OpensBy b w w (Err n)
  by-refused n e kind aim said =
      pages-refused (meets-refused (opens_at kind aim) w n (λ w p. (refl, refl)) (reading-first map_kind w _ (number_of n) (number-some n) e))

  module _ (pass : 0 ≡ refusal (read_tests map_kind w)) where
    module _ {a : Aim} (is : b ≡ Ok a) where
      pub by-at : {v : List ℕ} {r : Result ℕ Refusal} → open_word w ≢ 1 → Opens a (aim_read a (levels_word w)) w v r → OpensBy b w v r
      by-at {v} {r} shut opens kind aim said =
          let known = bound-known kind aim said is in
          subst (λ (x : Aim). ReadsPages (opens_at kind x) (λ n. n) w v (outcome_of itself r)) (sym known.1)
          (pages-open kind a r (sym (open-last kind w pass ∙ rw (known.0, ne_eqb (open_word w) 1 shut))) opens)

-- ---- document 01's calls, bound by bound

module _ {w v : List ℕ} {r : Outcome ℕ} where
  pub lower-meets : (kind k : ℕ) → ReadsPages (opens_at kind (lower_aim (bound_of kind k))) (λ n. n) w v r
      → ReadsPages (cursor_open_lower kind k) (λ n. n) w v r
  lower-meets zero k m = m
  lower-meets (suc zero) k m = m
  lower-meets (suc (suc n)) k m = m

  pub upper-meets : (kind k : ℕ) → ReadsPages (opens_at kind (upper_aim (bound_of kind k))) (λ n. n) w v r
      → ReadsPages (cursor_open_upper kind k) (λ n. n) w v r
  upper-meets zero k m = m
  upper-meets (suc zero) k m = m
  upper-meets (suc (suc n)) k m = m
