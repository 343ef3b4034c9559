-- Laws of playback: on a sound pool each next is again a next that the tests let pass, over the entry behind those
-- already played; what playback has come to after i of them, which each turn of the loop takes on and each way out
-- turns into the promise.
-- Assumes nothing.
use mathlib.Core.Path.{◌≡◌, refl, sym, ap, ◌∙◌}
use mathlib.Core.Logic.{⊎_elim}
use mathlib.Core.Option.{Option, none, some}
use mathlib.Core.List.{List, [], ◌∷◌, map}
use Prim.Native.Nat.{ℕ, suc, ◌+◌, min, ◌≤◌, ◌<◌}
use native.Mathlib.Nat.{add-zero}
use native.Mathlib.Numerals.{add-one}
use native.Mathlib.Omega.{arith}
use lib.ListN.{length, take, drop, set, length-take, length-map, length-set}
use Rattle.std.specs.Prelude as std
use Rattle.std.specs.Prelude.{Some, None, Result, Ok, Err}
use lib.Seq.{take_all, length-take-le}
use Rattle.model.specs.Tree.{Entry, entry}
use Rattle.model.specs.Entries.{gap, next, forth}
use Rattle.model.specs.Pool.{Pool, held_by, pool_of, gap_by, with_cursor}
use Rattle.model.specs.Sound.{Sound}
use Rattle.model.specs.Refusal.{refusal}
use Rattle.model.specs.Call.{refused, answered, Meets}
use Rattle.model.specs.ListCalls.{key_column, value_column}
use Rattle.model.specs.CursorCalls.{cursor_tests, cursor_next, next_of, missing}
use Rattle.page.specs.declared.Entry.{Entry as EntryBy}
use Rattle.map.specs.declared.refusal.Refusal.{Refusal}
use Rattle.map.specs.declared.refusal.Refusal.TheVariants as reason
use Rattle.map.specs.Answers.{number_of, outcome_of, itself}
use Rattle.map.specs.List.{laid}
use Rattle.cursor.specs.Answers.{entry_of}
use Rattle.model.specs.Playback.{Plays}
use Rattle.cursor.specs.Playback.{PlayStops}
use Rattle.model.proofs.Cases.{never, contrary}
use Rattle.map.proofs.Answers.{nine-unsound, outcome-refused}
use Rattle.map.proofs.Listing.{laid_none, laid-entry, behind-some, behind-none}
use Rattle.map.proofs.Spanning.{laid-written}
use Rattle.model.proofs.Meets.{gap-passes}
use Rattle.cursor.proofs.Gaps.{passes-cursor, gap_same}

-- ---- what a next answers

-- what is no entry is the end
step_end : (r : Result (std.Option EntryBy) Refusal) (o : Option Entry) → outcome_of entry_of r ≡ answered o → ((e : EntryBy) → r ≡ Ok (Some e) → ⊥)
    → (r ≡ Ok None) × (none ≡ o)
step_end (Ok (Some e)) o is other = absurd (other e refl)
step_end (Ok None) o is other = (refl, cc)
step_end (Err n) o is other = never (cc)

-- ---- playback after i entries

-- the entries after the gap, and the one behind i of them
abbrev pub behind : List ℕ → List Entry
behind w = drop (gap_by (pool_of w)) (held_by (pool_of w))

abbrev next_at : List ℕ → ℕ → Option Entry
next_at w i = next (gap_by (pool_of w) + i) (held_by (pool_of w))

-- from w₀ and the slices ks₀ and vs₀, on a sound pool
pub record Along (w₀ ks₀ vs₀ w ks vs : List ℕ) (i : ℕ) : Type 0 where
  pub sound : Sound w
  pub holds : pool_of w ≡ with_cursor (pool_of w₀) (gap (gap_by (pool_of w₀) + i))
  pub few : i ≤ length (behind w₀)
  pub keys : ks ≡ laid (map (λ e. e.key) (take i (behind w₀))) ks₀
  pub values : vs ≡ laid (map (λ e. e.value) (take i (behind w₀))) vs₀

-- and on any words, with what was asked for at the start
pub record Played (n : ℕ) (w₀ ks₀ vs₀ w ks vs : List ℕ) (i : ℕ) : Type 0 where
  pub pass : refusal (cursor_tests w₀) ≡ 0
  pub room : n ≡ min (length ks₀) (length vs₀)
  pub few : i ≤ n
  pub long : (length w ≡ length w₀) × (length ks ≡ length ks₀) × (length vs ≡ length vs₀)
  pub none : i ≡ 0 → (w ≡ w₀) × (ks ≡ ks₀) × (vs ≡ vs₀)
  pub along : Sound w₀ → Along w₀ ks₀ vs₀ w ks vs i

pub played-none : {n : ℕ} {w : List ℕ} (ks vs : List ℕ) → refusal (cursor_tests w) ≡ 0 → n ≡ min (length ks) (length vs) → Played n w ks vs w ks vs 0
played-none {n} {w} ks vs pass room = record {
  pass = pass;
  room = room;
  few = omega arith;
  long = (refl, refl, refl);
  none = λ z. (refl, refl, refl);
  along = λ s. record {
    sound = s;
    holds = rw add-zero (sym (gap_same w (passes-cursor w pass).opened));
    few = omega arith;
    keys = sym (laid_none ks);
    values = sym (laid_none vs);
  };
}

module _ {n : ℕ} {w₀ ks₀ vs₀ w ks vs : List ℕ} {i : ℕ} (played : Played n w₀ ks₀ vs₀ w ks vs i) where
  -- all that were asked for, or that there are
  played-wrote : {w' : List ℕ} {a : Result ℕ Refusal} → length w' ≡ length w
      → ((e : Refusal) → a ≡ Err e → (e ≡ reason.Unsound) × (w' ≡ w₀) × (i ≡ 0))
      → (Sound w₀ → (w' ≡ w) × (a ≡ Ok i) × (take n (behind w₀) ≡ take i (behind w₀)))
      → Plays w₀ w' (key_column ks₀ ks ∷ value_column vs₀ vs ∷ []) (outcome_of itself a)
  played-wrote {w'} {a} long kept ends = record {
    long = (long ∙ played.long.0, (played.long.1, (played.long.2, tt)));
    early = λ m p. absurd (omega (arith, played.pass));
    late = λ m _ q. outcome-refused itself a m q (λ e is number. sym number ∙ ap number_of (kept e is).0);
    kept = λ m q. outcome-refused itself a m q (λ e is _. let k = kept e is in let none = played.none k.2 in (k.1, (none.1, (none.2, tt))));
    sound = λ s. rw (ends s).0 (played.along s).sound;
    exact = λ s _. rw (← short) (ap (outcome_of itself) (ends s).1 ∙ ap answered (sym (many s)));
    writes = λ s _.
        let a = played.along s in
        rw (← short, (ends s).2) (
          a.keys ∙ laid-written _ ks₀ (fits (λ e. e.key) ks₀ (omega arith) s),
          (a.values ∙ laid-written _ vs₀ (fits (λ e. e.value) vs₀ (omega arith) s), tt),
        );
    holds = λ s _.
        rw (← short) (ap pool_of (ends s).0 ∙ (played.along s).holds ∙ ap (λ (j : ℕ). with_cursor (pool_of w₀) (gap (gap_by (pool_of w₀) + j))) (sym (many s)));
    still = λ s _. rw (← short) (λ z. (ends s).0 ∙ (played.none (sym (many s) ∙ ap length z)).0);
  }
    where
      short : n ≡ min (length ks₀) (length vs₀)
      short = played.room

      many : Sound w₀ → length (take n (behind w₀)) ≡ i
      many s = ap length (ends s).2 ∙ length-take-le i (behind w₀) (played.along s).few

      fits : (part : Entry → ℕ) (s₀ : List ℕ) → n ≤ length s₀ → Sound w₀ → length (map part (take i (behind w₀))) ≤ length s₀
      fits part s₀ room s = let few = played.few in simp (length-map, length-take) (omega arith)

  pub played-full : n ≤ i → Plays w₀ w (key_column ks₀ ks ∷ value_column vs₀ vs ∷ []) (answered n)
  played-full l =
      let all : n ≡ i = omega (arith, played.few) in
      played-wrote {a = Ok n} refl (λ e z. never (cc)) (λ s. (refl, ap Ok all, ap (λ (j : ℕ). take j (behind w₀)) all))

  module _ {w' : List ℕ} (r : Result (std.Option EntryBy) Refusal) (m : Meets cursor_next w w' (outcome_of entry_of r)) where
    -- a sound pool passes the tests again: its cursor is still in a gap
    again : Sound w₀ → refusal (cursor_tests w) ≡ 0
    again s = let a = played.along s in gap-passes w a.sound (ap (λ (p : Pool). p.cursor) a.holds)

    next-is : Sound w₀ → next_of (pool_of w) ≡ next_at w₀ i
    next-is s = ap next_of (played.along s).holds

    answer-is : Sound w₀ → outcome_of entry_of r ≡ answered (next_at w₀ i)
    answer-is s = m.exact (played.along s).sound ∙ rw (again s) (ap answered (next-is s))

    left_is : Sound w₀ → pool_of w' ≡ with_cursor (pool_of w₀) (gap (forth (next_at w₀ i) (gap_by (pool_of w₀) + i)))
    left_is s =
        m.holds (played.along s).sound
        ∙ rw (again s) (ap (λ (p : Pool). with_cursor p (gap (forth (next_of p) (gap_by p)))) (played.along s).holds)

    -- one more
    pub played-more : {e : EntryBy} → r ≡ Ok (Some e) → i < n → Played n w₀ ks₀ vs₀ w' (set ks i e.key) (set vs i e.value) (i + 1)
    played-more {e} is l = record {
      pass = played.pass;
      room = played.room;
      few = omega arith;
      long = (m.long ∙ played.long.0, length-set ks i e.key ∙ played.long.1, length-set vs i e.value ∙ played.long.2);
      none = λ z. absurd (omega arith);
      along = λ s.
          let a = played.along s in
          let it : some (entry e.key e.value) ≡ next_at w₀ i = let told = sym (ap (outcome_of entry_of) is) ∙ answer-is s in cc in
          let here = behind-some (held_by (pool_of w₀)) (gap_by (pool_of w₀)) i it in
          let one : gap_by (pool_of w₀) + (i + 1) ≡ suc (gap_by (pool_of w₀) + i) = omega arith in
          record {
            sound = m.sound a.sound;
            holds = left_is s ∙ rw (← it, one);
            few = omega (arith, here.0);
            keys = rw add-one (ap (λ (x : Entry). set ks i x.key) (sym here.1) ∙ laid-entry (λ x. x.key) (behind w₀) i ks₀ ks here.0 a.keys);
            values = rw add-one (ap (λ (x : Entry). set vs i x.value) (sym here.1) ∙ laid-entry (λ x. x.value) (behind w₀) i vs₀ vs here.0 a.values);
          };
    }

    -- a first next is refused past the tests, so for one reason
    refused-first : {e : Refusal} → r ≡ Err e → i ≡ 0 → (e ≡ reason.Unsound) × (w' ≡ w₀)
    refused-first {e} q z =
        let first = (played.none z).0 in
        let said : outcome_of entry_of r ≡ refused (number_of e) = ap (outcome_of entry_of) q in
        let pass : refusal (cursor_tests w) ≡ 0 = rw first played.pass in
        (nine-unsound e (⊎_elim (λ n. n) (λ no. contrary no refl) (m.late (number_of e) pass said)), m.kept (number_of e) said ∙ first)

    -- there is no next entry
    pub played-end : {a : Result ℕ Refusal} → ((e : EntryBy) → r ≡ Ok (Some e) → ⊥) → PlayStops r i a → Plays w₀ w' (key_column ks₀ ks ∷ value_column vs₀ vs ∷ []) (outcome_of itself a)
    played-end {a} other stop =
        played-wrote {a = a} m.long
        (λ e z.
        let refuses = stop.stops e z in
        let first = refused-first refuses.0 refuses.1 in
        (first.0, first.1, refuses.1))
        (λ s.
        let end = step_end r (next_at w₀ i) (answer-is s) other in
        let past = behind-none (held_by (pool_of w₀)) (gap_by (pool_of w₀)) i end.1 in
        let few = played.few in (
          m.still (played.along s).sound (ap missing (next-is s ∙ sym end.1)),
          stop.wrote end.0,
          take_all n (behind w₀) (omega arith) ∙ sym (take_all i (behind w₀) past),
        ))
