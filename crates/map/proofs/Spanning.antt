-- Lists: a path sought and followed gives the entries between two gaps; those gaps are the bounds', so the entries are
-- those not before the lower bound and before the upper one; and what is laid over the lent slices is what document
-- 01's list writes.
-- Assumes nothing.
use mathlib.Core.Path.{◌≡◌, refl, sym, ap, ◌∙◌}
use mathlib.Core.Bool.{Bool, true, false, cond, ◌||◌}
use mathlib.Core.List.{List, [], ◌∷◌, map}
use Prim.Native.Nat.{ℕ, min, ◌≤◌}
use native.Mathlib.Omega.{arith}
use lib.ListN.{length, take, drop, length-take, length-map}
use lib.Seq.{take_all}
use Rattle.std.specs.Prelude.{Result, Ok, Err, ⊤}
use Rattle.model.specs.Basics.{All}
use Rattle.model.specs.Tree.{Entry, Rising, held}
use Rattle.model.specs.Bound.{Bound, included, excluded, unbounded, before_lower, before_upper}
use Rattle.model.specs.Entries.{gap_of, between}
use Rattle.model.specs.Pool.{held_by, pool_of}
use Rattle.model.specs.Sound.{Sound}
use Rattle.model.specs.Refusal.{Test, refusal, no_bound}
use Rattle.model.specs.Call.{refused}
use Rattle.model.specs.MapCalls.{read_tests}
use Rattle.model.specs.ListCalls.{Column, key_column, value_column, Lists, list_tests, shortest, fronted}
use Rattle.tree.specs.declared.search.Aim.{Aim}
use Rattle.tree.specs.Search.{aimed, Seeks}
use Rattle.map.specs.declared.refusal.Refusal.{Refusal}
use Rattle.map.specs.declared.refusal.Refusal.TheVariants as reason
use Rattle.map.specs.Answers.{number_of, outcome_of, itself}
use Rattle.map.specs.Bound.{lower_aim, upper_aim, aim_by}
use Rattle.map.specs.List.{laid, Tells, front, Runs, Spans, Fills}
use Rattle.model.proofs.Cases.{never}
use Rattle.model.proofs.Basics.{all_map, take_min}
use Rattle.model.proofs.Entries.{falls-upper, gap-le, gap-slice, inside-slice}
use Rattle.model.proofs.Meets.{reading-first, reading-passed}
use Rattle.tree.proofs.Sitting.{sound-sits}
use Rattle.map.proofs.Answers.{number-some, outcome-refused}
use Rattle.page.specs.declared.Unsound.{Unsound}

-- ---- the gaps of two bounds

lower-gap : (b : Bound) (es : List Entry) → gap_of (aimed (lower_aim b)) es ≡ gap_of (before_lower b) es
lower-gap (included k) es = refl
lower-gap (excluded k) es = refl
lower-gap unbounded es = refl

upper-gap : (b : Bound) (es : List Entry) → gap_of (aimed (upper_aim b)) es ≡ gap_of (before_upper b) es
upper-gap (included k) es = refl
upper-gap (excluded k) es = refl
upper-gap unbounded es = refl

front-between : (low high : Bound) (n : ℕ) (es : List Entry) → Rising es
    → front (upper_aim high) n (drop (gap_of (aimed (lower_aim low)) es) es) ≡ take n (between low high es)
front-between low high n es r =
    let g = gap_of (before_lower low) es in
    rw (lower-gap low es, upper-gap high (drop g es), take_min n (gap_of (before_upper high) (drop g es)) (drop g es), gap-slice (before_upper high) g es (falls-upper high) r)
    (ap (take n) (sym (inside-slice low high es r)))

-- ---- from the gap of `lower`

nothing_written : {ks vs : List ℕ} {r : Result ℕ Refusal} → Tells ks vs ks vs r
nothing_written = record { keys = refl; values = refl; kept = λ _ _. (refl, refl) }

module _ {w : List ℕ} {lower upper : Aim} {ps ss ps' ss' : List ℕ} {n : ℕ} {ks vs : List ℕ} {b : Result ⊤ Unsound} (sought : Seeks w lower ps ss ps' ss' b) where
  -- no path: nothing is written
  pub spans-none : {x : Unsound} → b ≡ Err x → Spans w lower upper n ks vs ks vs (Err reason.Unsound)
  spans-none e =
      record {
        tells = nothing_written;
        late = λ x q. cc;
        exact = λ s. never (cc (sought.sound s, e));
      }

  pub spans-run : {ks' vs' : List ℕ} {r : Result ℕ Refusal} → Runs w upper ps' ss' n ks vs ks' vs' r → Spans w lower upper n ks vs ks' vs' r
  unfolding pool_of held
  spans-run runs =
      record {
        tells = runs.tells;
        late = runs.late;
        exact = λ s. runs.exact 1 _ _ _ (sound-sits w s) s.rising (gap-le (aimed lower) (held_by (pool_of w))) (sought.path s);
      }

-- ---- between two bounds, where no test refuses

module _ {tests : List Test} {low high : Bound} {w : List ℕ} {n : ℕ} {ks vs : List ℕ} where
  pub fills-refused : {e : Refusal} → refusal tests ≡ number_of e → Fills tests low high w n ks vs ks vs (Err e)
  fills-refused {e} q =
      let some = number-some e in
      record {
        tells = nothing_written;
        early = λ m p. ap refused (sym q ∙ p);
        late = λ m p _. absurd (omega arith);
        exact = λ _ p. absurd (omega arith);
      }

  pub fills-span : {ks' vs' : List ℕ} {r : Result ℕ Refusal} {lower upper : Aim} → refusal tests ≡ 0 → lower_aim low ≡ lower → upper_aim high ≡ upper
      → Spans w lower upper n ks vs ks' vs' r → Fills tests low high w n ks vs ks' vs' r
  unfolding pool_of
  fills-span {r} e from to spans =
      record {
        tells = spans.tells;
        early = λ m p. absurd (omega arith);
        late = λ m _ q. outcome-refused itself r m q (λ x is number. sym number ∙ ap number_of (spans.late x is));
        exact = λ s _. rw (← from, ← to, front-between low high n (held_by (pool_of w)) s.rising) at (spans.exact s);
      }

-- ---- the tests of a list: those of a call that reads, then the bounds'

module _ (kind lower upper : ℕ) (w : List ℕ) where
  pub bounds-later : (e : Refusal) → refusal (read_tests kind w) ≡ number_of e → refusal (list_tests kind lower upper w) ≡ number_of e
  bounds-later e refuses = sym (reading-first kind w _ (number_of e) (number-some e) (sym refuses))

  bounds-last : refusal (read_tests kind w) ≡ 0 → refusal (list_tests kind lower upper w) ≡ cond (no_bound lower || no_bound upper) 3 0
  bounds-last passed = reading-passed kind w _ (sym passed)

  module _ (passed : refusal (read_tests kind w) ≡ 0) where
    pub bounds-good : no_bound lower ≡ false → no_bound upper ≡ false → refusal (list_tests kind lower upper w) ≡ 0
    bounds-good low high = bounds-last passed ∙ rw (low, high)

-- what a bound in code tells
module _ (kind : ℕ) (aim : Aim) {r : Result Aim Refusal} (said : r ≡ aim_by kind aim) where
  pub bound-known : {a : Aim} → r ≡ Ok a → (no_bound kind ≡ false) × (aim ≡ a)
  bound-known is = go (no_bound kind) (sym said ∙ is)
    where
      go : (b : Bool) {a : Aim} → cond b (Err reason.BadBound) (Ok aim) ≡ Ok a → (b ≡ false) × (aim ≡ a)
      go true e = never (cc)
      go false e = (refl, cc)

-- ---- what is laid over the slices is what a list writes

pub laid-written : (xs s : List ℕ) → length xs ≤ length s → laid xs s ≡ fronted xs s
unfolding laid
laid-written xs s l = rw (take_all (length s) xs l)

module _ {tests : List Test} {low high : Bound} {w : List ℕ} {n : ℕ} {ks vs ks' vs' : List ℕ} {r : Result ℕ Refusal} (fills : Fills tests low high w n ks vs ks' vs' r) where
  abbrev entries : List Entry
  entries = take n (between low high (held_by (pool_of w)))

  -- a column that has room for them, and takes them
  record Takes (c : Column) : Type 0 where
    long : length c.after ≡ length c.before
    room : n ≤ length c.before
    kept : (e : Refusal) → r ≡ Err e → c.after ≡ c.before
    lays : Sound w → refusal tests ≡ 0 → c.after ≡ laid (map c.part entries) c.before

  takes-keys : n ≤ length ks → Takes (key_column ks ks')
  takes-keys room = record { long = fills.tells.keys; room = room; kept = λ e is. (fills.tells.kept e is).0; lays = λ s p. (fills.exact s p).keys }

  takes-values : n ≤ length vs → Takes (value_column vs vs')
  takes-values room = record { long = fills.tells.values; room = room; kept = λ e is. (fills.tells.kept e is).1; lays = λ s p. (fills.exact s p).values }

  writes : (c : Column) → Takes c → Sound w → refusal tests ≡ 0 → c.after ≡ fronted (map c.part entries) c.before
  writes c t s p =
      let room = t.room in
      t.lays s p ∙ laid-written (map c.part entries) c.before (simp (length-map, length-take) (omega arith))

  lists : (cs : List Column) → n ≡ shortest cs → All Takes cs → Lists tests low high w cs (outcome_of itself r)
  lists cs e all =
      record {
        long = all_map Takes (λ c. length c.after ≡ length c.before) cs (λ c t. t.long) all;
        early = fills.early;
        late = fills.late;
        kept = λ m q. outcome-refused itself r m q (λ x is _. all_map Takes (λ c. c.after ≡ c.before) cs (λ c t. t.kept x is) all);
        exact = λ s p. rw (← e) (ap (outcome_of itself) (fills.exact s p).wrote);
        writes = λ s p. rw (← e) (all_map Takes (λ c. c.after ≡ fronted (map c.part entries) c.before) cs (λ c t. writes c t s p) all);
      }

  pub lists-keys : n ≡ length ks → Lists tests low high w (key_column ks ks' ∷ []) (outcome_of itself r)
  lists-keys e = lists _ e (takes-keys (omega arith), tt)

  pub lists-values : n ≡ length vs → Lists tests low high w (value_column vs vs' ∷ []) (outcome_of itself r)
  lists-values e = lists _ e (takes-values (omega arith), tt)

  pub lists-both : n ≡ min (length ks) (length vs) → Lists tests low high w (key_column ks ks' ∷ value_column vs vs' ∷ []) (outcome_of itself r)
  lists-both e = lists _ e (takes-keys (omega arith), (takes-values (omega arith), tt))
