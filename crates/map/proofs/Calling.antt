-- The calls by one key, of map and set: what an arm of the call answers meets the call's promise. What insertion,
-- removal and search say of a sound pool is what document 01 says of the call; on any other words a refusal has changed
-- no word.
-- Assumes nothing.
use mathlib.Core.Path.{◌≡◌, refl, sym, ap, ap₂, subst, ◌∙◌}
use mathlib.Core.Bool.{Bool, true, false, not, cond}
use mathlib.Core.Logic.{inr, ⊎_elim, ◌≢◌}
use mathlib.Core.Option.{Option, none, some}
use mathlib.Core.List.{List, [], ◌∷◌}
use Prim.Native.Nat.{ℕ, zero, suc, ◌+◌, ◌<◌}
use native.Mathlib.Omega.{arith}
use lib.ListN.{length, get_or}
use borrow.Author.Tests.{not-true}
use Rattle.std.specs.Prelude.{Some, None, Result, Ok, Err, is_some, is_none}
use Rattle.std.specs.Prelude as std
use Rattle.page.specs.declared.Unsound.{Unsound}
use Rattle.model.specs.Head.{levels_word}
use Rattle.model.specs.Tree.{Entry, entry, no_entry}
use Rattle.model.specs.Entries.{has, lookup}
use Rattle.model.specs.Search.{Found, Seen}
use Rattle.model.specs.Write.{write}
use Rattle.model.specs.Pool.{Pool, held_by, pool_of, with_whole, least_by}
use Rattle.model.specs.Sound.{Sound}
use Rattle.model.specs.Written.{Written}
use Rattle.model.specs.Refusal.{Test, ◌when◌, refusal, map_kind, set_kind}
use Rattle.model.specs.Call.{Call, Outcome, refused, answered, given, number, Meets, ReadsPages, reads}
use Rattle.model.specs.MapCalls.{read_tests, change_tests, file, no_room, strike, pages_read, map_insert, map_replace}
use Rattle.model.specs.SetCalls.{set_insert, set_get, set_contains}
use Rattle.model.specs.Source.{view, member}
use Rattle.tree.specs.declared.search.Found as search
use Rattle.tree.specs.Search.{got_by, Gets, ReadFew}
use Rattle.tree.specs.Write.{Writes}
use Rattle.tree.specs.declared.steps.Spot.{Spot}
use Rattle.map.specs.declared.Got.{Got as GotBy}
use Rattle.map.specs.declared.Seen.{Seen as SeenBy}
use Rattle.map.specs.declared.refusal.Refusal.{Refusal}
use Rattle.map.specs.declared.refusal.Refusal.TheVariants as reason
use Rattle.map.specs.Answers.{number_of, option_of, found_of, seen_of}
use Rattle.map.specs.Entry.{gap_for, spot_for, StandsAt, Finds, Adds, Strikes, gets_in, contains_in}
use Rattle.model.proofs.Cases.{contrary, never}
use Rattle.model.proofs.Basics.{all-at}
use Rattle.model.proofs.Entries.{has_key, has-lookup, lookup-at, there}
use Rattle.model.proofs.Write.{write_same}
use Rattle.model.proofs.Right.{sound-right}
use Rattle.model.proofs.Keeps.{keeps-reads, Keeps, keeps-map-insert, keeps-map-replace, keeps-set-insert}
use Rattle.model.proofs.Written.{sound-written}
use Rattle.model.proofs.Reading.{read-absent, pages-told, pages-refused}
use Rattle.model.proofs.Meets.{Staged, meets-early, meets-answered, meets-stopped, meets-unsound, meets-read, passes-changing}
use Rattle.map.proofs.Answers.{number-some}
use Rattle.map.proofs.Placing.{absent-value}
use Rattle.tree.specs.Steps.{spot}

-- ---- how an arm of a call ends

-- the first tests refuse
pub meets-refused : {A : Type 0} (c : Call A) (w : List ℕ) (n : Refusal) → Staged c → number_of n ≡ refusal (c.early w) → Meets c w w (refused (number_of n))
meets-refused c w n staged e = meets-early c staged w (number_of n) (sym e) (number-some n)

-- ---- a key of a sound pool

module _ (w : List ℕ) (k : ℕ) where
  pub value_there : {old : ℕ} → view w k ≡ some old → member w k ≡ true
  value_there e = has-lookup k (held_by (pool_of w)) ∙ rw e

  pub value_none : view w k ≡ none → member w k ≡ false
  value_none e = has-lookup k (held_by (pool_of w)) ∙ rw e

  module _ (s : Sound w) (y : member w k ≡ true) where
    here : (gap_for k w < length (held_by (pool_of w))) × ((get_or (held_by (pool_of w)) (gap_for k w) no_entry).key ≡ k)
    here = has_key k (held_by (pool_of w)) (sound-right w s).rising y

    -- filed again, in a set, it changes nothing
    filed-again : (pool_of w).kind ≡ 1 → file (entry k 0) (pool_of w) ≡ pool_of w
    unfolding file
    filed-again kind =
        let zero-there = all-at (λ (e : Entry). e.value ≡ 0) (held_by (pool_of w)) (gap_for k w) no_entry here.0 ((sound-right w s).zeros kind) in
        rw (y, write_same (least_by (pool_of w)) (pool_of w).whole (gap_for k w) (entry k 0) (sound-right w s).formed here.0 (ap₂ entry here.1 zero-there))

  -- where it stands it is overwritten
  pub overwritten : {p i x old : ℕ} {v : List ℕ} → StandsAt w k p i → Writes p i x w v old → (s : Sound w)
      → (member w k ≡ true) × (view w k ≡ some old) × Written v (file (entry k x) (pool_of w))
  unfolding file spot_for
  overwritten {x = x} {v = v} stands writes s =
      let y = (stands.there s).0 in
      let e = (stands.there s).1 in
      let h = here s y in (
        y,
        lookup-at k (held_by (pool_of w)) (sound-right w s).rising ∙ rw (y, writes.before (gap_for k w) s h.0 e),
        rw y (subst (λ (j : ℕ). Written v (with_whole (pool_of w) (write (pool_of w).whole (gap_for k w) (entry j x)))) h.1 (writes.holds (gap_for k w) s h.0 e)),
      )

-- ---- insert, of a map or a set

abbrev files : {A : Type 0} → ℕ → ℕ → ℕ → (Pool → A) → (Pool → Bool) → Call A
files kind k x answer still = record { early = change_tests kind; late = λ p. 7 when no_room k p ∷ []; answer = answer; after = file (entry k x); still = still }

-- a key present needs no page
room-there : (w : List ℕ) (k : ℕ) → member w k ≡ true → refusal (7 when no_room k (pool_of w) ∷ []) ≡ 0
unfolding no_room
room-there w k y = rw y

module _ {A : Type 0} (kind : ℕ) {k x : ℕ} {answer : Pool → A} {still : Pool → Bool} {w u : List ℕ} {r : Result (std.Option Spot) Refusal}
    (keeps : Keeps (files kind k x answer still)) (pass : 0 ≡ refusal (change_tests kind w)) (adds : Adds k x w u r) where
  inserted_new : {a : A} → (Sound w → member w k ≡ false → (a ≡ answer (pool_of w)) × (still (pool_of w) ≡ false)) → r ≡ Ok None
      → Meets (files kind k x answer still) w u (answered a)
  unfolding no_room file
  inserted_new says e =
      meets-answered (λ w p. (refl, refl)) keeps pass adds.long
      (λ s.
      let n = adds.new e s in
      let b = says s n.absent in
      record {
        passes = rw (n.absent, n.room);
        answers = b.0;
        holds = rw n.absent n.holds;
        still = λ z. contrary z b.1;
      })

  pub insert-full : r ≡ Err reason.NoRoom → Meets (files kind k x answer still) w u (refused 7)
  unfolding no_room
  insert-full e = let f = adds.full e in meets-stopped (λ w p. (refl, refl)) keeps pass 6 f.0 (inr refl) (λ s. rw ((f.1 s).0, (f.1 s).1))

  pub insert-refused : (e : Refusal) → r ≡ Err e → Meets (files kind k x answer still) w u (refused (number_of e))
  insert-refused e is =
      ⊎_elim
      (λ q. rw q (insert-full (is ∙ ap Err q)))
      (λ q. rw q (meets-unsound (λ w p. (refl, refl)) keeps pass (adds.unsound (is ∙ ap Err q))))
      (adds.refused e is)

module _ {k x : ℕ} {w u : List ℕ} {r : Result (std.Option Spot) Refusal} (pass : 0 ≡ refusal (change_tests map_kind w)) (adds : Adds k x w u r) where
  pub insert-new : r ≡ Ok None → Meets (map_insert k x) w u (answered none)
  insert-new e = inserted_new map_kind (keeps-map-insert k x) pass adds (λ s n. (sym (absent-value w k s n), refl)) e

  pub insert-over : {v : List ℕ} {p i old : ℕ} → r ≡ Ok (Some (spot p i)) → Writes p i x u v old → Meets (map_insert k x) w v (answered (some old))
  insert-over {v} {p} {i} {old} e over =
      let h = adds.here p i e in
      let writes : Writes p i x w v old = rw h.0 at over in
      meets-answered (λ w p. (refl, refl)) (keeps-map-insert k x) pass writes.only.long
      (λ s. let o = overwritten w k h.1 writes s in record { passes = room-there w k o.0; answers = sym o.1; holds = o.2; still = λ z. contrary z refl })

module _ {k : ℕ} {w u : List ℕ} {r : Result (std.Option Spot) Refusal} (pass : 0 ≡ refusal (change_tests set_kind w)) (adds : Adds k 0 w u r) where
  pub set-insert-new : r ≡ Ok None → Meets (set_insert k) w u (answered true)
  set-insert-new e = inserted_new set_kind (keeps-set-insert k) pass adds (λ s n. (rw n, n)) e

  -- its entry is like the one that it would have, so no word has changed
  pub set-insert-present : {p i : ℕ} → r ≡ Ok (Some (spot p i)) → Meets (set_insert k) w u (answered false)
  unfolding pool_of
  set-insert-present {p} {i} e =
      let h = adds.here p i e in
      meets-answered (λ w p. (refl, refl)) (keeps-set-insert k) pass adds.long
      (λ s.
      let y = (h.1.there s).0 in
      record {
        passes = room-there w k y;
        answers = rw y;
        holds = rw (h.0, filed-again w k s y (passes-changing set_kind w (sym pass)).1) (sound-written w s);
        still = λ z. h.0;
      })

  -- by whether there was none
  pub set-insert-told : (o : std.Option Spot) → r ≡ Ok o → Meets (set_insert k) w u (answered (is_none o))
  set-insert-told None e = set-insert-new e
  set-insert-told (Some x) e = set-insert-present e

-- ---- replace

module _ {k : ℕ} {w : List ℕ} {r : Result (std.Option Spot) Unsound} (x : ℕ) (pass : 0 ≡ refusal (change_tests map_kind w)) (finds : Finds w k r) where
  pub replace-over : {v : List ℕ} {p i old : ℕ} → r ≡ Ok (Some (spot p i)) → Writes p i x w v old → Meets (map_replace k x) w v (answered (some old))
  replace-over {p = p} {i = i} e writes =
      meets-answered (λ w p. (refl, refl)) (keeps-map-replace k x) pass writes.only.long
      (λ s.
      let o = overwritten w k (finds.here p i e) writes s in
      record { passes = refl; answers = sym o.1; holds = rw o.0 o.2; still = λ n. contrary o.0 (not-true (member w k) n) })

  pub replace_absent : r ≡ Ok None → Meets (map_replace k x) w w (answered none)
  replace_absent e =
      meets-answered (λ w p. (refl, refl)) (keeps-map-replace k x) pass refl
      (λ s. let n = finds.absent e s in record { passes = refl; answers = sym (absent-value w k s n); holds = rw n (sound-written w s); still = λ z. refl })

-- ---- remove, of a map or a set

abbrev strikes : {A : Type 0} → ℕ → ℕ → (Pool → A) → Call A
strikes kind k answer = record { early = change_tests kind; late = λ p. []; answer = answer; after = strike k; still = λ p. not (has k (held_by p)) }

pub there-some : (o : std.Option ℕ) → there (option_of o) ≡ is_some o
there-some (Some x) = refl
there-some None = refl

-- by what is struck out, if anything
module _ {A : Type 0} (kind : ℕ) {k : ℕ} {answer : Pool → A} {w v : List ℕ} {a : A} (keeps : Keeps (strikes kind k answer)) (pass : 0 ≡ refusal (change_tests kind w)) where
  pub removes : (o : std.Option ℕ) → Strikes k w v (Ok o) → (view w k ≡ option_of o → a ≡ answer (pool_of w)) → Meets (strikes kind k answer) w v (answered a)
  unfolding strike
  removes (Some old) removal says =
      meets-answered (λ w p. (refl, refl)) keeps pass removal.long
      (λ s.
      let o = removal.value old refl s in
      let y = value_there w k o.value in
      record {
        passes = refl;
        answers = says o.value;
        holds = rw y o.holds;
        still = λ n. contrary y (not-true (member w k) n);
      })
  removes None removal says =
      let h = removal.absent refl in
      meets-answered (λ w p. (refl, refl)) keeps pass removal.long
      (λ s. let o = h.1 s in record { passes = refl; answers = says o; holds = rw (h.0, value_none w k o) (sound-written w s); still = λ z. h.0 })

-- ---- get and contains

abbrev found : ℕ → Pool → Found
found k p = record { value = lookup k (held_by p); read = pages_read k p }

abbrev seen : ℕ → Pool → Seen
seen k p = record { present = has k (held_by p); read = pages_read k p }

reads-answered : {A : Type 0} (kind : ℕ) {answer : Pool → A} {w : List ℕ} {a : A} → 0 ≡ refusal (read_tests kind w) → (Sound w → a ≡ answer (pool_of w))
    → Meets (reads (read_tests kind) answer) w w (answered a)
reads-answered kind {answer} pass exact = meets-read (read_tests kind) answer (λ w p. (refl, refl)) pass exact

-- what search answers, taken apart
abbrev value_in : Result (std.Option search.Found) Unsound → ℕ
value_in (Ok (Some f)) = f.value
value_in (Ok None) = 0
value_in (Err e) = 0

abbrev read_in : Result (std.Option search.Found) Unsound → ℕ
read_in (Ok (Some f)) = f.read
read_in (Ok None) = 0
read_in (Err e) = 0

-- of a value that there is, and of none
found-value : (o : Option ℕ) (read : ℕ) {f : search.Found} → Ok (Some f) ≡ got_by 0 o read → (o ≡ some f.value) × (read ≡ f.read)
found-value (some v) read {f} e = let r : f.read ≡ 0 + read = ap read_in e in (ap some (sym (ap value_in e)), omega arith)
found-value none read e = never (cc)

found_none : (o : Option ℕ) (read : ℕ) → Ok None ≡ got_by 0 o read → o ≡ none
found_none (some v) read e = never (cc)
found_none none read e = refl

never-unsound : (o : Option ℕ) (read : ℕ) (e : Unsound) → Err e ≢ got_by 0 o read
never-unsound (some v) read e q = never (cc)
never-unsound none read e q = never (cc)

module _ (k : ℕ) (w : List ℕ) {r : Result (std.Option search.Found) Unsound} (gets : Gets w k r × ReadFew (levels_word w) r) where
  pub gets-value : {f : search.Found} → r ≡ Ok (Some f) → Sound w → (view w k ≡ some f.value) × (pages_read k (pool_of w) ≡ f.read)
  gets-value e s = found-value (view w k) (pages_read k (pool_of w)) (sym e ∙ gets.0 s)

  -- the pages read are all levels where the key is absent
  gets-absent : r ≡ Ok None → Sound w → (view w k ≡ none) × (pages_read k (pool_of w) ≡ levels_word w)
  gets-absent e s = let o = found_none (view w k) (pages_read k (pool_of w)) (sym e ∙ gets.0 s) in (o, read-absent k w s (value_none w k o))

  pub get-unsound : {A : Type 0} (kind : ℕ) {answer : Pool → A} {read : A → ℕ} {x : Unsound} → 0 ≡ refusal (read_tests kind w) → r ≡ Err x
      → ReadsPages (reads (read_tests kind) answer) read w w (refused 9)
  get-unsound kind {answer} {x = x} pass e =
      pages-refused (meets-unsound (λ w p. (refl, refl)) (keeps-reads (read_tests kind) answer) pass
      (refl, λ s. never-unsound (view w k) (pages_read k (pool_of w)) x (sym e ∙ gets.0 s)))

  pub get_value : (kind : ℕ) {f : search.Found} → 0 ≡ refusal (read_tests kind w) → r ≡ Ok (Some f)
      → ReadsPages (gets_in kind k) (λ f. f.read) w w (answered (record { value = some f.value; read = f.read }))
  get_value kind {f} pass e = pages-told (reads-answered kind pass (λ s. let g = gets-value e s in cc)) (gets.1 f e)

  pub get_absent : (kind : ℕ) {n : ℕ} → 0 ≡ refusal (read_tests kind w) → r ≡ Ok None → n ≡ levels_word w
      → ReadsPages (gets_in kind k) (λ f. f.read) w w (answered (record { value = none; read = n }))
  get_absent kind pass e levels = pages-told (reads-answered kind pass (λ s. let g = gets-absent e s in cc)) (omega arith)

-- ---- a reading call by another of the same tests

abbrev mapped : {A B : Type 0} → (A → B) → Outcome A → Outcome B
mapped f (refused n) = refused n
mapped f (answered a) = answered (f a)

mapped-refused : {A B : Type 0} (f : A → B) (r : Outcome A) (n : ℕ) → mapped f r ≡ refused n → r ≡ refused n
mapped-refused f (refused m) n e = cc
mapped-refused f (answered a) n e = never (cc)

mapped-given : {A B : Type 0} (f : A → B) (n : ℕ) (a : A) → mapped f (given n a) ≡ given n (f a)
mapped-given f zero a = refl
mapped-given f (suc n) a = refl

module _ {A B : Type 0} (f : A → B) (tests : List ℕ → List Test) (one : Pool → A) (other : Pool → B) (w : List ℕ) (same : f (one (pool_of w)) ≡ other (pool_of w)) where
  reads-mapped : (r : Outcome A) → Meets (reads tests one) w w r → Meets (reads tests other) w w (mapped f r)
  reads-mapped r meets = record {
    long = meets.long;
    early = λ n e. rw (meets.early n e);
    late = λ n e q. meets.late n e (mapped-refused f r n q);
    kept = λ n q. refl;
    sound = meets.sound;
    exact = λ s. ap (mapped f) (meets.exact s) ∙ mapped-given f (number (reads tests one) w) (one (pool_of w)) ∙ ap (given (number (reads tests one) w)) same;
    holds = meets.holds;
    still = meets.still;
  }

  pages-mapped : (read : A → ℕ) (read' : B → ℕ) → ((a : A) → read' (f a) ≡ read a) → (r : Outcome A) → ReadsPages (reads tests one) read w w r
      → ReadsPages (reads tests other) read' w w (mapped f r)
  pages-mapped read read' kept (refused n) pages = pages-refused (reads-mapped (refused n) pages.meets)
  pages-mapped read read' kept (answered a) pages = pages-told (reads-mapped (answered a) pages.meets) (rw kept (pages.few a refl))

-- contains answers whether get does
abbrev there_of : Found → Seen
there_of a = record { present = there a.value; read = a.read }

module _ (kind k : ℕ) (w : List ℕ) where
  pub contains-by-get : {r : Outcome Found} → ReadsPages (gets_in kind k) (λ f. f.read) w w r
      → ReadsPages (contains_in kind k) (λ f. f.read) w w (mapped there_of r)
  contains-by-get {r} pages =
      let h = has-lookup k (held_by (pool_of w)) in
      pages-mapped there_of (read_tests kind) (found k) (seen k) w (cc) (λ f. f.read) (λ f. f.read) (λ a. refl) r pages

  pub contains-there : (g : GotBy) {b : Bool} → b ≡ is_some g.value → ReadsPages (gets_in kind k) (λ f. f.read) w w (answered (found_of g))
      → ReadsPages (contains_in kind k) (λ f. f.read) w w (answered (record { present = b; read = g.read }))
  contains-there g e pages = rw (e, ← there-some g.value) (contains-by-get pages)

-- a set's get answers the key where contains says that it is there
abbrev key_of : ℕ → Seen → Found
key_of k a = record { value = cond a.present (some k) none; read = a.read }

module _ (k : ℕ) (w : List ℕ) where
  pub set-get-by-contains : {r : Outcome Seen} → ReadsPages (set_contains k) (λ f. f.read) w w r
      → ReadsPages (set_get k) (λ f. f.read) w w (mapped (key_of k) r)
  set-get-by-contains {r} pages =
      pages-mapped (key_of k) (read_tests set_kind) (seen k) (λ p. key_of k (seen k p)) w refl (λ f. f.read) (λ f. f.read) (λ a. refl) r pages

  pub set-get-there : (s : SeenBy) → s.present ≡ true → ReadsPages (set_contains k) (λ f. f.read) w w (answered (seen_of s))
      → ReadsPages (set_get k) (λ f. f.read) w w (answered (record { value = some k; read = s.read }))
  set-get-there s y pages = rw y at (set-get-by-contains pages)

  pub set-get-none : (s : SeenBy) → s.present ≡ false → ReadsPages (set_contains k) (λ f. f.read) w w (answered (seen_of s))
      → ReadsPages (set_get k) (λ f. f.read) w w (answered (record { value = none; read = s.read }))
  set-get-none s n pages = rw n at (set-get-by-contains pages)
