-- How a call comes to meet its promise: the early tests first, and where none of them applies what is left to show. 6
-- and 7 come after every other number in document 01's order, so a call that passes its early tests is given the number
-- of its late ones.
-- Assumes nothing.
use mathlib.Core.Path.{◌≡◌, refl, sym, ap, ap₂, subst, ◌∙◌}
use mathlib.Core.Bool.{Bool, true, false, not, cond}
use mathlib.Core.Logic.{◌⊎◌, inl}
use mathlib.Core.List.{List, [], ◌∷◌, ◌++◌, map}
use Prim.Native.Nat.{ℕ, zero, suc, ◌≤◌}
use native.Mathlib.Omega.{arith}
use lib.Dec.{eqb}
use lib.ListN.{length}
use borrow.Author.Tests.{eq-eqb, ne_eqb}
use Rattle.model.specs.Basics.{All, every}
use Rattle.model.specs.Head.{headed, kind_word, open_word}
use Rattle.model.specs.Entries.{shut, gap}
use Rattle.model.specs.Pool.{Pool, pool_of, cursor_of}
use Rattle.model.specs.Sound.{Sound}
use Rattle.model.specs.Written.{Written}
use Rattle.model.specs.Refusal.{Test, refusal, names, applies, first_of}
use Rattle.model.specs.Call.{Call, Outcome, refused, answered, given, left, number, Meets, reads}
use Rattle.model.specs.MapCalls.{read_tests, change_tests}
use Rattle.model.specs.CursorCalls.{cursor_tests}
use Rattle.model.proofs.Cases.{either, either-eq, never, contrary}
use Rattle.model.proofs.Basics.{every_true}
use Rattle.model.proofs.Head.{head-facts}
use Rattle.model.proofs.Right.{Right, sound-right}
use Rattle.model.proofs.Keeps.{Keeps, of-kind, shut-there, keeps-reads}
use Rattle.model.proofs.Written.{sound-written, written-sound, written-pool}

-- ---- what is given, and its number

pub given-answered : {A : Type 0} (n : ℕ) (a b : A) → answered b ≡ given n a → (n ≡ 0) × (b ≡ a)
given-answered zero a b e = (refl, cc)
given-answered (suc n) a b e = never (cc)

pub given-refused : {A : Type 0} (m n : ℕ) (a : A) → refused n ≡ given m a → (m ≡ n) × (1 ≤ n)
given-refused zero n a e = never (cc)
given-refused (suc m) n a e = let same : suc m ≡ n = cc in (same, omega arith)

-- ---- the tests of a call, in their two parts

abbrev pub is_late : ℕ → Bool
is_late n = cond (eqb n 6) true (eqb n 7)

-- no early test is 6 or 7, and every late one is
abbrev pub Apart : List Test → List Test → Type 0
Apart early late = (every (map (λ t. not (is_late t.number)) early) ≡ true) × (every (map (λ t. is_late t.number) late) ≡ true)

abbrev pub Staged : {A : Type 0} → Call A → Type 0
Staged c = (w : List ℕ) (p : Pool) → Apart (c.early w) (c.late p)

-- ---- tests of which none has a number, by themselves and on either side of others

module _ (n : ℕ) where
  unnamed : (ts : List Test) → names n ts ≡ false → applies n ts ≡ false
  unnamed [] = λ none. refl
  unnamed (t ∷ ts) = either (eqb t.number n) (λ y. rw y (contrary refl)) (λ z. rw z (unnamed ts))

  unnamed-before : (ts us : List Test) → names n ts ≡ false → applies n (ts ++ us) ≡ applies n us
  unnamed-before [] us = λ none. refl
  unnamed-before (t ∷ ts) us = either (eqb t.number n) (λ y. rw y (contrary refl)) (λ z. rw z (unnamed-before ts us))

  unnamed-after : (ts us : List Test) → names n us ≡ false → applies n (ts ++ us) ≡ applies n ts
  unnamed-after [] us none = unnamed us none
  unnamed-after (t ∷ ts) us none = ap (λ (b : Bool). cond (eqb t.number n) t.holds b) (unnamed-after ts us none)

  -- those whose numbers are all of another sort
  other-sort : (sort : ℕ → Bool) (ts : List Test) → sort n ≡ false → All (λ b. b ≡ true) (map (λ t. sort t.number) ts) → names n ts ≡ false
  other-sort sort [] apart all = refl
  other-sort sort (t ∷ ts) apart all = rw (ne_eqb t.number n (λ e. contrary all.0 (ap sort e ∙ apart))) (other-sort sort ts apart all.1)

-- ---- the order in the same two parts

abbrev early_ones : List ℕ
early_ones = 1 ∷ 2 ∷ 3 ∷ 8 ∷ 4 ∷ 5 ∷ 9 ∷ []

abbrev late_ones : List ℕ
late_ones = 6 ∷ 7 ∷ []

abbrev or_else : ℕ → ℕ → ℕ
or_else zero m = m
or_else (suc n) m = suc n

first-of-two : (ns ms : List ℕ) (ts : List Test) → All (λ n. 1 ≤ n) ns → first_of (ns ++ ms) ts ≡ or_else (first_of ns ts) (first_of ms ts)
first-of-two [] ms ts some = refl
first-of-two (zero ∷ ns) ms ts some = absurd (omega arith)
first-of-two (suc n ∷ ns) ms ts some = either (applies (suc n) ts) (λ y. rw y) (λ z. rw z (first-of-two ns ms ts some.1))

module _ (early late : List Test) (apart : Apart early late) where
  no-early : (n : ℕ) → is_late n ≡ true → names n early ≡ false
  no-early n l = other-sort n (λ m. not (is_late m)) early (rw l) (every_true (map (λ t. not (is_late t.number)) early) apart.0)

  no-late : (n : ℕ) → is_late n ≡ false → names n late ≡ false
  no-late n l = other-sort n is_late late l (every_true (map (λ t. is_late t.number) late) apart.1)

  both-number : refusal (early ++ late) ≡ or_else (refusal early) (refusal late)
  both-number = first-of-two early_ones late_ones (early ++ late) (omega arith) ∙ simp (unnamed-after, unnamed-before, unnamed, no-early, no-late)

pub number-early : (early late : List Test) (n : ℕ) → Apart early late → refusal early ≡ n → 1 ≤ n → refusal (early ++ late) ≡ n
number-early early late zero apart e some = absurd (omega arith)
number-early early late (suc n) apart e some = both-number early late apart ∙ ap (λ (m : ℕ). or_else m (refusal late)) e

pub number-late : (early late : List Test) → Apart early late → refusal early ≡ 0 → refusal (early ++ late) ≡ refusal late
number-late early late apart e = both-number early late apart ∙ ap (λ (m : ℕ). or_else m (refusal late)) e

-- ---- what is left to show of a call that passes its early tests

pub record Goes {A : Type 0} (c : Call A) (w v : List ℕ) (r : Outcome A) : Type 0 where
  pub long : length v ≡ length w
  pub late : (n : ℕ) → r ≡ refused n → (n ≡ 9) ⊎ (names n (c.late (pool_of w)) ≡ true)
  pub kept : (n : ℕ) → r ≡ refused n → v ≡ w
  pub exact : Sound w → r ≡ given (refusal (c.late (pool_of w))) (c.answer (pool_of w))
  pub holds : Sound w → refusal (c.late (pool_of w)) ≡ 0 → Written v (c.after (pool_of w))
  pub still : Sound w → c.still (pool_of w) ≡ true → v ≡ w

-- what a number leaves: the pool after, or the words as they were
by_number : {A : Type 0} (n : ℕ) (a : A) (v w : List ℕ) (r : Outcome A) (p : Pool) → Sound w → r ≡ given n a → ((m : ℕ) → r ≡ refused m → v ≡ w)
    → (n ≡ 0 → Right p × Written v p) → Sound v × (pool_of v ≡ left n (pool_of w) p)
by_number zero a v w r p s exact kept holds = let h = holds refl in (written-sound v p h.0 h.1, written-pool v p h.0 h.1)
by_number (suc n) a v w r p s exact kept holds = rw (kept (suc n) exact) (s, refl)

module _ {A : Type 0} (c : Call A) (staged : Staged c) (w : List ℕ) where
  abbrev p : Pool
  p = pool_of w

  pub meets-early : (n : ℕ) → refusal (c.early w) ≡ n → 1 ≤ n → Meets c w w (refused n)
  meets-early zero e some = absurd (omega arith)
  meets-early (suc n) e some =
      let early-number = number-early (c.early w) (c.late p) (suc n) (staged w p) e some in
      record {
        long = refl;
        early = λ m h. ap refused (sym e ∙ h);
        late = λ m h. absurd (omega arith);
        kept = λ m h. refl;
        sound = λ s. s;
        exact = λ s. rw early-number;
        holds = λ s. rw early-number;
        still = λ s h. refl;
      }

  pub meets-late : (v : List ℕ) (r : Outcome A) → Keeps c → refusal (c.early w) ≡ 0 → Goes c w v r → Meets c w v r
  meets-late v r keeps e goes = record {
    long = goes.long;
    early = λ n h. absurd (omega arith);
    late = λ n h. goes.late n;
    kept = goes.kept;
    sound = λ s. (after s).0;
    exact = λ s. rw late-number (goes.exact s);
    holds = λ s. rw late-number (after s).1;
    still = goes.still;
  }
    where
      late-number : number c w ≡ refusal (c.late p)
      late-number = number-late (c.early w) (c.late p) (staged w p) e

      after : Sound w → Sound v × (pool_of v ≡ left (refusal (c.late p)) p (c.after p))
      after s =
          by_number (refusal (c.late p)) (c.answer p) v w r (c.after p) s (goes.exact s) goes.kept
          (λ z. (keeps w s (late-number ∙ z), goes.holds s z))

-- what an answer asks of a sound pool
pub record Ends {A : Type 0} (c : Call A) (w v : List ℕ) (a : A) : Type 0 where
  pub passes : refusal (c.late (pool_of w)) ≡ 0
  pub answers : a ≡ c.answer (pool_of w)
  pub holds : Written v (c.after (pool_of w))
  pub still : c.still (pool_of w) ≡ true → v ≡ w

module _ {A : Type 0} {c : Call A} {w v : List ℕ} (staged : Staged c) (keeps : Keeps c) (pass : 0 ≡ refusal (c.early w)) where
  pub meets-answered : {a : A} → length v ≡ length w → (Sound w → Ends c w v a) → Meets c w v (answered a)
  meets-answered {a} long ends =
      meets-late c staged w v (answered a) keeps (sym pass)
      (record {
        long = long;
        late = λ n e. never (cc);
        kept = λ n e. never (cc);
        exact = λ s. ap₂ given (sym (ends s).passes) (ends s).answers;
        holds = λ s z. (ends s).holds;
        still = λ s. (ends s).still;
      })

  pub meets-stopped : (n : ℕ) → v ≡ w → (suc n ≡ 9) ⊎ (names (suc n) (c.late (pool_of w)) ≡ true) → (Sound w → refusal (c.late (pool_of w)) ≡ suc n)
      → Meets c w v (refused (suc n))
  meets-stopped n kept late exact =
      meets-late c staged w v (refused (suc n)) keeps (sym pass)
      (record {
        long = ap length kept;
        late = λ m e. subst (λ (i : ℕ). (i ≡ 9) ⊎ (names i (c.late (pool_of w)) ≡ true)) (cc) late;
        kept = λ m e. kept;
        exact = λ s. ap (λ (i : ℕ). given i (c.answer (pool_of w))) (sym (exact s));
        holds = λ s z. absurd (omega (arith, exact s));
        still = λ s z. kept;
      })

  -- never on a sound pool
  pub meets-unsound : (v ≡ w) × (Sound w → ⊥) → Meets c w v (refused 9)
  meets-unsound told = meets-stopped 8 told.0 (inl refl) (λ s. absurd (told.1 s))

-- a call that only reads
pub meets-read : {A : Type 0} (tests : List ℕ → List Test) (answer : Pool → A) {w : List ℕ} {a : A} → Staged (reads tests answer) → 0 ≡ refusal (tests w)
    → (Sound w → a ≡ answer (pool_of w)) → Meets (reads tests answer) w w (answered a)
meets-read tests answer {w} staged pass exact =
    meets-answered staged (keeps-reads tests answer) pass refl (λ s. record { passes = refl; answers = exact s; holds = sound-written w s; still = λ z. refl })

-- ---- what it means to pass

pub passes-reading : (kind : ℕ) (w : List ℕ) → refusal (read_tests kind w) ≡ 0 → (headed w ≡ true) × (kind_word w ≡ kind)
passes-reading kind w e = let a = of-kind w kind 0 e in (a.0, a.1)

-- what refuses a call that reads refuses it whatever tests follow; and past those the number is that of the tests that
-- follow
module _ (kind : ℕ) (w : List ℕ) (rest : ℕ) where
  pub reading-first : (n : ℕ) → 1 ≤ n → n ≡ refusal (read_tests kind w) → n ≡ cond (not (headed w)) 1 (cond (not (eqb (kind_word w) kind)) 2 rest)
  reading-first n some =
      either (headed w)
      (λ h. rw h (either (eqb (kind_word w) kind) (λ k. rw k (λ e. absurd (omega arith))) (λ k. rw k (λ e. e))))
      (λ h. rw h (λ e. e))

  pub reading-passed : 0 ≡ refusal (read_tests kind w) → cond (not (headed w)) 1 (cond (not (eqb (kind_word w) kind)) 2 rest) ≡ rest
  reading-passed pass = let a = passes-reading kind w (sym pass) in rw (a.0, eq-eqb (kind_word w) kind a.1)

pub passes-changing : (kind : ℕ) (w : List ℕ) → refusal (change_tests kind w) ≡ 0 → (headed w ≡ true) × (kind_word w ≡ kind) × ((pool_of w).cursor ≡ shut)
passes-changing kind w e = let a = of-kind w kind _ e in (a.0, a.1, (shut-there w a.0 0 a.2).0)

-- a sound pool whose cursor is in a gap is a map with an open cursor, so the cursor's calls pass their tests
module _ (w : List ℕ) {g : ℕ} (s : Sound w) (open-there : (pool_of w).cursor ≡ gap g) where
  pub gap-opened : open_word w ≡ 1
  unfolding pool_of cursor_of
  gap-opened =
      either-eq (open_word w) 0
      (λ z. let lost = rw (eq-eqb (open_word w) 0 z) at open-there in never (cc))
      (λ n. omega (arith, (head-facts w s.head).opened))

  pub gap-map : kind_word w ≡ 0
  unfolding pool_of
  gap-map = either-eq (kind_word w) 1 (λ k. let lost = sym open-there ∙ (sound-right w s).closed k in never (cc)) (λ n. omega (arith, (head-facts w s.head).kind))

  pub gap-passes : refusal (cursor_tests w) ≡ 0
  gap-passes = rw (s.head, gap-map, gap-opened)
