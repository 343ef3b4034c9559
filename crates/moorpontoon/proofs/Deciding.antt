-- Any two outcomes of an exported function agree where those of the call below do: once over `Exported`, then for each
-- shape of promise. (A line for each function: Determined.)
-- Assumes nothing.
use mathlib.Core.Path.{◌≡◌, refl, sym, ap, subst, ◌∙◌}
use mathlib.Core.Bool.{Bool, false}
use mathlib.Core.Logic.{⊎_elim, ◌≢◌}
use mathlib.Core.List.{List, []}
use Prim.Native.Nat.{ℕ, ◌<◌}
use native.Mathlib.Omega.{arith}
use lib.ListN.{length}
use Rattle.model.specs.Basics.{All}
use Rattle.model.specs.Bound.{Bound, bound_of}
use Rattle.model.specs.Pool.{pool_of, Pool}
use Rattle.model.specs.Sound.{Sound}
use Rattle.model.specs.Refusal.{Test, refusal, names}
use Rattle.model.specs.Call.{Call, Outcome, refused, answered, Meets, Exact, ReadsPages}
use Rattle.model.specs.ListCalls.{Column, fronted, list_tests, Lists}
use Rattle.model.specs.Agree.{Agree, NearBy, LeftSame}
use Rattle.moorpontoon.specs.Words.{amount, whether}
use Rattle.moorpontoon.specs.Exported.{out_words, Gives, Exported, ChecksOnly}
use Rattle.moorpontoon.specs.Decided.{Decided, CalledDecided, ListDecided}
use Rattle.model.proofs.Cases.{either_lt, either-zero, contrary, never}
use Rattle.model.proofs.Making.{exact-refused}
use Rattle.model.proofs.Agree.{alike_self, determined, exact-determined, checks-determined, lists-determined, kept_same}

-- ---- once over `Exported`

-- one outcome: the call below says r
module _ {A : Type 0} (words : A → List ℕ) (promise : Outcome A → Type 0) (kept : Type 0) (before after : List ℕ) (n : ℕ) where
  -- 0 exactly for an answer
  told-zero : (r : Outcome A) → (promise (refused 0) → ⊥) → promise r → Gives words r before after n → n ≡ 0
      → (a : A) × promise (answered a) × (after ≡ fronted (words a) before)
  told-zero (answered a) numbered met gives z = (a, met, gives.1)
  told-zero (refused m) numbered met gives z = absurd (numbered (subst (λ (k : ℕ). promise (refused k)) (sym gives.0 ∙ z) met))

  told-number : (r : Outcome A) → promise r → Gives words r before after n → n ≢ 0 → promise (refused n)
  told-number (answered a) met gives some = absurd (some gives.0)
  told-number (refused m) met gives some = subst (λ (k : ℕ). promise (refused k)) (sym gives.0) met

  told-other : (r : Outcome A) → ((m : ℕ) → promise (refused m) → kept) → promise r → Gives words r before after n → n ≢ 0 → (after ≡ before) × kept
  told-other (answered a) still met gives some = absurd (some gives.0)
  told-other (refused m) still met gives some = (gives.1, still m met)

  -- any other number leaves every lent word
  pub exported-other : ((m : ℕ) → promise (refused m) → kept) → Exported words promise kept before after n → n ≢ 0 → (after ≡ before) × kept
  exported-other still one some =
      either_lt (length before) out_words
      (λ few. let a = one.short few in (a.1, a.2))
      (λ long. let a = one.told long in told-other a.0 still a.1 a.2 some)

  pub exported-zero : (promise (refused 0) → ⊥) → Exported words promise kept before after n → n ≡ 0 → (a : A) × promise (answered a) × (after ≡ fronted (words a) before)
  exported-zero numbered one z =
      either_lt (length before) out_words
      (λ few. let a = one.short few in absurd (omega (arith, a.0)))
      (λ long. let a = one.told long in told-zero a.0 numbered a.1 a.2 z)

-- two outcomes
module _ {A : Type 0} (words : A → List ℕ) (before after after' : List ℕ) (n m : ℕ) where
  gives_same : (r s : Outcome A) → r ≡ s → Gives words r before after n → Gives words s before after' m → (n ≡ m) × (after ≡ after')
  gives_same r s e a b = go r a (subst (λ (x : Outcome A). Gives words x before after' m) (sym e) b)
    where
      go : (r : Outcome A) → Gives words r before after n → Gives words r before after' m → (n ≡ m) × (after ≡ after')
      go (refused k) a b = (a.0 ∙ sym b.0, a.1 ∙ sym b.1)
      go (answered k) a b = (a.0 ∙ sym b.0, a.1 ∙ sym b.1)

  module _ (promise promise' : Outcome A → Type 0) (kept kept' : Type 0) (early : List Test) (decided Same Near : Type 0)
      (one : Exported words promise kept before after n) (two : Exported words promise' kept' before after' m)
      (numbered : promise (refused 0) → ⊥) (still : (m : ℕ) → promise (refused m) → kept) (still' : (m : ℕ) → promise' (refused m) → kept')
      (same : kept → kept' → Same) (near : Same → Near)
      (agrees : (r s : Outcome A) → promise r → promise' s → Agree (λ r. r) early decided r s Same Near) where
    both-short : length before < out_words → (n ≡ m) × (after ≡ after') × Same
    both-short few =
        let a = one.short few in
        let b = two.short few in
        (a.0 ∙ sym b.0, a.1 ∙ sym b.1, same a.2 b.2)

    -- where the call's outcomes agree
    both_told : (C : Type 0) → (Same → C) → ((r s : Outcome A) → Agree (λ r. r) early decided r s Same Near → (r ≡ s) × C) → (n ≡ m) × (after ≡ after') × C
    both_told C by agreed =
        either_lt (length before) out_words
        (λ few. let b = both-short few in (b.0, b.1, by b.2))
        (λ long.
        let a = one.told long in
        let b = two.told long in
        let t = agreed a.0 b.0 (agrees a.0 b.0 a.1 b.1) in
        let g = gives_same a.0 b.0 t.0 a.2 b.2 in
        (g.0, g.1, t.1))

    pub exported-decided : Decided words promise kept early decided Same Near before after after' n m
    exported-decided = record {
      zero = exported-zero words promise kept before after n numbered one;
      number = λ long some. let a = one.told long in told-number words promise kept before after n a.0 a.1 a.2 some;
      other = exported-other words promise kept before after n still one;
      short = both-short;
      first = λ due. both_told Same (λ e. e) (λ r s a. a.first due);
      refusals = λ some more.
          let a = exported-other words promise kept before after n still one some in
          let b = exported-other words promise' kept' before after' m still' two more in
          (a.0 ∙ sym b.0, same a.1 b.1);
      answers = λ d. both_told Near near (λ r s a. (a.answers d, a.words d));
    }

-- ---- a call that is lent one pool

module _ {A : Type 0} (words : A → List ℕ) (c : Call A) (late : (p : Pool) → names 0 (c.late p) ≡ false) where
  meets-numbered : (w v : List ℕ) → Meets c w v (refused 0) → ⊥
  meets-numbered w v m =
      either-zero (refusal (c.early w))
      (λ z. ⊎_elim (λ e. omega arith) (λ e. contrary e (late (pool_of w))) (m.late 0 z refl))
      (λ n e. never (cc (m.early n e)))

  -- of a promise that is, or implies, the call's
  implied-decided : (promise : List ℕ → List ℕ → Outcome A → Type 0) → ((w v : List ℕ) (r : Outcome A) → promise w v r → Meets c w v r)
      → CalledDecided words promise c.early Sound (NearBy c)
  implied-decided promise implies w v u before after after' n m vs us one two =
      exported-decided words before after after' n m (promise w v) (promise w u) (v ≡ w) (u ≡ w) (c.early w) (Sound w) (v ≡ u) (NearBy c w v u) one two
      (λ p. meets-numbered w v (implies w v (refused 0) p))
      (λ k p. (implies w v (refused k) p).kept k refl)
      (λ k p. (implies w u (refused k) p).kept k refl)
      (λ a b. a ∙ sym b)
      (λ e. (alike_self v u e, λ z. e))
      (λ r s p q. determined (λ r. r) (λ r s e. e) c w v u r s vs us (implies w v r p) (implies w u s q))

  pub meets-decided : CalledDecided words (Meets c) c.early Sound (NearBy c)
  meets-decided = implied-decided (Meets c) (λ w v r m. m)

  pub pages-decided : (read : A → ℕ) → CalledDecided words (ReadsPages c read) c.early Sound (NearBy c)
  pages-decided read = implied-decided (ReadsPages c read) (λ w v r m. m.meets)

-- ---- a call that is exact on any words

abbrev pub Always : List ℕ → Type 0
Always w = Unit {0}

abbrev pub Equal : (w v u : List ℕ) → Type 0
Equal w v u = v ≡ u

pub exact-decided : {A : Type 0} (words : A → List ℕ) (tests : List ℕ → List Test) (answer : List ℕ → A) (new : List ℕ → List ℕ)
    → CalledDecided words (λ w. Exact (tests w) (answer w) w (new w)) tests Always Equal
exact-decided words tests answer new w v u before after after' n m vs us one two =
    exported-decided words before after after' n m (Exact (tests w) (answer w) w (new w) v) (Exact (tests w) (answer w) w (new w) u) (v ≡ w) (u ≡ w)
    (tests w) (Unit {0}) (v ≡ u) (v ≡ u) one two
    (λ p. let e = exact-refused p in omega (arith, e.1))
    (λ k p. (exact-refused p).2)
    (λ k p. (exact-refused p).2)
    (λ a b. a ∙ sym b)
    (λ e. e)
    (λ r s p q.
    let d = exact-determined (λ r. r) (λ r s e. e) (tests w) (answer w) w (new w) v u r s p q in
    record { first = λ due. d; refusals = λ k j e f. d.1; answers = λ t. d.0; words = λ t. d.1 })

-- check, which refuses nothing
pub check-decided : CalledDecided whether ChecksOnly (λ w. []) Always Equal
check-decided w v u before after after' n m vs us one two =
    exported-decided whether before after after' n m (ChecksOnly w v) (ChecksOnly w u) (v ≡ w) (u ≡ w) [] (Unit {0}) (v ≡ u) (v ≡ u) one two
    (λ p. p)
    (λ k p. absurd p)
    (λ k p. absurd p)
    (λ a b. a ∙ sym b)
    (λ e. e)
    agrees
  where
    agrees : (r s : Outcome Bool) → ChecksOnly w v r → ChecksOnly w u s → Agree (λ r. r) [] (Unit {0}) r s (v ≡ u) (v ≡ u)
    agrees (refused k) s p q = absurd p
    agrees (answered a) (refused k) p q = absurd q
    agrees (answered a) (answered b) p q =
        let left : v ≡ u = p.1 ∙ sym q.1 in
        let same : answered a ≡ answered b = ap answered (checks-determined (λ b. b) (λ r s e. e) w a b p.0 q.0) in
        record { first = λ due. (same, left); refusals = λ k j e f. left; answers = λ t. same; words = λ t. left }

-- ---- a list of a pool of a kind, into lent slices

lists-numbered : {tests : List Test} {low high : Bound} {w : List ℕ} {cs : List Column} → Lists tests low high w cs (refused 0) → ⊥
lists-numbered {tests} m =
    either-zero (refusal tests) (λ z. omega (arith, m.late 0 z refl)) (λ n e. never (cc (m.early n e)))

pub list-decided : (kind : ℕ) → ListDecided kind
list-decided kind lower from upper to w cs ds before after after' n m lent one two =
    exported-decided amount before after after' n m (listed cs) (listed ds) (kept cs) (kept ds) (list_tests kind lower upper w) (Sound w)
    (LeftSame cs ds) (LeftSame cs ds) one two
    lists-numbered
    (λ k p. p.kept k refl)
    (λ k p. p.kept k refl)
    (kept_same cs ds lent)
    (λ e. e)
    (λ r s p q. lists-determined (λ r. r) (λ r s e. e) kind lower from upper to w cs ds r s lent p q)
  where
    listed : List Column → Outcome ℕ → Type 0
    listed cs = Lists (list_tests kind lower upper w) (bound_of lower from) (bound_of upper to) w cs

    kept : List Column → Type 0
    kept cs = All (λ c. c.after ≡ c.before) cs
