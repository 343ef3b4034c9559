-- Any two outcomes that a promise allows, from the same words and arguments, agree: one law for each shape of promise.
-- (A line for each call: map and cursor, proofs/Determined.)
-- Assumes nothing.
use mathlib.Core.Path.{◌≡◌, refl, sym, ap, ap₂, subst, ◌∙◌}
use mathlib.Core.Bool.{Bool}
use mathlib.Core.List.{List, [], ◌∷◌, map}
use Prim.Native.Nat.{ℕ, suc, min, ◌+◌}
use native.Mathlib.Omega.{arith}
use lib.ListN.{length, take, drop}
use Rattle.model.specs.Basics.{All}
use Rattle.model.specs.Head.{least_of}
use Rattle.model.specs.Tree.{Entry}
use Rattle.model.specs.Bound.{bound_of}
use Rattle.model.specs.Entries.{between, gap}
use Rattle.model.specs.Pool.{pool_of, held_by, gap_by, with_cursor}
use Rattle.model.specs.Sound.{Sound}
use Rattle.model.specs.Alike.{Alike}
use Rattle.model.specs.Refusal.{Test, refusal}
use Rattle.model.specs.Call.{Call, Outcome, refused, answered}
use Rattle.model.specs.ListCalls.{Column, shortest, fronted, list_tests}
use Rattle.model.specs.CursorCalls.{cursor_tests}
use Rattle.model.specs.Playback.{played}
use Rattle.model.specs.Agree.{OneToOne, Agree, NearBy, Determined, ExactDetermined, ChecksDetermined, LentSame, LeftSame, ListsDetermined, PlaysDetermined}
use Rattle.model.proofs.Cases.{either, either-zero}
use Rattle.model.proofs.Standing.{page-alike-self}
use Rattle.model.proofs.Alike.{alike}

pub alike_self : (w v : List ℕ) → w ≡ v → Alike w v
alike_self w v e = rw e (record { long = refl; front = refl; pages = λ p t. page-alike-self (least_of v) refl })

module _ {R A : Type 0} (of : R → Outcome A) (one : OneToOne of) where
  -- two that are given the same
  same-given : {r s : R} {o : Outcome A} → of r ≡ o → of s ≡ o → r ≡ s
  same-given {r} {s} a b = one r s (a ∙ sym b)

  -- the shape: early refusals that come to both, refusals that leave all as it was, and what is left to show where the
  -- early tests pass
  agree : (early : List Test) (decided : Type 0) (r s : R) (Same Near : Type 0) → ((n : ℕ) → refusal early ≡ suc n → (of r ≡ refused (suc n)) × (of s ≡ refused (suc n)))
      → ((n m : ℕ) → of r ≡ refused n → of s ≡ refused m → Same) → (Same → Near) → (decided → refusal early ≡ 0 → (r ≡ s) × Near) → Agree of early decided r s Same Near
  agree early decided r s Same Near told kept near passed = record {
    first = λ some. either-zero (refusal early) (λ z. absurd (omega arith)) both;
    refusals = kept;
    answers = λ x. either-zero (refusal early) (λ z. (passed x z).0) (λ n e. (both n e).0);
    words = λ x. either-zero (refusal early) (λ z. (passed x z).1) (λ n e. near (both n e).1);
  }
    where
      both : (n : ℕ) → refusal early ≡ suc n → (r ≡ s) × Same
      both n e = let t = told n e in (same-given t.0 t.1, kept (suc n) (suc n) t.0 t.1)

  -- a call that is lent one pool
  pub determined : (c : Call A) → Determined c of
  determined c w v u r s vs us a b =
      agree (c.early w) (Sound w) r s (v ≡ u) (NearBy c w v u)
      (λ n e. (a.early n e, b.early n e))
      (λ n m e f. a.kept n e ∙ sym (b.kept m f))
      (λ e. (alike_self v u e, λ z. e))
      (λ x z. (
        same-given (a.exact x) (b.exact x),
        (alike v u vs us (a.sound x) (b.sound x) (a.holds x ∙ sym (b.holds x)), λ t. a.still x t ∙ sym (b.still x t)),
      ))

-- ---- exact on any words

pub exact-determined : {R A : Type 0} (of : R → Outcome A) → OneToOne of → ExactDetermined of
exact-determined of one tests answer w new v u r s a b = (same-given of one a.exact b.exact, a.words ∙ sym b.words)

pub checks-determined : {R : Type 0} (of : R → Bool) → OneToOne of → ChecksDetermined of
checks-determined of one w r s a b =
    one r s
    (either (of r)
    (λ y. y ∙ sym (b.sound-yes (a.yes-sound y)))
    (λ n. either (of s) (λ y. a.sound-yes (b.yes-sound y) ∙ sym y) (λ m. n ∙ sym m)))

-- ---- lent slices

pub shortest-same : (cs ds : List Column) → LentSame cs ds → shortest cs ≡ shortest ds
shortest-same [] [] l = refl
shortest-same [] (d ∷ ds) l = absurd l
shortest-same (c ∷ cs) [] l = absurd l
shortest-same (c ∷ []) (d ∷ []) l = ap length l.1
shortest-same (c ∷ []) (d ∷ x ∷ ds) l = absurd l.2
shortest-same (c ∷ x ∷ cs) (d ∷ []) l = absurd l.2
shortest-same (c ∷ x ∷ cs) (d ∷ y ∷ ds) l = ap₂ min (ap length l.1) (shortest-same (x ∷ cs) (y ∷ ds) l.2)

-- what is left depends on what was lent
left-same : (f : (Entry → ℕ) → List ℕ → List ℕ) (cs ds : List Column) → LentSame cs ds → All (λ c. c.after ≡ f c.part c.before) cs
    → All (λ c. c.after ≡ f c.part c.before) ds → LeftSame cs ds
left-same f [] ds l a b = tt
left-same f (c ∷ cs) [] l a b = tt
left-same f (c ∷ cs) (d ∷ ds) l a b = (a.0 ∙ ap₂ f l.0 l.1 ∙ sym b.0, left-same f cs ds l.2 a.1 b.1)

pub kept_same : (cs ds : List Column) → LentSame cs ds → All (λ c. c.after ≡ c.before) cs → All (λ c. c.after ≡ c.before) ds → LeftSame cs ds
kept_same cs ds = left-same (λ part before. before) cs ds

-- entries by the shortest slice, written to each
pub fronted-same : (es : ℕ → List Entry) (cs ds : List Column) → LentSame cs ds → All (λ c. c.after ≡ fronted (map c.part (es (shortest cs))) c.before) cs
    → All (λ c. c.after ≡ fronted (map c.part (es (shortest ds))) c.before) ds → LeftSame cs ds
fronted-same es cs ds l a b =
    left-same (λ part before. fronted (map part (es (shortest cs))) before) cs ds l a
    (subst (λ (n : ℕ). All (λ c. c.after ≡ fronted (map c.part (es n)) c.before) ds) (sym (shortest-same cs ds l)) b)

module _ {R : Type 0} (of : R → Outcome ℕ) (one : OneToOne of) where
  pub same_count : {r s : R} (es : ℕ → List Entry) (cs ds : List Column) → LentSame cs ds → of r ≡ answered (length (es (shortest cs)))
      → of s ≡ answered (length (es (shortest ds))) → r ≡ s
  same_count es cs ds l a b = same-given of one a (b ∙ ap (λ (n : ℕ). answered (length (es n))) (sym (shortest-same cs ds l)))

  pub lists-determined : ListsDetermined of
  lists-determined kind lower from upper to w cs ds r s l a b =
      let es : ℕ → List Entry = λ n. take n (between (bound_of lower from) (bound_of upper to) (held_by (pool_of w))) in
      agree of one (list_tests kind lower upper w) (Sound w) r s (LeftSame cs ds) (LeftSame cs ds)
      (λ n e. (a.early n e, b.early n e))
      (λ n m e f. kept_same cs ds l (a.kept n e) (b.kept m f))
      (λ same. same)
      (λ x z. (same_count es cs ds l (a.exact x z) (b.exact x z), fronted-same es cs ds l (a.writes x z) (b.writes x z)))

  pub plays-determined : PlaysDetermined of
  plays-determined w v u cs ds r s l vs us a b =
      let p = pool_of w in
      let es : ℕ → List Entry = λ n. take n (drop (gap_by p) (held_by p)) in
      let short = shortest-same cs ds l in
      agree of one (cursor_tests w) (Sound w) r s ((v ≡ u) × LeftSame cs ds) (Alike v u × (played cs p ≡ [] → v ≡ u) × LeftSame cs ds)
      (λ n e. (a.early n e, b.early n e))
      (λ n m e f. let x = a.kept n e in let y = b.kept m f in (x.0 ∙ sym y.0, kept_same cs ds l x.1 y.1))
      (λ same. (alike_self v u same.0, λ z. same.0, same.1))
      (λ x z. (
        same_count es cs ds l (a.exact x z) (b.exact x z),
        (
          alike v u vs us (a.sound x) (b.sound x) (a.holds x z ∙ ap (λ (n : ℕ). with_cursor p (gap (gap_by p + length (es n)))) short ∙ sym (b.holds x z)),
          λ none. a.still x z none ∙ sym (b.still x z (ap es (sym short) ∙ none)),
          fronted-same es cs ds l (a.writes x z) (b.writes x z),
        ),
      ))
