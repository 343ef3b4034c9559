-- What the answers' meanings have in common: no refusal's number is 0, so a refusal is never taken for none; a refusal
-- is read back from its number, and an answer from what it says.
-- Assumes nothing.
use mathlib.Core.Path.{◌≡◌, refl, sym, ap, ◌∙◌}
use mathlib.Core.List.{[], ◌∷◌}
use Prim.Native.Nat.{ℕ, ◌-◌, ◌≤◌}
use native.Mathlib.Omega.{arith}
use lib.ListN.{get_or}
use Rattle.std.specs.Prelude.{Result, Ok, Err, IsErr, IsErrAnd}
use Rattle.std.proofs.lemmas.Result.{err_from_is_err_and}
use Rattle.model.specs.Call.{Outcome, refused, answered}
use Rattle.model.specs.Agree.{OneToOne}
use Rattle.model.proofs.Cases.{never}
use Rattle.map.specs.declared.refusal.Refusal.{Refusal}
use Rattle.map.specs.declared.refusal.Refusal.TheVariants as reason
use Rattle.map.specs.Answers.{number_of, outcome_of}

pub number-some : (n : Refusal) → 1 ≤ number_of n
number-some reason.Unfit = omega arith
number-some reason.OtherKind = omega arith
number-some reason.BadBound = omega arith
number-some reason.Opened = omega arith
number-some reason.Closed = omega arith
number-some reason.Misplaced = omega arith
number-some reason.NoRoom = omega arith
number-some reason.Lengths = omega arith
number-some reason.Unsound = omega arith

-- a refusal is read back from its number
abbrev pub refusal_of : ℕ → Refusal
refusal_of n =
    get_or (reason.Unfit ∷ reason.OtherKind ∷ reason.BadBound ∷ reason.Opened ∷ reason.Closed ∷ reason.Misplaced ∷ reason.NoRoom ∷ reason.Lengths ∷ []) (n - 1) reason.Unsound

pub refusal-back : (n : Refusal) → refusal_of (number_of n) ≡ n
refusal-back reason.Unfit = refl
refusal-back reason.OtherKind = refl
refusal-back reason.BadBound = refl
refusal-back reason.Opened = refl
refusal-back reason.Closed = refl
refusal-back reason.Misplaced = refl
refusal-back reason.NoRoom = refl
refusal-back reason.Lengths = refl
refusal-back reason.Unsound = refl

-- so 9 is given for one reason
pub nine-unsound : (e : Refusal) → number_of e ≡ 9 → e ≡ reason.Unsound
nine-unsound e q = sym (refusal-back e) ∙ ap refusal_of q

-- a refusal's number is given for that refusal
pub outcome-refused : {A B C : Type 0} (say : A → B) (r : Result A Refusal) (m : ℕ) → outcome_of say r ≡ refused m → ((e : Refusal) → r ≡ Err e → number_of e ≡ m → C) → C
outcome-refused say (Ok a) m q then = never (cc)
outcome-refused say (Err e) m q then = then e refl (cc)

-- what a `?` passes on where the caller's error is the callee's
pub err-same : {A E : Type 0} {r : Result A E} {e : E} → IsErr r × IsErrAnd r (λ x. x ≡ e) → r ≡ Err e
err-same {r = r} is = let (x, failed, same) = err_from_is_err_and r is.1 in failed ∙ ap Err same

-- an answer is read back from what it says: no two say the same
pub back-one-to-one : {R B : Type 0} (of : R → B) (back : B → R) → ((r : R) → back (of r) ≡ r) → OneToOne of
back-one-to-one of back law r s e = sym (law r) ∙ ap back e ∙ law s

-- every call that can refuse does so by a number; the rest of its answer is read back by `back`
abbrev outcome_back : {A B : Type 0} → (B → A) → Outcome B → Result A Refusal
outcome_back back (refused n) = Err (refusal_of n)
outcome_back back (answered b) = Ok (back b)

module _ {A B : Type 0} (say : A → B) (back : B → A) (law : (a : A) → back (say a) ≡ a) where
  outcome-law : (r : Result A Refusal) → outcome_back back (outcome_of say r) ≡ r
  outcome-law (Ok a) = rw law
  outcome-law (Err n) = rw refusal-back

  pub outcome-one-to-one : OneToOne (outcome_of say)
  outcome-one-to-one = back-one-to-one (outcome_of say) (outcome_back back) outcome-law
