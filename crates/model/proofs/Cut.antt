-- One page cut in two at entry n: nothing is lost, each page is met as often as before and page q once more, and both
-- halves are as full as the cut leaves them. Splits and mendings both cut so. Over a function `f` that says what is
-- below a child, so no levels occur here.
-- Assumes nothing.
use mathlib.Core.Path.{◌≡◌}
use mathlib.Core.List.{List, ◌∷◌, ◌++◌}
use Prim.Native.Nat.{ℕ, suc, ◌+◌, ◌≤◌, ◌<◌}
use native.Mathlib.Omega.{arith}
use lib.ListN.{length, get_or, length-take, length-drop}
use Rattle.model.specs.Basics.{same, All}
use Rattle.model.specs.Layout.{most_entries}
use Rattle.model.specs.Tree.{Entry, Node, no_entry, holds, passes, Filled}
use Rattle.model.specs.Insert.{cut_left, cut_right}
use Rattle.model.proofs.Basics.{all_take, all_drop}
use Rattle.model.proofs.Sums.{sum-cut}
use Rattle.model.proofs.Weave.{weave-cut-at}

pub cut_holds : {S : Type 0} (f : S → List Entry) (q n : ℕ) (x : Node S) → length x.children ≡ suc (length x.own) → n < length x.own
    → holds f x ≡ holds f (cut_left n x) ++ get_or x.own n no_entry ∷ holds f (cut_right q n x)
cut_holds f q n x k h = weave-cut-at f x.children x.own n no_entry k h

pub cut-passes : {S : Type 0} (p : ℕ) (f : S → ℕ) (q n : ℕ) (x : Node S) → passes p f (cut_left n x) + passes p f (cut_right q n x) ≡ passes p f x + same p q
cut-passes p f q n x = omega (arith, sum-cut f (suc n) x.children)

pub cut-left-filled : {S : Type 0} (Q : S → Type 0) (m n : ℕ) (x : Node S) → length x.children ≡ suc (length x.own) → All Q x.children
    → n < length x.own → m ≤ n → n ≤ most_entries m → Filled m m Q (cut_left n x)
cut-left-filled Q m n x k a h few many =
    record {
      forks = simp length-take (omega arith);
      few = simp length-take (omega arith);
      many = simp length-take (omega arith);
      below = all_take Q (suc n) x.children a;
    }

pub cut-right-filled : {S : Type 0} (Q : S → Type 0) (m q n : ℕ) (x : Node S) → length x.children ≡ suc (length x.own) → All Q x.children
    → n < length x.own → m + suc n ≤ length x.own → length x.own ≤ suc n + most_entries m → Filled m m Q (cut_right q n x)
cut-right-filled Q m q n x k a h few many =
    record {
      forks = simp length-drop (omega arith);
      few = simp length-drop (omega arith);
      many = simp length-drop (omega arith);
      below = all_drop Q (suc n) x.children a;
    }
