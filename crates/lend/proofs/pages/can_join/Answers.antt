-- `pages::can_join` meets its contract: its tests, in their order.
use mathlib.Core.Path.{◌≡◌, refl, sym, ◌∙◌}
use mathlib.Core.Bool.{true, false}
use mathlib.Core.Logic.{◌⊎◌, inl, inr}
use mathlib.Core.List.{List}
use Prim.Native.Nat.{ℕ, suc, ◌+◌, ◌≤◌, ◌<◌}
use native.Mathlib.Numerals.{add-one}
use native.Mathlib.Omega.{arith}
use borrow.Author.Rules.{rules}
use borrow.Author.Tests.{le-leb, lt-leb, le-ltb}
use Rattle.model.specs.Basics.{every}
use Rattle.model.specs.Page.{count_of}
use Rattle.page.specs.Page.{holds_at}
use Rattle.lend.specs.Pages.{most, are_apart, can_join, page_in}
use Rattle.lend.proofs.Several.{fits-test}
use Rattle.lend.proofs.pages.can_join.Goals as goal
use Rattle.lend.proofs.pages.can_join.Goals.{Else-not-holds, then-not-apart-via-then-not-apart, then-not-apart-via-else-not-apart+then-not-holds}

pub returns-then-not-apart : goal.returns-then-not-apart
unfolding can_join
returns-then-not-apart c =
    elim c.then-not-apart.branch [
      | then-not-apart-via-then-not-apart t ↦ rw (sym c.apart.ensures ∙ t.if-not-apart.true) refl
      | then-not-apart-via-else-not-apart+then-not-holds t ↦
          rw (sym c.apart.ensures ∙ t.if-not-apart.false, sym (rw (t.page_at.ensures.result_value, add-one) at t.holds.ensures) ∙ t.if-not-holds.true) refl
    ]

-- what the first two tests leave
known : (c : Else-not-holds) →
    let a = c.args in
    (every (are_apart a.u a.l a.r) ≡ true) × (holds_at most (page_in a.pool.now a.u) a.i (suc a.i) ≡ true)
known c =
    (sym c.apart.ensures ∙ c.if-not-apart.false, sym (rw (c.page_at.ensures.result_value, add-one) at c.holds.ensures) ∙ c.if-not-holds.false)

pub returns-then-n-lt-MOST : goal.returns-then-n-lt-MOST
unfolding can_join
returns-then-n-lt-MOST c =
    let k = known (goal.at.returns-then-n-lt-MOST c).Else-not-holds in
    let a = c.args in
    let n = count_of (page_in a.pool.now a.l) in
    let m = count_of (page_in a.pool.now a.r) in
    rw (k.0, k.1, le-leb 1 n (omega arith), le-leb 1 m (omega arith), c.count-m.ensures, c.count-n.ensures) (fits-test n m (omega arith))

-- the first of the others that fails
over : (w : List ℕ) (u i l r n m : ℕ) → n ≡ count_of (page_in w l) → m ≡ count_of (page_in w r)
    → (every (are_apart u l r) ≡ true) × (holds_at most (page_in w u) i (suc i) ≡ true)
    → ((1 ≤ n) × (1 ≤ m) × (most ≤ n)) ⊎ (((1 ≤ n) × (m < 1)) ⊎ (n < 1)) → false ≡ can_join w u i l r
unfolding can_join
over w u i l r n m en em k (inl h) =
    let n' = count_of (page_in w l) in
    let m' = count_of (page_in w r) in
    rw (k.0, k.1, le-leb 1 n' (omega arith), le-leb 1 m' (omega arith), le-ltb (n' + m') most (omega arith)) refl
over w u i l r n m en em k (inr (inl h)) =
    rw (k.0, k.1, le-leb 1 (count_of (page_in w l)) (omega arith), lt-leb 1 (count_of (page_in w r)) (omega arith)) refl
over w u i l r n m en em k (inr (inr h)) = rw (k.0, k.1, lt-leb 1 (count_of (page_in w l)) (omega arith)) refl

pub returns-else-n-lt-MOST : goal.returns-else-n-lt-MOST
returns-else-n-lt-MOST c =
    let a = c.args in
    (search rules)
    ∙ over a.pool.now a.u a.i a.l a.r _ _ c.count-n.ensures c.count-m.ensures (known (goal.at.returns-else-n-lt-MOST c).Else-not-holds) c.if-n-lt-MOST.either
