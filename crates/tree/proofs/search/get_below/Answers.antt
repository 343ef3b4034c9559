-- `search::get_below` meets its contract. The loop keeps what is left to do: what the search from the page at hand
-- answers, the whole search answers.
use mathlib.Core.Path.{◌≡◌, sym, ap, subst₂, ◌∙◌}
use Prim.Native.Nat.{ℕ, ◌+◌, ◌-◌}
use native.Mathlib.Omega.{arith}
use Rattle.std.specs.Prelude.{Ok}
use Rattle.page.specs.declared.Place.TheVariants as place
use Rattle.model.specs.Tree.{Entry}
use Rattle.lend.proofs.Lent.{page-inside}
use Rattle.tree.specs.Search.{place_at, GetsBelow}
use Rattle.tree.proofs.Searching.{exits, few_found, few_none, few-lost, here-few, below-inside, get-unsound, get-here, get_absent, get-lost, get-down}
use Rattle.tree.proofs.search.get_below.Goals as goal
use Rattle.tree.proofs.search.get_below.Goals.{In-Here, In-Gap}

-- what the page at hand says of the key
here : (c : In-Here) → place_at c.args.pool.now c.loop-left.at (c.loop-left.left - 1) c.args.key ≡ Ok (place.Here c.in-Here.i)
here c = sym c.look.ensures ∙ c.in_ok-i.was ∙ ap Ok c.in-Here.is

gap : (c : In-Gap) → place_at c.args.pool.now c.loop-left.at (c.loop-left.left - 1) c.args.key ≡ Ok (place.Gap c.in-Gap.i)
gap c = sym c.look.ensures ∙ c.in_ok-i.was ∙ ap Ok c.in-Gap.is

pub loop-left-init : goal.loop-left-init
loop-left-init c =
    let a = c.args in
    let same : a.h + 1 - 1 ≡ a.h = omega arith in
    let start : a.above + (a.h - (a.h + 1 - 1)) ≡ a.above = omega arith in
    (c.requires.1, omega arith, omega arith, λ r g. subst₂ (λ (n m : ℕ). GetsBelow a.pool.now a.p n a.key m r) same start g)

pub returns-in_err-i : goal.returns-in_err-i
returns-in_err-i c =
    rw (exits c.from_residual.ensures.0)
    (c.loop-left.invariant.3 _ (get-unsound _ _ _ _ _ (sym c.look.ensures ∙ c.in_err-i.was)), few-lost _)

pub entry_at-value-requires : goal.entry_at-value-requires
entry_at-value-requires c = (c.loop-left.invariant.0, here-few _ _ _ _ _ (here (goal.at.entry_at-value-requires c).In-Here))

pub returns-in-Here : goal.returns-in-Here
returns-in-Here c = (
  c.loop-left.invariant.3 _ (get-here _ _ _ _ _ _ (here (goal.at.returns-in-Here c).In-Here) (ap (λ (x : Entry). x.value) c.entry_at-value.ensures)),
  let high = c.loop-left.invariant.2 in few_found _ _ _ (omega arith),
)

pub returns-in_err-at-in-Gap : goal.returns-in_err-at-in-Gap
returns-in_err-at-in-Gap c =
    let tall = c.if-left-eq0.false in
    rw (exits c.from_residual-in_err-at-in-Gap.ensures.0) (
      c.loop-left.invariant.3 _ (get-lost _ _ _ _ _ _ (gap (goal.at.returns-in_err-at-in-Gap c).In-Gap) (omega arith) (sym c.child.ensures ∙ c.in_err-at-in-Gap.was)),
      few-lost _,
    )

pub loop-left-preserved : goal.loop-left-preserved
loop-left-preserved c =
    let w = c.args.pool.now in
    let tall = c.if-left-eq0.false in
    let high = c.loop-left.invariant.2 in
    let below = sym c.child.ensures ∙ c.in_ok-at-in-Gap.was in (
      page-inside w _ (below-inside w c.loop-left.at _ _ below).1,
      omega arith,
      omega arith,
      λ r g. c.loop-left.invariant.3 r
          (get-down w c.loop-left.at _ _ c.args.key _ _ _ _ (omega arith) (omega arith) (gap (goal.at.loop-left-preserved c).In-Gap) below g),
    )

pub returns-then-left-eq0 : goal.returns-then-left-eq0
returns-then-left-eq0 c =
    (c.loop-left.invariant.3 _ (get_absent _ _ _ _ _ _ (gap (goal.at.returns-then-left-eq0 c).In-Gap) c.if-left-eq0.true), few_none _)
