-- `steps::turn` meets its contract: one law for each way to a path.
use Rattle.std.proofs.Common.{◌≡◌, length, sym, ◌∙◌, arith}
use borrow.Author.Tests.{eqb-true, eqb-false}
use Rattle.lend.proofs.Lent.{page-inside}
use Rattle.tree.proofs.Searching.{below-inside}
use Rattle.tree.proofs.Turning.{turn-leaf, turn-sought}
use Rattle.tree.proofs.steps.turn.Goals as goal
use Rattle.tree.proofs.steps.turn.Goals.{Else-is_empty}

some : (c : Else-is_empty) → length c.args.path.now ≡ 0 → ⊥
some c = eqb-false (length c.args.path.now) 0 (sym c.is_empty.ensures ∙ c.if-is_empty.false)

pub returns-then-is_empty : goal.returns-then-is_empty
returns-then-is_empty c =
    turn-leaf _ c.args.p c.args.at c.args.aim _ (eqb-true (length c.args.path.now) 0 (sym c.is_empty.ensures ∙ c.if-is_empty.true))

pub seek_below-requires : goal.seek_below-requires
seek_below-requires c =
    let n = some (goal.at.seek_below-requires c).Else-is_empty in
    (c.requires.0, page-inside c.args.pool.now _ (below-inside c.args.pool.now c.args.p c.args.at _ (sym c.child.ensures ∙ c.in_ok-c.was)).1, omega arith)

pub returns : goal.returns
returns c =
    let a = c.args in
    turn-sought _ a.p a.at a.aim _ _ (some (goal.at.returns c).Else-is_empty) (sym c.child.ensures ∙ c.in_ok-c.was) c.seek_below.ensures
