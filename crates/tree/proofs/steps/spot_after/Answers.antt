-- `steps::spot_after` meets its contract. The loop's invariant: the spots that are left give what the whole path gives.
use Rattle.std.proofs.Common.{sym, ◌∙◌}
use Rattle.tree.proofs.Spots.{left-inside, after-here, after-lost, after_none}
use Rattle.tree.proofs.steps.spot_after.Goals as goal

pub page_at-requires : goal.page_at-requires
page_at-requires c = left-inside c.loop-spot.invariant _ _ c.in-Some.ensures.steps

pub returns-then-holds : goal.returns-then-holds
returns-then-holds c =
    after-here c.requires c.loop-spot.invariant _ _ c.in-Some.ensures.steps (rw c.page_at.ensures.result_value at (sym c.holds.ensures ∙ c.if-holds.true))

pub loop-spot-preserved : goal.loop-spot-preserved
loop-spot-preserved c =
    after-lost c.requires c.loop-spot.invariant _ _ c.in-Some.ensures.steps (rw c.page_at.ensures.result_value at (sym c.holds.ensures ∙ c.if-holds.false))

pub returns : goal.returns
returns c = after_none c.requires c.loop-spot.invariant c.in-None.ensures.steps.0
