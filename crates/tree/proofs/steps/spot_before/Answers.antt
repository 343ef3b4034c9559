-- `steps::spot_before` meets its contract. The loop's invariant: the spots that are left give what the whole path
-- gives.
use Rattle.std.proofs.Common.{sym, ◌∙◌}
use Rattle.tree.proofs.Spots.{left-inside, before_here, before-lost, before-past, before-none}
use Rattle.tree.proofs.steps.spot_before.Goals as goal
use Rattle.tree.proofs.steps.spot_before.Goals.{else-slot-gt0-via-then-slot-gt0+else-holds, else-slot-gt0-via-else-slot-gt0}

pub page_at-requires : goal.page_at-requires
page_at-requires c = left-inside c.loop-spot.invariant _ _ c.in-Some.ensures.steps

pub returns-then-holds : goal.returns-then-holds
returns-then-holds c =
    before_here c.requires c.loop-spot.invariant _ _ c.in-Some.ensures.steps c.if-slot-gt0.true
    (rw c.page_at.ensures.result_value at (sym c.holds.ensures ∙ c.if-holds.true))

pub loop-spot-preserved : goal.loop-spot-preserved
loop-spot-preserved c =
    elim c.else-slot-gt0.branch [
      | else-slot-gt0-via-then-slot-gt0+else-holds w ↦
          before-lost c.requires c.loop-spot.invariant _ _ c.in-Some.ensures.steps w.if-slot-gt0.true
          (rw w.page_at.ensures.result_value at (sym w.holds.ensures ∙ w.if-holds.false))
      | else-slot-gt0-via-else-slot-gt0 w ↦ before-past c.requires c.loop-spot.invariant _ _ c.in-Some.ensures.steps w.if-slot-gt0.false
    ]

pub returns : goal.returns
returns c = before-none c.requires c.loop-spot.invariant c.in-None.ensures.steps.0
