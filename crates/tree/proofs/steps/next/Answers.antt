-- `steps::next` meets its contract. The loop's invariant: what hangs under the pages that are left is at its end.
use Rattle.std.proofs.Common.{Ok, drop, ap, ◌-◌, ◌∙◌, arith}
use Rattle.tree.specs.Sits.{pages_of, slots_of}
use Rattle.tree.specs.Steps.{Forth}
use Rattle.tree.proofs.Searching.{exits}
use Rattle.tree.proofs.Stepping.{forward}
use Rattle.tree.proofs.Turning.{some-other, unsound-other, along-start, along-slot, along-path, along-end, along-answer, along-next}
use Rattle.tree.proofs.steps.next.Goals as goal
use Rattle.tree.proofs.steps.next.Goals.{After-over}

-- after the step over the own entry of the page at hand
stepped : (c : After-over) → let a = c.args in let i = c.loop-i.i - 1 in
    Forth a.pool.now (drop i (pages_of a.path.now)) (drop i (slots_of a.path.now)) (pages_of c.over.new.path) (slots_of c.over.new.path) c.over.result
stepped c = along-next c.requires.path_in c.loop-i.invariant c.loop-i-test.true c.over.ensures

pub loop-i-init : goal.loop-i-init
loop-i-init c = along-start forward _ _

pub overflow_add-s : goal.overflow_add-s
overflow_add-s c = let few = along-slot forward c.requires.path_in c.loop-i.invariant c.loop-i-test.true in omega arith

pub over-requires-clause-path_in : goal.over-requires-clause-path_in
over-requires-clause-path_in c = along-path forward c.requires.path_in c.loop-i.invariant c.loop-i-test.true

pub returns-in_err-e : goal.returns-in_err-e
returns-in_err-e c =
    rw (exits c.from_residual.ensures.0)
    (along-answer forward c.requires.path_in c.loop-i.invariant c.loop-i-test.true _ c.in_err-e.was unsound-other
    (stepped (goal.at.returns-in_err-e c).After-over))

pub returns-in-Some : goal.returns-in-Some
returns-in-Some c =
    along-answer forward c.requires.path_in c.loop-i.invariant c.loop-i-test.true _ (c.in_ok-e.was ∙ ap Ok c.in-Some.is) (some-other _)
    (stepped (goal.at.returns-in-Some c).After-over)

pub loop-i-preserved : goal.loop-i-preserved
loop-i-preserved c =
    along-end forward c.requires.path_in c.loop-i.invariant c.loop-i-test.true _ (c.in_ok-e.was ∙ ap Ok c.in_default.is)
    (stepped (goal.at.loop-i-preserved c).After-over)
