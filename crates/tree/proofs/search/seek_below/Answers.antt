-- `search::seek_below` meets its contract. The loop keeps what is left to do: the path from the page at hand, put
-- behind what is recorded, is the whole path.
use mathlib.Core.Path.{sym, ◌∙◌}
use Rattle.tree.proofs.Searching.{exits}
use Rattle.tree.proofs.Seeking.{rest-start, rest-unsound, rest_end, rest-lost, rest-down}
use Rattle.tree.proofs.search.seek_below.Goals as goal

pub loop-slot-init : goal.loop-slot-init
loop-slot-init c = rest-start _ _ _ _ c.requires.1 c.requires.2

pub returns-in_err-slot : goal.returns-in_err-slot
returns-in_err-slot c =
    rw (exits c.from_residual.ensures.0) (rest-unsound c.loop-slot.invariant (sym c.slot_in.ensures ∙ c.in_err-slot.was))

pub returns-in_err-at : goal.returns-in_err-at
returns-in_err-at c =
    rw (exits c.from_residual-in_err-at.ensures.0)
    (rest-lost c.loop-slot.invariant (sym c.slot_in.ensures ∙ c.in_ok-slot.was) c.if-i-last.false (sym c.child.ensures ∙ c.in_err-at.was))

pub loop-slot-preserved : goal.loop-slot-preserved
loop-slot-preserved c =
    rest-down c.loop-slot.invariant (sym c.slot_in.ensures ∙ c.in_ok-slot.was) c.if-i-last.false (sym c.child.ensures ∙ c.in_ok-at.was)

pub returns-then-i-last : goal.returns-then-i-last
returns-then-i-last c =
    rest_end c.loop-slot.invariant (sym c.slot_in.ensures ∙ c.in_ok-slot.was) c.if-i-last.true
