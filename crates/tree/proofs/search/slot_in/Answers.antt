-- `search::slot_in` meets its contract: the first slot is there where the last is.
use mathlib.Core.Path.{sym, ◌∙◌}
use Rattle.tree.proofs.Searching.{exits, start-at, start-lost}
use Rattle.tree.proofs.search.slot_in.Goals as goal

pub returns-in_err-last_slot-in-Start : goal.returns-in_err-last_slot-in-Start
returns-in_err-last_slot-in-Start c =
    rw c.in-Start.is (exits c.from_residual.ensures.0 ∙ start-lost _ _ _ (sym c.in_err-last_slot-in-Start.was ∙ c.last_slot.ensures))

pub returns-in_ok-last_slot-in-Start : goal.returns-in_ok-last_slot-in-Start
returns-in_ok-last_slot-in-Start c = rw c.in-Start.is (start-at _ _ _ (sym c.in_ok-last_slot-in-Start.was ∙ c.last_slot.ensures))
