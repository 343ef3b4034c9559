-- `edit::remove_next` meets the call's promise: the entry after the path's gap goes, and is read before.
use Rattle.map.proofs.Answers.{err-same}
use Rattle.cursor.proofs.Edits.{take-end, take_done, take-lost}
use Rattle.cursor.proofs.edit.remove_next.Goals as goal

pub returns-in_default : goal.returns-in_default
returns-in_default c = take-end c.in_ok-ready.ensures c.in_ok-spot.ensures c.in_default.is

pub returns : goal.returns
returns c = take_done c.in_ok-ready.ensures c.in_ok-spot.ensures c.in-Some.is c.remove.ensures c.entry_at-e.ensures c.in_ok-remove.was

pub returns-in_err-remove : goal.returns-in_err-remove
returns-in_err-remove c =
    rw (err-same c.from_residual-in_err-remove.ensures)
    (take-lost c.in_ok-ready.ensures c.in_ok-spot.ensures c.in-Some.is c.remove.ensures c.in_err-remove.was)
