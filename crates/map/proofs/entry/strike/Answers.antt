-- `entry::strike`: the entry after the path's gap goes where it is the key's, and its value is read before.
use Rattle.map.proofs.Answers.{err-same}
use Rattle.map.proofs.Placing.{strikes-absent, strikes-done, strikes-lost}
use Rattle.map.proofs.entry.strike.Goals as goal

pub returns-in_default : goal.returns-in_default
returns-in_default c = strikes-absent (rw c.in_default.is at c.in_ok-spot.ensures)

pub returns-in_err-remove : goal.returns-in_err-remove
returns-in_err-remove c =
    rw (err-same c.from_residual-in_err-remove.ensures) (strikes-lost (rw c.in-Some.is at c.in_ok-spot.ensures) c.remove.ensures _ c.in_err-remove.was)

pub returns : goal.returns
returns c = strikes-done (rw c.in-Some.is at c.in_ok-spot.ensures) c.remove.ensures c.requires.1 c.entry_at-struck.ensures c.in_ok-remove.was
