-- `entry::add`: where the key's entry does not stand already, the gap's path takes it in.
use Rattle.map.proofs.Answers.{err-same}
use Rattle.map.proofs.Placing.{adds-new, adds-full}
use Rattle.map.proofs.entry.add.Goals as goal

pub returns-in_err-insert : goal.returns-in_err-insert
returns-in_err-insert c =
    rw (err-same c.from_residual-in_err-insert.ensures)
    (adds-full (rw c.in_default.is at c.in_ok-spot.ensures) c.insert.ensures c.in_err-insert.was)

pub returns : goal.returns
returns c = adds-new (rw c.in_default.is at c.in_ok-spot.ensures) c.insert.ensures c.requires.1 c.in_ok-insert.was
