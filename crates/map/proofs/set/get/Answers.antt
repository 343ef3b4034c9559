-- `set::get` meets its contract: the key itself, where `contains` says that it is there.
use Rattle.map.proofs.Answers.{err-same}
use Rattle.map.proofs.Calling.{set-get-by-contains, set-get-there, set-get-none}
use Rattle.map.proofs.set.get.Goals as goal

pub returns-in_err-seen : goal.returns-in_err-seen
returns-in_err-seen c = rw (err-same c.from_residual.ensures) (set-get-by-contains _ _ c.in_err-seen.ensures)

pub returns-then-seen : goal.returns-then-seen
returns-then-seen c = set-get-there _ _ _ c.if-seen.true c.in_ok-seen.ensures

pub returns-else-seen : goal.returns-else-seen
returns-else-seen c = set-get-none _ _ _ c.if-seen.false c.in_ok-seen.ensures
