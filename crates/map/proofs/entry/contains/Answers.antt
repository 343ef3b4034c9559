-- `entry::contains` meets its contract: whether `get` finds a value.
use Rattle.map.proofs.Answers.{err-same}
use Rattle.map.proofs.Calling.{contains-by-get, contains-there}
use Rattle.map.proofs.entry.contains.Goals as goal

pub returns-in_err-got : goal.returns-in_err-got
returns-in_err-got c = rw (err-same c.from_residual.ensures) (contains-by-get _ _ _ c.in_err-got.ensures)

pub returns : goal.returns
returns c = contains-there _ _ _ _ c.is_some.ensures c.in_ok-got.ensures
