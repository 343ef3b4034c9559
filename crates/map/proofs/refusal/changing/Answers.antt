-- `refusal::changing` meets its contract: past the tests of a call that reads there is a word for the cursor.
use mathlib.Core.Path.{sym}
use native.Mathlib.Omega.{arith}
use Rattle.model.proofs.Meets.{passes-reading}
use Rattle.lend.proofs.Fitting.{head-long}
use Rattle.map.proofs.refusal.changing.Goals as goal

pub bounds-pool-5 : goal.bounds-pool-5
bounds-pool-5 c = let long = head-long _ (passes-reading _ _ (sym c.in_ok-reading.ensures)).0 in omega arith
