-- `gap::named` meets its contract: the head has words for the gap.
use native.Mathlib.Omega.{arith}
use Rattle.lend.proofs.Fitting.{head-long}
use Rattle.cursor.proofs.gap.named.Goals as goal

pub bounds-pool-6 : goal.bounds-pool-6
bounds-pool-6 c = let long = head-long _ c.requires in omega arith

pub bounds-pool-7 : goal.bounds-pool-7
bounds-pool-7 c = let long = head-long _ c.requires in omega arith
