-- `pool::count` meets its contract: past the head there is a word for the number of entries.
use mathlib.Core.Path.{sym, ◌∙◌}
use native.Mathlib.Omega.{arith}
use Rattle.lend.proofs.Fitting.{head-long}
use Rattle.map.proofs.pool.count.Goals as goal

pub bounds-pool-2 : goal.bounds-pool-2
bounds-pool-2 c = let long = head-long _ (sym c.fits.ensures ∙ c.if-not-fits.false) in omega arith
