-- `refusal::reading` meets its contract: past the head there is a word for the kind.
use mathlib.Core.Path.{sym, ◌∙◌}
use native.Mathlib.Omega.{arith}
use Rattle.lend.proofs.Fitting.{head-long}
use Rattle.map.proofs.refusal.reading.Goals as goal

pub bounds-pool-8 : goal.bounds-pool-8
bounds-pool-8 c = let long = head-long _ (sym c.fits.ensures ∙ c.if-not-fits.false) in omega arith
