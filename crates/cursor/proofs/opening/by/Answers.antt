-- `opening::by` meets its contract: document 01's first refusal, or the gap of the bound.
use mathlib.Core.Path.{sym}
use native.Mathlib.Omega.{arith}
use Rattle.model.specs.Refusal.{map_kind}
use Rattle.model.proofs.Meets.{passes-reading}
use Rattle.lend.proofs.Fitting.{head-long}
use Rattle.map.proofs.Answers.{err-same}
use Rattle.cursor.proofs.Opens.{by-refused, by-at}
use Rattle.cursor.proofs.opening.by.Goals as goal

pub returns-in_err-reading : goal.returns-in_err-reading
returns-in_err-reading c = rw (err-same c.from_residual.ensures) (by-refused _ c.in_err-reading.ensures)

pub bounds-pool-5 : goal.bounds-pool-5
bounds-pool-5 c = let long = head-long _ (passes-reading map_kind _ (sym c.in_ok-reading.ensures)).0 in omega arith

pub returns : goal.returns
returns c = by-at c.in_ok-reading.ensures c.in_ok-aim.was c.if-pool-eq1.false c.at.ensures
