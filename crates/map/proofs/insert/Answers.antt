-- `insert` meets its contract: a key that is there has its entry overwritten, another is put in.
use mathlib.Core.Path.{sym, ap}
use Rattle.std.specs.Prelude.{Ok}
use Rattle.model.specs.Refusal.{map_kind}
use Rattle.model.proofs.Keeps.{keeps-map-insert}
use Rattle.model.proofs.Meets.{passes-changing}
use Rattle.map.proofs.Answers.{err-same}
use Rattle.map.proofs.Calling.{insert-new, insert-over, insert-refused}
use Rattle.map.proofs.insert.Goals as goal

pub add-requires : goal.add-requires
add-requires c = let p = passes-changing map_kind _ (sym c.in_ok-changing.ensures) in (p.0, p.2)

pub returns-in_err-spot : goal.returns-in_err-spot
returns-in_err-spot c = rw (err-same c.from_residual-in_err-spot.ensures) (insert-refused map_kind (keeps-map-insert _ _) c.in_ok-changing.ensures c.add.ensures _ c.in_err-spot.was)

pub returns-in-Some : goal.returns-in-Some
returns-in-Some c = insert-over c.in_ok-changing.ensures c.in_ok-spot.ensures (ap Ok c.in-Some.is) c.write.ensures

pub returns-in-None : goal.returns-in-None
returns-in-None c = insert-new c.in_ok-changing.ensures c.in_ok-spot.ensures (ap Ok c.in-None.is)
