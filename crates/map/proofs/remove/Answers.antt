-- `remove` meets its contract: the entry that has the key goes.
use mathlib.Core.Path.{sym}
use Rattle.model.specs.Refusal.{map_kind}
use Rattle.model.proofs.Keeps.{keeps-map-remove}
use Rattle.model.proofs.Meets.{passes-changing}
use Rattle.map.proofs.Calling.{removes}
use Rattle.map.proofs.remove.Goals as goal

pub strike-requires : goal.strike-requires
strike-requires c = let p = passes-changing map_kind _ (sym c.in_ok-changing.ensures) in (p.0, p.2)

pub returns : goal.returns
returns c = removes map_kind (keeps-map-remove _) c.in_ok-changing.ensures _ c.in_ok-strike.ensures (λ o. sym o)
