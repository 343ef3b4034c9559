-- `set::remove` meets its contract: the entry that has the key goes.
use mathlib.Core.Path.{sym, ap, ◌∙◌}
use Rattle.model.specs.Refusal.{set_kind}
use Rattle.model.proofs.Entries.{has-lookup, there}
use Rattle.model.proofs.Keeps.{keeps-set-remove}
use Rattle.model.proofs.Meets.{passes-changing}
use Rattle.map.proofs.Calling.{removes, there-some}
use Rattle.map.proofs.set.remove.Goals as goal

pub strike-requires : goal.strike-requires
strike-requires c = let p = passes-changing set_kind _ (sym c.in_ok-changing.ensures) in (p.0, p.2)

pub returns : goal.returns
returns c =
    removes set_kind (keeps-set-remove _) c.in_ok-changing.ensures _ c.in_ok-strike.ensures
    (λ o. c.is_some.ensures ∙ sym (has-lookup _ _ ∙ ap there o ∙ there-some _))
