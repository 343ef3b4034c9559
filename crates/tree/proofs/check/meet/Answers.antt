-- `check::meet` meets its contract: each answer by the tests that led there.
use Rattle.std.proofs.Common.{sym, ◌∙◌}
use Rattle.tree.proofs.Walking.{meet-past, meet_low, meet-value, meet-fine}
use Rattle.tree.proofs.check.meet.Goals as goal
use Rattle.tree.proofs.check.meet.Goals.{then-not-rises-via-then-not-rises, then-not-rises-via-else-not-rises+then-not-fits_kind}

pub returns-then-n-i : goal.returns-then-n-i
returns-then-n-i c = let a = c.args in meet-past a.pool.now a.p a.i a.n a.tally c.if-n-i.true

pub returns-then-not-rises : goal.returns-then-not-rises
returns-then-not-rises c =
    let a = c.args in
    elim c.then-not-rises.branch [
      | then-not-rises-via-then-not-rises w ↦
          meet_low a.pool.now a.p a.i a.n a.tally _ _ c.entry_at-e.ensures c.if-n-i.false (sym c.rises.ensures ∙ w.if-not-rises.true)
      | then-not-rises-via-else-not-rises+then-not-fits_kind w ↦
          meet-value a.pool.now a.p a.i a.n a.tally _ _ c.entry_at-e.ensures c.if-n-i.false
          (sym c.rises.ensures ∙ w.if-not-rises.false) (sym w.fits_kind.ensures ∙ w.if-not-fits_kind.true)
    ]

pub returns : goal.returns
returns c =
    let a = c.args in
    meet-fine a.pool.now a.p a.i a.n a.tally _ _ c.entry_at-e.ensures c.if-n-i.false
    (sym c.rises.ensures ∙ c.if-not-rises.false) (sym c.fits_kind.ensures ∙ c.if-not-fits_kind.false)
