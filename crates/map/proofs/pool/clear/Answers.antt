-- `pool::clear` meets its contract: each refusal by the tests that led there, and else the pool that is laid, of the
-- kind that it had.
use mathlib.Core.Path.{◌≡◌, refl, sym, ◌∙◌}
use mathlib.Core.Bool.{true, false}
use native.Mathlib.Omega.{arith}
use borrow.Author.Tests.{eq-eqb, ne_eqb}
use Rattle.model.specs.Head.{headed, geometry_of}
use Rattle.model.proofs.Making.{exact-stopped, exact-done}
use Rattle.model.proofs.Head.{headed-allowed}
use Rattle.lend.proofs.Fitting.{head-long}
use Rattle.map.proofs.pool.clear.Goals as goal
use Rattle.map.proofs.pool.clear.Goals.{Else-not-fits}

pub returns-then-not-fits : goal.returns-then-not-fits
returns-then-not-fits c =
    let w = c.args.pool.now in
    let no-head : headed w ≡ false = sym c.fits.ensures ∙ c.if-not-fits.true in
    exact-stopped 1 (rw no-head) (omega arith) refl

-- past the head
fitting : (c : Else-not-fits) → headed c.args.pool.now ≡ true
fitting c = sym c.fits.ensures ∙ c.if-not-fits.false

pub bounds-pool-5 : goal.bounds-pool-5
bounds-pool-5 c = let long = head-long _ (fitting (goal.at.bounds-pool-5 c).Else-not-fits) in omega arith

pub returns-then-pool-eq1 : goal.returns-then-pool-eq1
returns-then-pool-eq1 c =
    exact-stopped 4 (rw (fitting (goal.at.returns-then-pool-eq1 c).Else-not-fits, eq-eqb _ _ c.if-pool-eq1.true)) (omega arith) refl

pub bounds-pool-8 : goal.bounds-pool-8
bounds-pool-8 c = let long = head-long _ (fitting (goal.at.bounds-pool-8 c).Else-not-fits) in omega arith

pub lay-requires : goal.lay-requires
unfolding geometry_of
lay-requires c = headed-allowed _ (fitting (goal.at.lay-requires c).Else-not-fits)

pub returns : goal.returns
unfolding geometry_of
returns c =
    exact-done (rw (fitting (goal.at.returns c).Else-not-fits, ne_eqb _ _ c.if-pool-eq1.false)) c.lay.ensures
