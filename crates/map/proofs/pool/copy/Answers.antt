-- `pool::copy` meets its contract: each refusal by the tests that led there, and else the source's words with 5 to 7
-- made 0.
use mathlib.Core.Path.{◌≡◌, refl, sym, ap, ◌∙◌}
use mathlib.Core.Bool.{true, false}
use native.Mathlib.Omega.{arith}
use lib.ListN.{length}
use borrow.Author.Rules.{rules}
use borrow.Author.Tests.{eq-eqb, ne_eqb}
use Rattle.model.specs.Layout.{allowed, today}
use Rattle.model.specs.Head.{headed, geometry_of}
use Rattle.model.specs.Refusal.{refusal}
use Rattle.model.specs.PoolCalls.{copy_tests}
use Rattle.model.proofs.Making.{exact-stopped, exact-done}
use Rattle.lend.proofs.Fitting.{head-long}
use Rattle.map.proofs.Making.{copied-cursorless}
use Rattle.map.proofs.pool.copy.Goals as goal
use Rattle.map.proofs.pool.copy.Goals.{Else-not-allowed, Else-not-fits, Joined-fits, then-fits+else-destination-eq1, else-fits}

pub returns-then-not-fits : goal.returns-then-not-fits
returns-then-not-fits c =
    let a = c.args in
    let no-head : headed a.source.now ≡ false = sym c.fits.ensures ∙ c.if-not-fits.true in
    exact-stopped 1 (rw no-head) (omega arith) refl

-- past the source's head
fitting : (c : Else-not-fits) → headed c.args.source.now ≡ true
fitting c = sym c.fits.ensures ∙ c.if-not-fits.false

pub returns-then-not-allowed : goal.returns-then-not-allowed
unfolding geometry_of
returns-then-not-allowed c =
    let a = c.args in
    let no_length : allowed today (length a.destination.now) ≡ false = sym c.allowed.ensures ∙ c.if-not-allowed.true in
    exact-stopped 1 (rw (fitting (goal.at.returns-then-not-allowed c).Else-not-fits, no_length)) (omega arith) refl

-- past the destination's length
sized : (c : Else-not-allowed) → allowed today (length c.args.destination.now) ≡ true
sized c = sym c.allowed.ensures ∙ c.if-not-allowed.false

pub returns-then-source-destination : goal.returns-then-source-destination
unfolding geometry_of
returns-then-source-destination c =
    let a = c.args in
    exact-stopped 8 (rw (fitting (goal.at.returns-then-source-destination c).Else-not-fits, sized (goal.at.returns-then-source-destination c).Else-not-allowed, ne_eqb _ _ c.if-source-destination.true)) (omega arith) refl

pub bounds-destination-5 : goal.bounds-destination-5
bounds-destination-5 c = let long = head-long _ (sym c.fits-2.ensures ∙ c.if-fits.true) in omega arith

pub returns-then-destination-eq1 : goal.returns-then-destination-eq1
unfolding geometry_of
returns-then-destination-eq1 c =
    let a = c.args in
    let its-head : headed a.destination.now ≡ true = sym c.fits-2.ensures ∙ c.if-fits.true in
    exact-stopped 4
    (rw (fitting (goal.at.returns-then-destination-eq1 c).Else-not-fits, sized (goal.at.returns-then-destination-eq1 c).Else-not-allowed, eq-eqb _ _ c.if-source-destination.false, its-head, eq-eqb _ _ c.if-destination-eq1.true)) (omega arith) refl

-- past all tests
passed : (c : Joined-fits) → headed c.args.source.now ≡ true → allowed today (length c.args.destination.now) ≡ true
    → let a = c.args in refusal (copy_tests a.source.now a.destination.now) ≡ 0
unfolding geometry_of
passed c fits long =
    let a = c.args in
    rw (fits, long, eq-eqb _ _ c.if-source-destination.false)
    (elim c.if-fits.branch [
      | then-fits+else-destination-eq1 w ↦
          let its-head : headed a.destination.now ≡ true = sym c.fits-2.ensures ∙ w.if-fits.true in rw (its-head, ne_eqb _ _ w.if-destination-eq1.false)
      | else-fits w ↦ let no-head : headed a.destination.now ≡ false = sym c.fits-2.ensures ∙ w.if-fits.false in rw no-head
    ])

pub slice_bounds-fill-end : goal.slice_bounds-fill-end
slice_bounds-fill-end c =
    let long = head-long _ (fitting (goal.at.slice_bounds-fill-end c).Else-not-fits) in
    let copied = ap length c.copy_words.ensures in
    search rules

pub returns : goal.returns
returns c =
    let a = c.args in
    let fits = fitting (goal.at.returns c).Else-not-fits in
    exact-done (passed (goal.at.returns c).Joined-fits fits (sized (goal.at.returns c).Else-not-allowed))
    (copied-cursorless a.source.now _ _ (head-long _ fits) c.copy_words.ensures (c.fill.ensures.after (λ y e. e)))
