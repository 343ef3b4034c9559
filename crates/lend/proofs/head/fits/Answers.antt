-- `head::fits` meets its contract: the length, the head's numbers, and the spare words.
use mathlib.Core.Path.{◌≡◌, sym, ◌∙◌}
use mathlib.Core.Bool.{true}
use native.Mathlib.Omega.{arith}
use lib.ListN.{length}
use Rattle.model.specs.Basics.{every}
use Rattle.model.specs.Layout.{pages_in, allowed, today}
use Rattle.model.specs.Head.{number_tests}
use Rattle.model.proofs.Cases.{contrary}
use Rattle.model.proofs.Lawful.{allowed-facts}
use Rattle.lend.proofs.Fitting.{headed-not, headed-no, headed-is}
use Rattle.lend.proofs.head.fits.Goals as goal
use Rattle.lend.proofs.head.fits.Goals.{Then-allowed, Then-numbers, then-allowed, else-allowed}

long : (c : Then-allowed) → allowed today (length c.args.pool.now) ≡ true
long c = sym c.allowed.ensures ∙ c.if-allowed.true

pub pages_in-requires : goal.pages_in-requires
pages_in-requires c = omega (arith, allowed-facts today _ (long c))

pub numbers-requires : goal.numbers-requires
numbers-requires c = let facts = allowed-facts today _ (long (goal.at.numbers-requires c).Then-allowed) in (omega arith, omega (arith, c.pages_in.ensures))

-- both the length and the numbers were tested
tested : (c : Then-numbers) → let w = c.args.pool.now in
    (allowed today (length w) ≡ true) × (every (number_tests today (pages_in today (length w)) w) ≡ true)
tested c =
    elim c.if-allowed.branch [
      | then-allowed t ↦ (sym c.allowed.ensures ∙ t.if-allowed.true, sym (rw t.pages_in.ensures at t.numbers.ensures) ∙ sym t.value-is ∙ c.if-numbers.true)
      | else-allowed t ↦ contrary c.if-numbers.true (t.value-is ∙ t.if-allowed.false)
    ]

pub spare_zero-requires : goal.spare_zero-requires
spare_zero-requires c = omega (arith, allowed-facts today _ (tested c).0)

pub returns-then-numbers : goal.returns-then-numbers
returns-then-numbers c =
    let is = tested (goal.at.returns-then-numbers c).Then-numbers in
    c.spare_zero.ensures ∙ sym (headed-is _ is.0 is.1)

pub returns-else-numbers : goal.returns-else-numbers
returns-else-numbers c =
    c.if-numbers.false
    ∙ sym (elim c.if-allowed.branch [
      | then-allowed t ↦ headed-not _ (sym c.allowed.ensures ∙ t.if-allowed.true) (sym (rw t.pages_in.ensures at t.numbers.ensures) ∙ sym t.value-is ∙ c.if-numbers.false)
      | else-allowed t ↦ headed-no _ (sym c.allowed.ensures ∙ t.if-allowed.false)
    ])
