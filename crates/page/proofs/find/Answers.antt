-- `page::find` meets its contract: the gap before the key, and whether the key stands after it.
use mathlib.Core.Path.{◌≡◌, sym, ◌∙◌}
use mathlib.Core.Bool.{false}
use borrow.Author.Rules.{rules}
use Rattle.std.specs.Prelude.{Ok}
use Rattle.page.specs.Runs.{up_to}
use Rattle.page.specs.Page.{gap_in}
use Rattle.page.proofs.Finding.{place-lost, place_here, place-gap}
use Rattle.page.proofs.find.Goals as goal
use Rattle.page.proofs.find.Goals.{In_ok-slot}

pub returns-in_err-slot : goal.returns-in_err-slot
returns-in_err-slot c = (search rules) ∙ place-lost _ _ _ (sym c.in_err-slot.was ∙ c.gap_before.ensures)

-- the slot of the gap before the key
before : (c : In_ok-slot) → let a = c.args in Ok c.in_ok-slot.slot ≡ gap_in a.most a.page.now (up_to a.key false)
before c = sym c.in_ok-slot.was ∙ c.gap_before.ensures

pub returns-then-slot-page : goal.returns-then-slot-page
returns-then-slot-page c = place_here _ _ _ _ (before (goal.at.returns-then-slot-page c).In_ok-slot) c.if-slot-page.true

pub returns : goal.returns
returns c = place-gap _ _ _ _ (before (goal.at.returns c).In_ok-slot) c.if-slot-page.false
