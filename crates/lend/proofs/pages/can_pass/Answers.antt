-- `pages::can_pass` meets its contract: its tests, in their order.
use mathlib.Core.Path.{refl, sym, ◌∙◌}
use Rattle.lend.specs.Pages.{can_pass}
use Rattle.model.proofs.Cases.{contrary}
use Rattle.page.proofs.Pages.{last-test}
use Rattle.lend.proofs.pages.can_pass.Goals as goal
use Rattle.lend.proofs.pages.can_pass.Goals.{then-apart, else-apart, then-holds, else-holds}

pub returns-then-holds-2 : goal.returns-then-holds-2
unfolding can_pass
returns-then-holds-2 c =
    elim c.if-holds.branch [
      | then-holds t ↦ elim c.if-apart.branch [
        | then-apart s ↦
            rw (
              sym c.apart.ensures ∙ s.if-apart.true,
              sym (rw s.page_at.ensures.result_value at s.holds.ensures) ∙ sym s.value-is ∙ t.if-holds.true,
              sym (rw t.page_at-then-holds.ensures.result_value at t.holds-then-holds.ensures) ∙ sym t.value-is ∙ c.if-holds-2.true,
            )
            (rw c.page_at-then-holds-2.ensures.result_value at c.has_room.ensures ∙ last-test _)
        | else-apart s ↦ contrary t.if-holds.true (s.value-is ∙ s.if-apart.false)
      ]
      | else-holds t ↦ contrary c.if-holds-2.true (t.value-is ∙ t.if-holds.false)
    ]

pub returns-else-holds-2 : goal.returns-else-holds-2
unfolding can_pass
returns-else-holds-2 c =
    c.if-holds-2.false
    ∙ elim c.if-apart.branch [
      | then-apart s ↦ elim c.if-holds.branch [
        | then-holds t ↦
            rw (
              sym c.apart.ensures ∙ s.if-apart.true,
              sym (rw s.page_at.ensures.result_value at s.holds.ensures) ∙ sym s.value-is ∙ t.if-holds.true,
              sym (rw t.page_at-then-holds.ensures.result_value at t.holds-then-holds.ensures) ∙ sym t.value-is ∙ c.if-holds-2.false,
            )
            refl
        | else-holds t ↦
            rw (
              sym c.apart.ensures ∙ s.if-apart.true,
              sym (rw s.page_at.ensures.result_value at s.holds.ensures) ∙ sym s.value-is ∙ t.if-holds.false,
            )
            refl
      ]
      | else-apart s ↦ rw (sym c.apart.ensures ∙ s.if-apart.false) refl
    ]
