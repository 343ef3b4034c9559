-- `pages::split` meets its contract: page `q` filled, and then page `p` cut.
use mathlib.Core.Path.{◌≡◌, refl, sym, ◌∙◌}
use mathlib.Core.Bool.{true}
use Rattle.page.specs.Page.{plain, full_at}
use Rattle.lend.specs.Pages.{most, page_in}
use Rattle.lend.proofs.Several.{split-same, split-room, split-none, split_done}
use Rattle.lend.proofs.pages.split.Goals as goal
use Rattle.lend.proofs.pages.split.Goals.{Else-not-is_full, then-p-q-via-then-p-q, then-p-q-via-else-p-q+then-not-is_full}

pub returns-then-p-q : goal.returns-then-p-q
returns-then-p-q c =
    let a = c.args in
    elim c.then-p-q.branch [
      | then-p-q-via-then-p-q t ↦ split-none a.pool.now a.p a.q a.slot _ (split-same a.pool.now a.p a.q a.slot t.if-p-q.true) refl
      | then-p-q-via-else-p-q+then-not-is_full t ↦
          let room = sym (rw t.page_at.ensures.result_value at t.is_full.ensures) ∙ t.if-not-is_full.true in
          split-none a.pool.now a.p a.q a.slot _ (split-room a.pool.now a.p a.q a.slot t.if-p-q.false room) refl
    ]

full : (c : Else-not-is_full) →
    let a = c.args in
    full_at most (page_in a.pool.now a.p) a.slot ≡ true
full c = sym (rw c.page_at.ensures.result_value at c.is_full.ensures) ∙ c.if-not-is_full.false

pub returns : goal.returns
returns c =
    let a = c.args in
    split_done a.pool.now a.p a.q a.slot (plain a.entry) a.child c.if-p-q.false (full (goal.at.returns c).Else-not-is_full) c.give.ensures.holds c.give.ensures.only_pages c.keep.ensures
