-- `page::holds` meets its contract: its tests, in their order.
use mathlib.Core.Path.{◌≡◌, ◌∙◌}
use mathlib.Core.Bool.{false}
use mathlib.Core.Logic.{◌⊎◌, inl, inr}
use mathlib.Core.List.{List}
use Prim.Native.Nat.{ℕ, ◌≤◌, ◌<◌}
use borrow.Author.Rules.{rules}
use borrow.Author.Tests.{le-leb, lt-leb, lt-ltb, le-ltb}
use Rattle.model.specs.Page.{count_of}
use Rattle.page.specs.Page.{holds_at}
use Rattle.page.proofs.Pages.{last-test}
use Rattle.page.proofs.holds.Goals as goal

-- the first test that fails
holds-none : (most : ℕ) (page : List ℕ) (slot place : ℕ) → let n = count_of page in
    ((n ≤ most) × (n ≤ slot)) ⊎ (most < n) → false ≡ holds_at most page slot place
unfolding holds_at
holds-none most page slot place (inl h) = simp (le-leb (count_of page) most h.0, le-ltb slot (count_of page) h.1)
holds-none most page slot place (inr h) = simp (lt-leb (count_of page) most h)

pub returns-then-slot-n : goal.returns-then-slot-n
unfolding holds_at
returns-then-slot-n c =
    let a = c.args in
    let n = count_of a.page.now in
    let h = c.if-slot-n.true in
    simp (le-leb n a.most h.0, lt-ltb a.slot n h.1) (last-test _)

pub returns-else-slot-n : goal.returns-else-slot-n
returns-else-slot-n c = (search rules) ∙ holds-none _ _ _ _ c.if-slot-n.either
