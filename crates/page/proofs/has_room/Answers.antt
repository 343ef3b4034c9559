-- `page::has_room` meets its contract: its tests, in their order.
use mathlib.Core.Path.{◌≡◌, ◌∙◌}
use mathlib.Core.Bool.{false}
use mathlib.Core.Logic.{◌⊎◌, inl, inr}
use mathlib.Core.List.{List}
use Prim.Native.Nat.{ℕ, ◌≤◌, ◌<◌}
use native.Mathlib.Numerals.{add-one}
use borrow.Author.Rules.{rules}
use borrow.Author.Tests.{le-leb, lt-leb, lt-ltb, le-ltb}
use Rattle.model.specs.Page.{count_of}
use Rattle.page.specs.Page.{room_at}
use Rattle.page.proofs.Pages.{last-test}
use Rattle.page.proofs.has_room.Goals as goal

-- the first test that fails
no_room : (most : ℕ) (page : List ℕ) (slot place : ℕ) → let n = count_of page in
    ((1 ≤ n) × (n < most) × (n < slot)) ⊎ (((1 ≤ n) × (most ≤ n)) ⊎ (n < 1)) → false ≡ room_at most page slot place
unfolding room_at
no_room most page slot place (inl h) = simp (le-leb 1 (count_of page) h.0, lt-ltb (count_of page) most h.1, lt-leb slot (count_of page) h.2)
no_room most page slot place (inr (inl h)) = simp (le-leb 1 (count_of page) h.0, le-ltb (count_of page) most h.1)
no_room most page slot place (inr (inr h)) = simp (lt-leb 1 (count_of page) h)

pub returns-then-slot-n : goal.returns-then-slot-n
unfolding room_at
returns-then-slot-n c =
    let a = c.args in
    let n = count_of a.page.now in
    let h = c.if-slot-n.true in
    simp (add-one, le-leb 1 n h.0, lt-ltb n a.most h.1, le-leb a.slot n h.2) (last-test _)

pub returns-else-slot-n : goal.returns-else-slot-n
returns-else-slot-n c = (search rules) ∙ no_room _ _ _ _ c.if-slot-n.either
