-- `page::set_entry` meets its contract: two stores where the test says so.
use mathlib.Core.Path.{◌≡◌, sym, ◌∙◌}
use mathlib.Core.Bool.{true}
use Prim.Native.Nat.{◌≤◌, ◌<◌}
use native.Mathlib.Omega.{arith}
use lib.ListN.{length-set}
use Rattle.model.specs.Page.{count_of}
use Rattle.page.specs.Page.{holds_at}
use Rattle.page.proofs.Pages.{holds-facts, instead-holds, changes-done}
use Rattle.page.proofs.set_entry.Goals as goal
use Rattle.page.proofs.set_entry.Goals.{Else-not-holds}

passed : (c : Else-not-holds) → let a = c.args in holds_at a.most a.page.now a.slot 0 ≡ true
passed c = sym c.holds.ensures ∙ c.if-not-holds.false

inside : (c : Else-not-holds) → let a = c.args in (count_of a.page.now ≤ a.most) × (a.slot < count_of a.page.now)
inside c = omega (arith, holds-facts _ _ _ _ (passed c))

pub bounds-page-most : goal.bounds-page-most
bounds-page-most c = simp length-set (omega (arith, inside (goal.at.bounds-page-most c).Else-not-holds))

pub returns : goal.returns
returns c =
    changes-done (passed c) (instead-holds c.args.most c.args.slot c.args.entry.key c.args.entry.value c.args.page.now c.requires (inside c).0 (inside c).1)
