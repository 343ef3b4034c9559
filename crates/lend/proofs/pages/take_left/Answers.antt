-- `pages::take_left` meets its contract: what `pass` promises, at these slots.
use mathlib.Core.Path.{refl}
use Prim.Native.Nat.{◌-◌}
use native.Mathlib.Omega.{arith}
use Rattle.model.specs.Page.{count_of}
use Rattle.lend.proofs.Several.{pass-empty, move-none, give-moves}
use Rattle.lend.specs.Pages.{page_in}
use Rattle.lend.proofs.pages.take_left.Goals as goal

pub returns-then-n-eq0 : goal.returns-then-n-eq0
returns-then-n-eq0 c =
    let a = c.args in
    move-none a.pool.now a.u a.i a.l a.r _ (pass-empty a.pool.now a.u a.i a.l _ _ a.r 0 0 (omega arith)) refl

pub returns : goal.returns
returns c =
    let a = c.args in
    let n = count_of (page_in a.pool.now a.l) in
    give-moves a.pool.now a.u a.i a.l a.r (n - 1) n (omega arith) (omega arith) (rw c.count-n.ensures at c.pass.ensures)
