-- `pages::take_right` meets its contract: what `pass` promises, at these slots.
use mathlib.Core.Path.{refl}
use native.Mathlib.Numerals.{add-one}
use native.Mathlib.Omega.{arith}
use Rattle.lend.proofs.Several.{pass-over, move-none, get-moves}
use Rattle.lend.proofs.pages.take_right.Goals as goal

pub returns-then-n-gt-MOST : goal.returns-then-n-gt-MOST
returns-then-n-gt-MOST c =
    let a = c.args in
    move-none a.pool.now a.u a.i a.l a.r _ (pass-over a.pool.now a.u a.i a.r 0 0 a.l _ _ (omega arith)) refl

pub returns : goal.returns
returns c =
    let a = c.args in
    get-moves a.pool.now a.u a.i a.l a.r _ refl (rw (c.count-n.ensures, add-one) at c.pass.ensures)
