-- `remove::move_right` meets its contract: the two children are found, or nothing changes.
use mathlib.Core.Path.{◌≡◌, sym}
use Prim.Native.Nat.{suc}
use native.Mathlib.Numerals.{add-one}
use native.Mathlib.Omega.{arith}
use borrow.Author.Rules.{rules}
use Rattle.model.specs.Page.{count_of}
use Rattle.lend.specs.Pages.{can_get, page_in}
use Rattle.std.specs.Prelude.{Ok}
use Rattle.tree.specs.Search.{below_of}
use Rattle.tree.proofs.Searching.{below-inside}
use Rattle.tree.proofs.Moving.{moves-no-left, moves-no-right, moves-found}
use Rattle.tree.proofs.remove.move_right.Goals as goal
use Rattle.tree.proofs.remove.move_right.Goals.{In_ok-l, In_ok-r}

pub returns-in_err-l : goal.returns-in_err-l
returns-in_err-l c =
    let a = c.args in
    moves-no-left a.u a.j _ (can_get a.pool.now a.u a.j) a.pool.now (sym c.in_err-l.ensures)

left : (c : In_ok-l) →
    let a = c.args in
    below_of a.pool.now a.u a.j ≡ Ok c.in_ok-l.l
left c = sym c.in_ok-l.ensures

pub returns-in_err-r : goal.returns-in_err-r
returns-in_err-r c =
    let a = c.args in
    moves-no-right a.u a.j _ (can_get a.pool.now a.u a.j) a.pool.now
    (rw (add-one a.j) at (sym c.in_err-r.ensures))

right : (c : In_ok-r) →
    let a = c.args in
    below_of a.pool.now a.u (suc a.j) ≡ Ok c.in_ok-r.r
right c =
    let a = c.args in
    rw (add-one a.j) at (sym c.in_ok-r.ensures)

pub take_right-requires : goal.take_right-requires
take_right-requires c =
    let il = below-inside _ _ _ _ (left (goal.at.take_right-requires c).In_ok-l) in
    let ir = below-inside _ _ _ _ (right (goal.at.take_right-requires c).In_ok-r) in
    (search rules, omega (arith, il.1), omega (arith, ir.1))

pub returns : goal.returns
returns c =
    let a = c.args in
    moves-found a.u a.j (λ l. suc (count_of (page_in a.pool.now l))) (can_get a.pool.now a.u a.j) a.pool.now _ _ (left (goal.at.returns c).In_ok-l) (right (goal.at.returns c).In_ok-r) c.take_right.ensures
