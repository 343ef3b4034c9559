-- `remove::join` meets its contract: the two children are found and joined, and the right one is freed, or nothing
-- changes.
use mathlib.Core.Path.{◌≡◌, sym, refl}
use Prim.Native.Nat.{suc}
use native.Mathlib.Numerals.{add-one}
use native.Mathlib.Omega.{arith}
use borrow.Author.Rules.{rules}
use Rattle.std.specs.Prelude.{Ok}
use Rattle.tree.specs.Search.{below_of}
use Rattle.tree.proofs.Searching.{below-inside}
use Rattle.tree.proofs.Moving.{joins-no-left, joins-no-right, joins-refused, joins-freed}
use Rattle.tree.proofs.remove.join.Goals as goal
use Rattle.tree.proofs.remove.join.Goals.{In_ok-l, In_ok-r}

pub returns-in_err-l : goal.returns-in_err-l
returns-in_err-l c =
    let a = c.args in
    joins-no-left a.u a.j a.pool.now (sym c.in_err-l.ensures)

left : (c : In_ok-l) →
    let a = c.args in
    below_of a.pool.now a.u a.j ≡ Ok c.in_ok-l.l
left c = sym c.in_ok-l.ensures

pub returns-in_err-r : goal.returns-in_err-r
returns-in_err-r c =
    let a = c.args in
    joins-no-right a.u a.j a.pool.now
    (rw (add-one a.j) at (sym c.in_err-r.ensures))

right : (c : In_ok-r) →
    let a = c.args in
    below_of a.pool.now a.u (suc a.j) ≡ Ok c.in_ok-r.r
right c =
    let a = c.args in
    rw (add-one a.j) at (sym c.in_ok-r.ensures)

pub join-requires : goal.join-requires
join-requires c =
    let il = below-inside _ _ _ _ (left (goal.at.join-requires c).In_ok-l) in
    let ir = below-inside _ _ _ _ (right (goal.at.join-requires c).In_ok-r) in
    (search rules, omega (arith, il.1), omega (arith, ir.1), ir.0)

pub returns : goal.returns
returns c =
    let a = c.args in
    joins-freed a.u a.j a.pool.now _ _ (left (goal.at.returns c).In_ok-l) (right (goal.at.returns c).In_ok-r) c.in_ok-join.ensures refl c.free.ensures

pub returns-in_err-join : goal.returns-in_err-join
returns-in_err-join c =
    let a = c.args in
    joins-refused a.u a.j a.pool.now _ _ (left (goal.at.returns-in_err-join c).In_ok-l) (right (goal.at.returns-in_err-join c).In_ok-r) c.in_err-join.ensures refl
