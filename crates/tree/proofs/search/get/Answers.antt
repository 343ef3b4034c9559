-- `search::get` meets its contract: the search of the root's page answers for the pool.
use mathlib.Core.Path.{refl}
use Prim.Native.Nat.{◌-◌}
use native.Mathlib.Omega.{arith}
use Rattle.model.specs.Head.{levels_word}
use Rattle.lend.proofs.Fitting.{head-long, head-levels, head-root}
use Rattle.tree.proofs.Searching.{few_none}
use Rattle.tree.proofs.Seeking.{get_none, get-whole}
use Rattle.tree.proofs.search.get.Goals as goal

pub bounds-pool-4 : goal.bounds-pool-4
bounds-pool-4 c = omega (arith, head-long c.args.pool.now c.requires)

pub returns-then-levels-eq0 : goal.returns-then-levels-eq0
returns-then-levels-eq0 c = (get_none _ _ c.if-levels-eq0.true, few_none _)

pub overflow_sub-root : goal.overflow_sub-root
overflow_sub-root c = let some = c.if-levels-eq0.false in (head-root c.args.pool.now c.requires (omega arith)).0

pub get_below-requires : goal.get_below-requires
get_below-requires c =
    let w = c.args.pool.now in
    let fits = c.requires in
    let some = c.if-levels-eq0.false in
    (omega (arith, head-long w fits), (head-root w fits (omega arith)).1, omega (arith, head-levels w fits))

pub returns : goal.returns
returns c =
    let a = c.args in
    let some = c.if-levels-eq0.false in
    let got = c.get_below.ensures in
    (get-whole a.pool.now a.key (levels_word a.pool.now - 1) _ (omega arith) refl got.0, λ f e. omega (arith, got.1 f e))
