-- `check::cursor` meets its contract: each answer by the words that led there.
use mathlib.Core.Path.{◌≡◌, ap, ◌∙◌}
use mathlib.Core.Bool.{false}
use Prim.Native.Nat.{◌-◌}
use native.Mathlib.Omega.{arith}
use Rattle.model.specs.Head.{root_word, levels_word}
use Rattle.std.specs.Prelude.{Some, Ok}
use Rattle.tree.specs.declared.search.Found.{Found}
use Rattle.tree.specs.Check.{CursorIs}
use Rattle.model.proofs.Cases.{never}
use Rattle.lend.proofs.Fitting.{head-long}
use Rattle.tree.proofs.Checking.{root-there, cursor-start, cursor-closed, cursor-empty, cursor-lost, cursor-found}
use Rattle.tree.proofs.check.cursor.Goals as goal
use Rattle.tree.proofs.check.cursor.Goals.{After-get_below-found}

pub bounds-pool-6 : goal.bounds-pool-6
bounds-pool-6 c = let long = head-long c.args.pool.now c.requires in omega arith

pub bounds-pool-7 : goal.bounds-pool-7
bounds-pool-7 c = let long = head-long c.args.pool.now c.requires in omega arith

pub returns-then-pool-eq0 : goal.returns-then-pool-eq0
returns-then-pool-eq0 c = cursor-start c.args.pool.now c.requires c.if-pool-eq0.true

pub bounds-pool-5 : goal.bounds-pool-5
bounds-pool-5 c = let long = head-long c.args.pool.now c.requires in omega arith

pub returns-then-pool-eq0-2 : goal.returns-then-pool-eq0-2
returns-then-pool-eq0-2 c =
    cursor-closed c.args.pool.now c.requires c.if-pool-eq0.false c.if-pool-eq0-2.true

pub bounds-pool-4 : goal.bounds-pool-4
bounds-pool-4 c =
    let long = head-long c.args.pool.now c.requires in
    omega arith

pub returns-then-levels-eq0 : goal.returns-then-levels-eq0
returns-then-levels-eq0 c =
    cursor-empty c.args.pool.now c.requires c.if-pool-eq0.false c.if-levels-eq0.true

pub bounds-pool-3 : goal.bounds-pool-3
bounds-pool-3 c =
    let long = head-long c.args.pool.now c.requires in
    omega arith

pub overflow_sub-pool : goal.overflow_sub-pool
overflow_sub-pool c = (root-there c.args.pool.now c.requires c.if-levels-eq0.false).some

pub bounds-pool-7-2 : goal.bounds-pool-7-2
bounds-pool-7-2 c =
    let long = head-long c.args.pool.now c.requires in
    omega arith

pub get_below-found-requires : goal.get_below-found-requires
get_below-found-requires c =
    let long = head-long c.args.pool.now c.requires in
    let root = root-there c.args.pool.now c.requires c.if-levels-eq0.false in
    let deep = root.deep in
    (omega arith, root.inside, omega arith)

pub returns-in-Ok-Some : goal.returns-in-Ok-Some
returns-in-Ok-Some c =
    let w = c.args.pool.now in
    let some = c.if-levels-eq0.false in
    cursor-found w c.requires c.if-pool-eq0.false (levels_word w - 1) (root_word w - 1) (omega arith) (root-there w c.requires some).is
    c.if-pool-eq0-2.false (c.in-Ok-Some.is ∙ ap Ok (rw c.in-Ok-Some.is at c.in-Ok-Some.field-0-is)) c.get_below-found.ensures.0

-- the search answers no value
lost : (c : After-get_below-found) → ((f : Found) → c.get_below-found.result ≡ Ok (Some f) → ⊥) → CursorIs c.args.pool.now false
lost c no_value =
    let w = c.args.pool.now in
    let some = c.if-levels-eq0.false in
    cursor-lost w c.requires c.if-pool-eq0.false (levels_word w - 1) (root_word w - 1) (omega arith) (root-there w c.requires some).is
    c.get_below-found.result c.get_below-found.ensures.0 no_value

pub returns-in_default : goal.returns-in_default
returns-in_default c = lost (goal.at.returns-in_default c).After-get_below-found (λ f e. never (cc))

pub returns-in_default-2 : goal.returns-in_default-2
returns-in_default-2 c = lost (goal.at.returns-in_default-2 c).After-get_below-found (λ f e. never (cc))
