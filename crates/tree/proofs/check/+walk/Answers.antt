-- `check::walk` meets its contract: each answer by what the loop has met, as `Walking` says it.
use Rattle.std.proofs.Common.{◌≡◌, true, ◌≤◌, ℕ, sym, ◌∙◌, arith, rules}
use Rattle.std.proofs.lemmas.Result.{err_from_is_err_and}
use borrow.Author.Tests.{leb-true}
use Rattle.model.specs.Basics.{every}
use Rattle.model.specs.Page.{count_of}
use Rattle.lend.specs.Pages.{most, page_in}
use Rattle.tree.specs.Check.{stand_tests}
use Rattle.model.proofs.Basics.{every_true}
use Rattle.tree.proofs.Walking.{Child, stand-broken, going_start, child-none, child-some, below-found, below-broken, walk-broken, entry-broken, going_step, going_end}
use Rattle.tree.proofs.check.+walk.Goals as goal
use Rattle.tree.proofs.check.+walk.Goals.{After-count-n, Joined-h-gt0, then-h-gt0+in_ok-c+in_ok-met, else-h-gt0}

pub returns-then-not-stands : goal.returns-then-not-stands
returns-then-not-stands t c =
    let a = c.args in
    stand-broken a.pool.now a.p a.h a.low a.tally (sym c.stands.ensures ∙ c.if-not-stands.true)

-- past the tests
tested : (t : ℕ) (c : After-count-n t) → let a = c.args in every (stand_tests a.pool.now a.p a.h a.low a.tally.pages) ≡ true
tested t c = sym c.stands.ensures ∙ c.if-not-stands.false

-- so the page holds nine entries at most
many : (t : ℕ) (c : After-count-n t) → c.count-n.result ≤ most
many t c =
    let a = c.args in
    let l = leb-true (count_of (page_in a.pool.now a.p)) most (every_true (stand_tests a.pool.now a.p a.h a.low a.tally.pages) (tested t c)).1.1.1.1.0 in
    omega arith

pub loop-i-init : goal.loop-i-init
loop-i-init t c =
    let a = c.args in
    going_start a.pool.now a.p a.h a.low a.tally c.count-n.result (search rules) (search rules) (tested t (goal.at.loop-i-init t c).After-count-n)

pub returns-in_err-c : goal.returns-in_err-c
returns-in_err-c t c =
    let a = c.args in
    let l = c.loop-i in
    let p = err_from_is_err_and c.from_residual.result c.from_residual.ensures.1 in
    rw p.1
    (below-broken a.pool.now a.p a.h a.low a.tally c.count-n.result l.i l.met l.invariant
    c.count-n.ensures (omega arith) (many t (goal.at.returns-in_err-c t c).After-count-n) c.if-h-gt0.true c.in_err-c.ensures)

pub walk-requires : goal.walk-requires
walk-requires t c =
    let a = c.args in
    let inside = (below-found a.pool.now a.p a.h a.low a.tally c.loop-i.i c.in_ok-c.c c.in_ok-c.ensures).1 in
    let m = many t (goal.at.walk-requires t c).After-count-n in
    (omega arith, (omega arith, omega arith, c.loop-i.invariant.few, omega arith, omega arith))

pub returns-in_err-met : goal.returns-in_err-met
returns-in_err-met t c =
    let a = c.args in
    let l = c.loop-i in
    let p = err_from_is_err_and c.from_residual-in_err-met.result c.from_residual-in_err-met.ensures.1 in
    rw p.1
    (walk-broken a.pool.now a.p a.h a.low a.tally c.count-n.result l.i l.met l.invariant
    c.count-n.ensures c.in_ok-c.c (omega arith) c.if-h-gt0.true c.in_ok-c.ensures c.in_err-met.ensures)

-- the child was walked, or there is none
joined : (t : ℕ) (c : Joined-h-gt0 t) → let a = c.args in let l = c.loop-i in Child a.pool.now a.p a.h a.low a.tally l.i l.met c.if-h-gt0.met
joined t c =
    let a = c.args in
    let l = c.loop-i in
    elim c.if-h-gt0.branch [
      | then-h-gt0+in_ok-c+in_ok-met w ↦
          rw w.met-is
          (child-some a.pool.now a.p a.h a.low a.tally l.i w.in_ok-c.c l.met w.in_ok-met.met
          w.if-h-gt0.true w.in_ok-c.ensures w.in_ok-met.ensures)
      | else-h-gt0 w ↦ rw w.met-is (child-none a.pool.now a.p a.h a.low a.tally l.i l.met w.if-h-gt0.false l.invariant.few)
    ]

pub meet-requires : goal.meet-requires
meet-requires t c =
    let child = joined t (goal.at.meet-requires t c).Joined-h-gt0 in
    let m = many t (goal.at.meet-requires t c).After-count-n in
    (omega arith, omega arith, m, omega arith)

pub returns-in_err-met-2 : goal.returns-in_err-met-2
returns-in_err-met-2 t c =
    let a = c.args in
    let l = c.loop-i in
    let p = err_from_is_err_and c.from_residual-in_err-met-2.result c.from_residual-in_err-met-2.ensures.1 in
    rw p.1
    (entry-broken a.pool.now a.p a.h a.low a.tally c.count-n.result l.i l.met l.invariant
    c.count-n.ensures c.if-h-gt0.met (omega arith) (joined t (goal.at.returns-in_err-met-2 t c).Joined-h-gt0) c.in_err-met-2.ensures)

pub loop-i-preserved : goal.loop-i-preserved
loop-i-preserved t c =
    let a = c.args in
    let l = c.loop-i in
    going_step a.pool.now a.p a.h a.low a.tally c.count-n.result l.i l.met l.invariant
    c.count-n.ensures c.if-h-gt0.met c.in_ok-met-2.met (omega arith) (joined t (goal.at.loop-i-preserved t c).Joined-h-gt0) c.in_ok-met-2.ensures

pub returns : goal.returns
returns t c =
    let a = c.args in
    let l = c.loop-i in
    going_end a.pool.now a.p a.h a.low a.tally c.count-n.result l.i l.met l.invariant c.count-n.ensures
    (many t (goal.at.returns t c).After-count-n) (omega arith)
