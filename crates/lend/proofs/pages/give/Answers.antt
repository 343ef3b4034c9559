-- `pages::give` meets its contract: page `q` holds the first j of the four after each turn.
use mathlib.Core.Path.{◌≡◌}
use mathlib.Core.Bool.{true}
use native.Mathlib.Omega.{arith}
use Rattle.page.specs.Page.{plain, full_at}
use Rattle.lend.specs.Pages.{most, Inside, page_in}
use Rattle.lend.proofs.Lent.{went}
use Rattle.lend.proofs.Copied.{giving-room, giving-more, Given, gives}
use Rattle.lend.proofs.pages.give.Goals as goal
use Rattle.lend.proofs.pages.give.Goals.{After-single, At-loop-j}

given : (c : After-single) →
    let a = c.args in
    Given a.p a.q a.slot (plain a.entry) a.child a.pool.now c.single.new.pool
given c =
    let a = c.args in
    gives a.pool.now a.p a.q a.slot (plain a.entry) a.child _ _ _ _ c.requires.inside.2 c.requires.slot_value
    c.height-h.ensures c.wider_entry-first.ensures c.wider_child-left.ensures c.wider_child-right.ensures c.single.ensures.holds c.single.ensures.only_pages

-- both pages lie inside, and page p is as full as it was
ready : (c : At-loop-j) →
    let a = c.args in
    let w = c.loop-j.pool in
    Given a.p a.q a.slot (plain a.entry) a.child a.pool.now c.single.new.pool →
    Inside a.p w × Inside a.q w × (full_at most (page_in w a.p) a.slot ≡ true)
ready c g =
    let o = c.loop-j.invariant.only in
    (omega (arith, c.requires.inside.0, g.long, o.long), omega (arith, c.requires.inside.1, g.long, o.long), rw (o.others c.args.p (g.apart, tt)) g.full)

pub loop-j-init : goal.loop-j-init
loop-j-init c = (given (goal.at.loop-j-init c).After-single).one

pub wider_entry-e-requires : goal.wider_entry-e-requires
wider_entry-e-requires c = let k = ready (goal.at.wider_entry-e-requires c).At-loop-j (given (goal.at.wider_entry-e-requires c).After-single) in (k.0, k.2, omega arith)

pub wider_child-c-requires : goal.wider_child-c-requires
wider_child-c-requires c = let k = ready (goal.at.wider_child-c-requires c).At-loop-j (given (goal.at.wider_child-c-requires c).After-single) in (k.0, k.2, omega arith)

pub put_last-requires : goal.put_last-requires
put_last-requires c = (ready (goal.at.put_last-requires c).At-loop-j (given (goal.at.put_last-requires c).After-single)).1

pub unwrap-requires : goal.unwrap-requires
unwrap-requires c =
    let g = given (goal.at.unwrap-requires c).After-single in
    went c.put_last.ensures.answer (giving-room _ _ _ _ _ _ g.full c.loop-j.j (omega arith) c.loop-j-test.true c.loop-j.invariant)

pub loop-j-preserved : goal.loop-j-preserved
loop-j-preserved c =
    let g = given (goal.at.loop-j-preserved c).After-single in
    giving-more _ _ _ _ _ _ g.full _ _ _ g.apart (omega arith) c.loop-j-test.true c.wider_entry-e.ensures c.wider_child-c.ensures c.loop-j.invariant c.put_last.ensures

pub returns : goal.returns
returns c =
    let ends = (given (goal.at.returns c).After-single).end _ _ c.loop-j-test.false c.loop-j.invariant in
    record { holds = ends.0; only_pages = ends.1 }
