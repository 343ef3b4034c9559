-- `pages::append` meets its contract: page `l` holds its own entries, the one between and the first j of page `r` after
-- each turn.
use native.Mathlib.Omega.{arith}
use Rattle.page.specs.Page.{plain}
use Rattle.lend.specs.Pages.{most, page_in}
use Rattle.page.proofs.Pages.{room-at}
use Rattle.lend.proofs.Lent.{went}
use Rattle.lend.proofs.Copied.{joining-none, joining-room, joining-more, Begun, begins}
use Rattle.lend.proofs.pages.append.Goals as goal
use Rattle.lend.proofs.pages.append.Goals.{After-unwrap}

begun : (c : After-unwrap) →
    let a = c.args in
    Begun a.l a.r c.count-n.result c.count-m.result (plain a.entry) a.pool.now c.put_last.new.pool
begun c =
    let a = c.args in
    begins a.pool.now a.l a.r c.count-n.result c.count-m.result (plain a.entry) _ c.requires.inside.2 c.count-n.ensures c.count-m.ensures (omega arith) (omega arith)
    c.child_at-first.ensures c.put_last.ensures

pub unwrap-requires : goal.unwrap-requires
unwrap-requires c = went c.put_last.ensures.answer (room-at most (page_in c.args.pool.now c.args.l) _ _ (omega arith) (omega arith) (omega arith) (omega arith))

pub unwrap-requires-in-loop-j : goal.unwrap-requires-in-loop-j
unwrap-requires-in-loop-j c =
    let b = begun (goal.at.unwrap-requires-in-loop-j c).After-unwrap in
    went c.put_last-in-loop-j.ensures.answer (joining-room _ _ _ _ b.many c.loop-j.j (omega (arith, b.rest, c.loop-j-test.true)) (omega (arith, b.fits, c.loop-j-test.true)) c.loop-j.invariant)

pub loop-j-init : goal.loop-j-init
loop-j-init c = joining-none _ _ _ _ (begun c).many

pub loop-j-preserved : goal.loop-j-preserved
loop-j-preserved c =
    let b = begun (goal.at.loop-j-preserved c).After-unwrap in
    joining-more _ _ _ _ b.many _ _ _ b.apart (omega (arith, b.rest, c.loop-j-test.true)) (omega (arith, b.fits, c.loop-j-test.true)) c.entry_at-e.ensures c.child_at-c.ensures c.loop-j.invariant c.put_last-in-loop-j.ensures

pub returns : goal.returns
returns c =
    let ends = (begun (goal.at.returns c).After-unwrap).end _ _ (omega arith) c.loop-j.invariant in
    record { becomes = ends.0; only_pages = ends.1 }
