-- `steps::over` meets its contract: one law for each way out.
use Rattle.std.proofs.Common.{◌≡◌, true, sym, ◌∙◌, arith}
use Rattle.page.specs.Page.{holds_at}
use Rattle.lend.specs.Pages.{most, Inside, page_in}
use Rattle.tree.specs.Sits.{pages_of, slots_of}
use Rattle.tree.specs.Steps.{spot, Overs}
use Rattle.page.proofs.Pages.{holds-facts}
use Rattle.tree.proofs.Paths.{behind_back, pages-long, page-of, path-at}
use Rattle.tree.proofs.Searching.{exits}
use Rattle.tree.proofs.Turning.{first, turned, over_by, over-end, over-on}
use Rattle.tree.proofs.steps.over.Goals as goal
use Rattle.tree.proofs.steps.over.Goals.{After-turn, Else-not-holds, Start}

-- the path's first page lies inside
inside : (c : Start) → Inside (first c.args.path.now) c.args.pool.now
inside c =
    let path = c.args.path.now in
    let some = c.requires.today_in_bounds.1 in
    rw (page-of path 0 (spot 0 0) some) at (path-at _ _ (slots_of path) c.requires.path_in 0 (omega (arith, pages-long path))).0

-- past the test: it has an entry at s
here : (c : Else-not-holds) → holds_at most (page_in c.args.pool.now (first c.args.path.now)) c.args.s 0 ≡ true
here c = rw c.page_at.ensures.result_value at (sym c.holds.ensures ∙ c.if-not-holds.false)

pub returns-then-not-holds : goal.returns-then-not-holds
returns-then-not-holds c =
    let a = c.args in
    over-end _ a.s a.slot a.aim a.path.now c.requires.today_in_bounds.1
    (rw c.page_at.ensures.result_value at (sym c.holds.ensures ∙ c.if-not-holds.true))

pub entry_at-e-requires : goal.entry_at-e-requires
entry_at-e-requires c = let f = holds-facts most _ c.args.s 0 (here c) in (inside (goal.at.entry_at-e-requires c).Start, omega arith)

-- the path that comes back, and the answer, by whether the rest of it was found
over-turned : (c : After-turn) → let a = c.args in let back = behind_back (turned a.slot a.path.now) c.turn.new.path in
    holds_at most (page_in a.pool.now (first a.path.now)) a.s 0 ≡ true →
    Overs a.pool.now a.s a.slot a.aim (pages_of a.path.now) (slots_of a.path.now) (pages_of back) (slots_of back) (over_by c.turn.result c.entry_at-e.result)
over-turned c y =
    let a = c.args in
    over-on _ a.s a.slot a.aim a.path.now _ c.requires.today_in_bounds.1 c.requires.path_in c.requires.today_in_bounds.2
    y c.entry_at-e.ensures c.turn.ensures

pub returns-in_err-turn : goal.returns-in_err-turn
returns-in_err-turn c =
    rw (exits c.from_residual.ensures.0)
    (rw c.in_err-turn.was at (over-turned (goal.at.returns-in_err-turn c).After-turn (here (goal.at.returns-in_err-turn c).Else-not-holds)))

pub returns : goal.returns
returns c = rw c.in_ok-turn.was at (over-turned (goal.at.returns c).After-turn (here (goal.at.returns c).Else-not-holds))
