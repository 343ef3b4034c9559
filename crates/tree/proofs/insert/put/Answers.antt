-- `insert::put` meets its contract: room in the page, or the lowest free page and a split.
use Rattle.std.proofs.Common.{◌≤◌, sym, arith}
use Rattle.model.specs.Page.{count_of}
use Rattle.lend.specs.Pages.{most, page_in}
use Rattle.tree.proofs.Putting.{puts-room, puts-inside, puts-split, puts-unsound}
use Rattle.tree.proofs.insert.put.Goals as goal
use Rattle.tree.proofs.insert.put.Goals.{In_ok-q}
use Rattle.page.specs.Page.{plain}

pub returns-then-count-lt-MOST : goal.returns-then-count-lt-MOST
returns-then-count-lt-MOST c =
    let a = c.args in
    let count = c.count.ensures in
    puts-room a.pool.now a.p a.slot (plain a.up.entry) a.up.child (omega arith) c.insert.ensures

-- the page is full
full : (c : In_ok-q) → most ≤ count_of (page_in c.args.pool.now c.args.p)
full c = let count = c.count.ensures in omega arith

pub split-requires : goal.split-requires
split-requires c =
    let a = c.args in
    let free = c.in_ok-q.ensures in
    let long = free.1.keeps.long in (
      omega arith,
      puts-inside a.pool.now a.p a.slot (plain a.up.entry) a.up.child c.in_ok-q.q (full (goal.at.split-requires c).In_ok-q) (sym free.0) free.1 c.requires.0,
    )

pub returns : goal.returns
returns c =
    let a = c.args in
    let free = c.in_ok-q.ensures in
    puts-split a.pool.now a.p a.slot (plain a.up.entry) a.up.child c.in_ok-q.q (full (goal.at.returns c).In_ok-q) (sym free.0) free.1
    c.in-Ok.entry.key c.in-Ok.entry.value c.in-Ok.ensures

pub returns-in_default : goal.returns-in_default
returns-in_default c =
    let a = c.args in
    let free = c.in_ok-q.ensures in
    puts-unsound a.pool.now a.p a.slot (plain a.up.entry) a.up.child c.in_ok-q.q (full (goal.at.returns-in_default c).In_ok-q) (sym free.0) free.1
    c.in_default.ensures
