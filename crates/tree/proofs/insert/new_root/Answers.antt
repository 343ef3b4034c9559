-- `insert::new_root` meets its contract: the lowest free page is taken, written, and named by the head.
use Rattle.std.proofs.Common.{refl, sym, arith, rules}
use Rattle.tree.proofs.Heads.{lowest-inside, roots-done}
use Rattle.tree.proofs.insert.new_root.Goals as goal
use Rattle.page.specs.Page.{plain}

pub single-requires : goal.single-requires
single-requires c =
    lowest-inside c.args.pool.now c.take_lowest.new.pool c.in-Some.q (sym c.in-Some.ensures.0) c.in-Some.ensures.1.keeps.long

pub overflow_add-pool : goal.overflow_add-pool
overflow_add-pool c = let fits = lowest-inside c.args.pool.now c.args.pool.now c.in-Some.q (sym c.in-Some.ensures.0) refl in search rules

pub returns : goal.returns
returns c =
    let a = c.args in
    let m = c.take_lowest.ensures in
    let w = c.single.ensures in
    roots-done a.levels (plain a.entry) a.left a.right c.in-Some.q (omega arith) m.0 c.in-Some.is m.1 w.holds w.only_pages
