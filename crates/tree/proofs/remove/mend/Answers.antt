-- `remove::mend` meets its contract: the plan is carried out.
use Rattle.std.proofs.Common.{arith, rules}
use Rattle.tree.proofs.Planning.{plans-place}
use Rattle.tree.proofs.Mending.{mends-keep, mends-left, mends-right, mends-join}
use Rattle.tree.proofs.remove.mend.Goals as goal

pub move_left-requires : goal.move_left-requires
move_left-requires c = let place = plans-place c.args.pool.now c.args.u c.args.i _ c.in-Left.ensures in (search rules, search rules, omega arith)

pub move_right-requires : goal.move_right-requires
move_right-requires c = let place = plans-place c.args.pool.now c.args.u c.args.i _ c.in-Right.ensures in (search rules, search rules, omega arith)

pub join-requires : goal.join-requires
join-requires c = let place = plans-place c.args.pool.now c.args.u c.args.i _ c.in-Join.ensures in (search rules, search rules, omega arith)

pub returns-in-Keep : goal.returns-in-Keep
returns-in-Keep c = mends-keep c.args.u c.args.i c.args.pool.now c.in-Keep.ensures

pub returns-in-Left : goal.returns-in-Left
returns-in-Left c = mends-left c.args.u c.args.i c.in-Left.j c.args.pool.now c.move_left.new.pool c.in-Left.ensures c.move_left.ensures

pub returns-in-Right : goal.returns-in-Right
returns-in-Right c = mends-right c.args.u c.args.i c.in-Right.j c.args.pool.now c.move_right.new.pool c.in-Right.ensures c.move_right.ensures

pub returns-in-Join : goal.returns-in-Join
returns-in-Join c = mends-join c.args.u c.args.i c.in-Join.j c.args.pool.now c.join.new.pool c.in-Join.ensures c.join.ensures
