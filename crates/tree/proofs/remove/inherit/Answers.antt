-- `remove::inherit` meets its contract where an entry is set.
use Rattle.std.proofs.Common.{arith}
use Rattle.tree.proofs.Heirs.{inherits-inside}
use Rattle.tree.proofs.remove.inherit.Goals as goal

pub returns-then-s-count : goal.returns-then-s-count
returns-then-s-count c = inherits-inside c.args.pool.now c.args.p c.args.s c.in_ok-heir.heir c.in_ok-heir.was (omega arith) c.set_entry.ensures
