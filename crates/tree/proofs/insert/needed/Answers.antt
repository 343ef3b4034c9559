-- `insert::needed` meets its contract: the run of full pages, and one page more where it goes through the root.
use Rattle.tree.proofs.Running.{needs-one, needs-same}
use Rattle.tree.proofs.insert.needed.Goals as goal

pub returns-then-k-path : goal.returns-then-k-path
returns-then-k-path c = needs-one c.args.pool.now c.args.path.now c.run-k.result c.run-k.ensures c.if-k-path.true

pub returns-else-k-path : goal.returns-else-k-path
returns-else-k-path c = needs-same c.args.pool.now c.args.path.now c.run-k.result c.run-k.ensures c.if-k-path.false
