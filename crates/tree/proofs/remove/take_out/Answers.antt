-- `remove::take_out` meets its contract: the entry at the slot, or the last.
use Rattle.std.proofs.Common.{◌-◌, arith}
use Rattle.model.specs.Page.{count_of}
use Rattle.lend.specs.Pages.{page_in}
use Rattle.tree.proofs.Heirs.{takes-inside, takes-last}
use Rattle.tree.proofs.remove.take_out.Goals as goal

pub returns-then-s-n : goal.returns-then-s-n
returns-then-s-n c = takes-inside c.args.pool.now c.args.p c.args.s (omega arith) c.remove.ensures

pub returns : goal.returns
returns c =
    let a = c.args in
    takes-last a.pool.now a.p a.s (count_of (page_in a.pool.now a.p) - 1) c.entry_at-last.result (omega arith) (omega arith)
    (rw c.count-n.ensures at c.entry_at-last.ensures) (rw c.count-n.ensures at c.remove-2.ensures)
