-- `write::write` meets its contract: an entry read, and its value overwritten.
use Rattle.tree.proofs.Writing.{writes}
use Rattle.tree.proofs.write.write.Goals as goal

pub returns : goal.returns
returns c =
    let a = c.args in
    writes a.pool.now _ a.p a.slot _ _ a.value _ c.entry_at-e.ensures c.set_entry.ensures
