-- `bits::taken` meets its contract: what `pagemap::taken` says of the words lent.
use Rattle.model.specs.PageMap.{map_at}
use Rattle.lend.proofs.bits.taken.Goals as goal

pub returns : goal.returns
unfolding map_at
returns c = c.taken.ensures
