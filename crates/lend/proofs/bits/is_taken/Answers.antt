-- `bits::is_taken` meets its contract: what `pagemap::is_taken` says of the words lent.
use Rattle.model.specs.PageMap.{map_at}
use Rattle.lend.proofs.bits.is_taken.Goals as goal

pub returns : goal.returns
unfolding map_at
returns c = c.is_taken.ensures
