-- `bits::has_free` meets its contract: what `pagemap::has_free` says of the words lent.
use Rattle.model.specs.PageMap.{map_at}
use Rattle.lend.proofs.bits.has_free.Goals as goal

pub returns : goal.returns
unfolding map_at
returns c = rw c.pages_in-pages.ensures at c.has_free.ensures
