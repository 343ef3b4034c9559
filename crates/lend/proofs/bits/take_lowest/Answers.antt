-- `bits::take_lowest` meets its contract: the map is lent and given back with the lowest free page taken.
use Rattle.model.specs.PageMap.{map_at}
use Rattle.lend.proofs.Touching.{map_back}
use Rattle.lend.proofs.bits.take_lowest.Goals as goal

pub returns : goal.returns
unfolding map_at
returns c =
    let m = c.take_lowest in (
      rw c.pages_in-pages.ensures at m.ensures.0,
      map_back c.args.pool.now m.new.map _ c.requires.0 m.auto.map m.ensures.1,
    )
