-- `bits::free` meets its contract: the map is lent and given back with the page freed.
use Rattle.model.specs.PageMap.{map_at}
use Rattle.lend.proofs.Touching.{map_back}
use Rattle.lend.proofs.bits.free.Goals as goal

pub returns : goal.returns
unfolding map_at
returns c =
    let m = c.free in
    map_back c.args.pool.now m.new.map _ c.requires m.auto.map m.ensures
