-- `ahead::seek`: the search for the gap's aim finds the gap's path, and the spot after it is the one ahead.
use Rattle.cursor.proofs.Nexts.{seeks-spot}
use Rattle.cursor.proofs.ahead.seek.Goals as goal

pub returns : goal.returns
returns c = seeks-spot c.aim.ensures c.in_ok-seek.ensures c.spot_after.ensures
