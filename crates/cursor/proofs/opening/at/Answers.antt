-- `opening::at` meets its contract: the start is laid as it is; any other gap is laid behind the entry before it, which
-- the path of the search shows.
use Rattle.map.proofs.Answers.{err-same}
use Rattle.cursor.proofs.Opens.{opens-start, opens-unsound, opens-sought}
use Rattle.cursor.proofs.opening.at.Goals as goal

pub returns-in-Start : goal.returns-in-Start
returns-in-Start c = opens-start c.in-Start.is c.lay_behind.ensures

pub returns-in_err-seek : goal.returns-in_err-seek
returns-in_err-seek c = rw (err-same c.from_residual.ensures) (opens-unsound c.in_err-seek.ensures)

pub returns : goal.returns
returns c = opens-sought c.in_ok-seek.ensures c.in_default.not-Start c.spot_before-behind.ensures c.rest.ensures c.levels-levels.ensures.0
