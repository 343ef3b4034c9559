-- `opening::lower` meets its contract: the gap of the lower bound is document 01's.
use Rattle.model.specs.Bound.{bound_of}
use Rattle.map.specs.Bound.{lower_aim}
use Rattle.cursor.proofs.Opens.{lower-meets}
use Rattle.cursor.proofs.opening.lower.Goals as goal

pub returns : goal.returns
returns c =
    let a = c.args in
    lower-meets a.bound.kind a.bound.key (c.by.ensures a.bound.kind (lower_aim (bound_of a.bound.kind a.bound.key)) c.lower.ensures)
