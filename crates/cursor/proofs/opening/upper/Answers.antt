-- `opening::upper` meets its contract: the gap of the upper bound is document 01's.
use Rattle.model.specs.Bound.{bound_of}
use Rattle.map.specs.Bound.{upper_aim}
use Rattle.cursor.proofs.Opens.{upper-meets}
use Rattle.cursor.proofs.opening.upper.Goals as goal

pub returns : goal.returns
returns c =
    let a = c.args in
    upper-meets a.bound.kind a.bound.key (c.by.ensures a.bound.kind (upper_aim (bound_of a.bound.kind a.bound.key)) c.upper.ensures)
