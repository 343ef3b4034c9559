-- `list::fill` gives document 01's first refusal, or what stands between the two bounds.
use mathlib.Core.Path.{sym}
use Rattle.model.specs.Bound.{bound_of}
use Rattle.map.specs.Bound.{lower_aim, upper_aim}
use Rattle.map.proofs.Answers.{err-same}
use Rattle.map.proofs.Spanning.{fills-refused, bounds-later, fills-span, bounds-good, bound-known}
use Rattle.map.proofs.list.fill.Goals as goal

pub returns-in_err-reading : goal.returns-in_err-reading
returns-in_err-reading c =
    let a = c.args in
    rw (err-same c.from_residual.ensures) (fills-refused (bounds-later a.kind a.lower.kind a.upper.kind a.pool.now _ (sym c.in_err-reading.ensures)))

pub returns : goal.returns
returns c =
    let a = c.args in
    let low = bound-known a.lower.kind (lower_aim (bound_of a.lower.kind a.lower.key)) c.lower.ensures c.in_ok-start.was in
    let high = bound-known a.upper.kind (upper_aim (bound_of a.upper.kind a.upper.key)) c.upper.ensures c.in_ok-end.was in
    fills-span (bounds-good a.kind a.lower.kind a.upper.kind a.pool.now (sym c.in_ok-reading.ensures) low.0 high.0) low.1 high.1 c.span.ensures
