-- `list::span` writes the entries from the gap of `lower` on: the path sought is the path that is run along.
use mathlib.Core.Path.{refl}
use native.Mathlib.Omega.{arith}
use Rattle.lend.proofs.Fitting.{head-long}
use Rattle.map.proofs.Spanning.{spans-run}
use Rattle.map.proofs.list.span.Goals as goal

pub run-requires : goal.run-requires
run-requires c =
    let long = head-long c.args.pool.now c.requires in
    record { today_in_bounds = omega arith; path_in = c.in_ok-seek.ensures.inside refl }

pub returns : goal.returns
returns c =
    spans-run c.in_ok-seek.ensures c.run.ensures
