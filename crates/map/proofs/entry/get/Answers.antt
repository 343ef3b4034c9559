-- `entry::get` meets its contract: the tree's search answers, and an absent key has taken all levels.
use mathlib.Core.Path.{ap, ◌∙◌}
use Rattle.std.specs.Prelude.{Ok}
use Rattle.map.proofs.Answers.{err-same}
use Rattle.map.proofs.Calling.{get_value, get_absent, get-unsound}
use Rattle.map.proofs.entry.get.Goals as goal

pub returns-in-Some : goal.returns-in-Some
returns-in-Some c = get_value _ _ c.get.ensures c.args.kind c.in_ok-reading.ensures (c.in_ok-found.was ∙ ap Ok c.in-Some.is)

pub returns-in-None : goal.returns-in-None
returns-in-None c =
    get_absent _ _ c.get.ensures c.args.kind c.in_ok-reading.ensures (c.in_ok-found.was ∙ ap Ok c.in-None.is) c.levels.ensures.0

pub returns-in_err-found : goal.returns-in_err-found
returns-in_err-found c =
    rw (err-same c.from_residual-in_err-found.ensures) (get-unsound _ _ c.get.ensures c.args.kind c.in_ok-reading.ensures c.in_err-found.was)
