-- `peek_prev` meets its contract: the value that the search finds for the key that the gap names.
use mathlib.Core.Path.{ap, ◌∙◌}
use Rattle.std.specs.Prelude.{Ok}
use Rattle.cursor.proofs.Backward.{peek-prev-end, peek-prev-lost, peek-prev-value}
use Rattle.cursor.proofs.peek_prev.Goals as goal

pub returns-in_default : goal.returns-in_default
returns-in_default c = peek-prev-end c.in_ok-ready.ensures c.in_default.ensures

pub returns-in_default-2 : goal.returns-in_default-2
returns-in_default-2 c = peek-prev-lost c.in_ok-ready.ensures c.in-Some.ensures c.get.ensures.0 (c.in_ok-found.was ∙ ap Ok c.in_default-2.is)

pub returns : goal.returns
returns c = peek-prev-value c.in_ok-ready.ensures c.in-Some.ensures c.get.ensures (c.in_ok-found.was ∙ ap Ok c.in-Some-2.is)
