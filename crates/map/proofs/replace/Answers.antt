-- `replace` meets its contract: the entry that has the key is overwritten.
use mathlib.Core.Path.{ap}
use Rattle.std.specs.Prelude.{Ok}
use Rattle.map.proofs.Calling.{replace-over, replace_absent}
use Rattle.map.proofs.replace.Goals as goal

pub returns-in-Some : goal.returns-in-Some
returns-in-Some c = replace-over _ c.in_ok-changing.ensures c.in_ok-spot.ensures (ap Ok c.in-Some.is) c.write.ensures

pub returns-in-None : goal.returns-in-None
returns-in-None c = replace_absent c.args.value c.in_ok-changing.ensures c.in_ok-spot.ensures (ap Ok c.in-None.is)
