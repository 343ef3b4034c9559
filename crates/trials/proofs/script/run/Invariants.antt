-- `run` ends.
-- Its measure: how much of the script is left.
use Rattle.std.proofs.Common.{length}
use Rattle.trials.proofs.script.run.Given as goal

abbrev pub decreases-loop-byte : goal.decreases-loop-byte
decreases-loop-byte g l = length l.rest
