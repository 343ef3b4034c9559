-- `read_full` ends, with no more bytes than there are: each read but the last fills one or more.
-- Its measure: how many bytes are left.
use Rattle.std.proofs.Common.{◌-◌, ◌≤◌, length}
use Rattle.table.proofs.read_full.Given as goal

abbrev pub invariant-loop-n : goal.invariant-loop-n
invariant-loop-n g l = l.n ≤ length l.bytes

abbrev pub decreases-loop-n : goal.decreases-loop-n
decreases-loop-n g l = length l.bytes - l.n
