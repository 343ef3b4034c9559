-- `pool::copy_words` meets its contract: the words before i are the source's.
use mathlib.Core.Path.{◌≡◌}
use lib.ListN.{length, take}
use Rattle.map.proofs.pool.copy_words.Given as goal

abbrev pub invariant-loop-i : goal.invariant-loop-i
invariant-loop-i l = (length l.source ≡ length l.destination) × (take l.i l.destination ≡ take l.i l.source)
