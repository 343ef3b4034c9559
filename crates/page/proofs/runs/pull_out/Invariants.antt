-- `page::runs::pull_out` meets its contract. The invariant: without the word at `max at i`, which is not wanted any
-- more, there is what was to be made; the last word stays.
use mathlib.Core.Path.{◌≡◌}
use Prim.Native.Nat.{◌-◌, max}
use lib.ListN.{length, drop}
use Rattle.model.specs.Basics.{del}
use Rattle.page.proofs.runs.pull_out.Given as goal

abbrev pub invariant-loop-i : goal.invariant-loop-i
invariant-loop-i l = (del (max l.at l.i) l.s ≡ del l.at l.initial.s) × (drop (length l.initial.s - 1) l.s ≡ drop (length l.initial.s - 1) l.initial.s)
