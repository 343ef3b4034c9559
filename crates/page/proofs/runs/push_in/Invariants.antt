-- `page::runs::push_in` meets its contract. The invariant: without the word at `max at i`, which is not wanted any
-- more, there are the words of before but for the last.
use mathlib.Core.Path.{◌≡◌}
use Prim.Native.Nat.{◌-◌, max}
use lib.ListN.{length, take}
use Rattle.model.specs.Basics.{del}
use Rattle.page.proofs.runs.push_in.Given as goal

abbrev pub invariant-loop-i : goal.invariant-loop-i
invariant-loop-i l = del (max l.at (l.i - 1)) l.s ≡ take (length l.initial.s - 1) l.initial.s
