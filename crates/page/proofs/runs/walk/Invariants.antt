-- `page::runs::walk` meets its contract. The invariant: the words passed and the place in the rest make the place in
-- all.
use mathlib.Core.Path.{◌≡◌}
use mathlib.Core.Bool.{true}
use Prim.Native.Nat.{◌+◌}
use lib.ListN.{drop}
use Rattle.page.specs.Runs.{leading, up_to}
use Rattle.page.proofs.runs.walk.Given as goal

abbrev pub invariant-loop-i : goal.invariant-loop-i
invariant-loop-i l = l.i + leading (up_to l.key true) (drop l.i l.s) ≡ leading (up_to l.key true) l.s
