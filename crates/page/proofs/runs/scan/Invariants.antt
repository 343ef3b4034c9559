-- `page::runs::scan` meets its contract. The invariant: the mask has a bit for each word passed.
use Rattle.page.specs.Runs.{up_to}
use Rattle.page.proofs.Leading.{Mask}
use Rattle.page.proofs.runs.scan.Given as goal

abbrev pub invariant-loop-i : goal.invariant-loop-i
invariant-loop-i l = Mask (up_to l.key l.past) l.s l.i l.mask
