-- `list::run` meets its contract: each turn takes one more entry along, and each way out is where the list is whole.
use Rattle.tree.specs.Sits.{pages_of, slots_of}
use Rattle.map.proofs.Listing.{Ran}
use Rattle.map.proofs.list.run.Given as goal

abbrev pub invariant-loop-i : goal.invariant-loop-i
invariant-loop-i l = Ran l.pool l.upper (pages_of l.initial.path) (slots_of l.initial.path) l.most l.initial.keys l.initial.values (pages_of l.path) (slots_of l.path) l.keys l.values l.i
