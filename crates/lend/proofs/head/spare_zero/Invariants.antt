-- `head::spare_zero` meets its contract. The loop keeps what is left of the test: the ORed words are 0, and so are the
-- words that come.
use mathlib.Core.Path.{◌≡◌}
use mathlib.Core.List.{map}
use Prim.Native.Nat.{◌+◌}
use lib.Dec.{eqb}
use Rattle.model.specs.Basics.{every}
use Rattle.model.specs.Head.{spare_words}
use Rattle.lend.proofs.Fitting.{spare_left}
use Rattle.lend.proofs.head.spare_zero.Given as goal

abbrev pub invariant-loop-word : goal.invariant-loop-word
invariant-loop-word l = spare_left l.pool l.all (9 + l.word-index) ≡ every (map (λ x. eqb x 0) (spare_words l.pool))
