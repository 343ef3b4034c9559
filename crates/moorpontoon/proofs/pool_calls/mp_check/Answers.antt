-- `mp_check` meets its contract: check answers, whatever the words.
use mathlib.Core.Path.{refl}
use borrow.Author.Rules.{rules}
use Rattle.model.specs.Call.{answered}
use Rattle.moorpontoon.proofs.pool_calls.mp_check.Goals as goal

pub returns : goal.returns
returns c = record {
  short = λ few. search rules;
  told = λ many. (answered c.check.result, (c.check.ensures, refl), c.give.ensures);
}
