-- `head::numbers` meets its contract: the first of the tests that fails decides. The check finds this alone, but only
-- just: not where its limits are halved, as by `--margin`.
use borrow.Author.Rules.{rules}
use Rattle.lend.proofs.head.numbers.Goals as goal

pub returns-else-both_or_neither : goal.returns-else-both_or_neither
returns-else-both_or_neither c = search rules
