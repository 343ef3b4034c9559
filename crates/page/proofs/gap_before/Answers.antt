-- `page::gap_before` meets its contract: the count was told or refused; the key words that stand in front are counted.
use mathlib.Core.Path.{◌≡◌, sym, ◌∙◌}
use mathlib.Core.Bool.{false}
use borrow.Author.Rules.{rules}
use Rattle.std.specs.Prelude.{Ok}
use Rattle.page.specs.Runs.{up_to}
use Rattle.page.specs.Page.{count_in}
use Rattle.page.proofs.Finding.{gap-refused, gap-scanned}
use Rattle.page.proofs.gap_before.Goals as goal
use Rattle.page.proofs.gap_before.Goals.{In_ok-n}

told : (c : In_ok-n) → count_in c.args.most c.args.page.now ≡ Ok c.in_ok-n.n
told c = sym c.counted.ensures ∙ c.in_ok-n.was

pub returns-in_err-n : goal.returns-in_err-n
returns-in_err-n c = (search rules) ∙ gap-refused _ _ _ (sym c.counted.ensures ∙ c.in_err-n.was)

pub returns : goal.returns
returns c = gap-scanned c.args.most c.args.page.now (up_to c.args.key false) c.requires.0 (told (goal.at.returns c).In_ok-n) c.scan.ensures
