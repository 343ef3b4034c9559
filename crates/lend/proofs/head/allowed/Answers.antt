-- `head::allowed` meets its contract.
use mathlib.Core.Path.{sym, ◌∙◌}
use mathlib.Core.List.{[], ◌∷◌}
use native.Mathlib.Omega.{arith}
use lib.Dec.{eqb}
use lib.ListN.{take}
use borrow.Author.Tests.{le-leb, lt-leb}
use Rattle.model.specs.Layout.{most_pages, first_word, pages_in, length_tests, allowed, today}
use Rattle.model.proofs.Basics.{every-all, every-then, every-fails, every_one}
use Rattle.lend.proofs.head.allowed.Goals as goal

pub returns-then-n : goal.returns-then-n
unfolding allowed
returns-then-n c = let n = c.args.n in sym (every-fails 0 (length_tests today n) (lt-leb 1 (pages_in today n) (omega arith)))

pub returns-then-pages-le-MOST_PAGES : goal.returns-then-pages-le-MOST_PAGES
unfolding allowed
returns-then-pages-le-MOST_PAGES c =
    let n = c.args.n in
    let last = eqb n (first_word today (pages_in today n)) in
    let first = take 2 (length_tests today n) in
    sym (every-then first (last ∷ []) (every-all first (omega (arith, le-leb))) ∙ every_one last)

pub returns-else-pages-le-MOST_PAGES : goal.returns-else-pages-le-MOST_PAGES
unfolding allowed
returns-else-pages-le-MOST_PAGES c =
    let n = c.args.n in
    let many = lt-leb (pages_in today n) (most_pages today) c.if-pages-le-MOST_PAGES.false in
    many ∙ sym (every-fails 1 (length_tests today n) many)
