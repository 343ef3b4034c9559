-- `page::runs::walk` meets its contract. The invariant: the words passed and the place in the rest make the place in
-- all.
use mathlib.Core.Bool.{true}
use native.Mathlib.Omega.{arith}
use lib.ListN.{get_or}
use borrow.Author.Rules.{rules}
use borrow.Author.Tests.{le-leb, lt-leb}
use Rattle.page.specs.Runs.{up_to}
use Rattle.page.proofs.Leading.{leading-here, leading-past, leading_end}
use Rattle.page.proofs.runs.walk.Goals as goal

pub returns-then-key-word : goal.returns-then-key-word
returns-then-key-word c =
    let a = c.args in
    let i = c.loop-i.i in
    omega (arith, leading-here (up_to a.key true) a.s.now i (search rules) (lt-leb (get_or a.s.now i 0) a.key (search rules)))

pub loop-i-preserved : goal.loop-i-preserved
loop-i-preserved c =
    let a = c.args in
    let i = c.loop-i.i in
    omega (arith, leading-past (up_to a.key true) a.s.now i (search rules) (le-leb (get_or a.s.now i 0) a.key (search rules)))

pub returns : goal.returns
returns c =
    let a = c.args in
    let i = c.loop-i.i in
    omega (arith, leading_end (up_to a.key true) a.s.now i (search rules))
