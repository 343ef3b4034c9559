-- `page::runs::scan` meets its contract. The invariant: the mask has a bit for each word passed.
use native.Mathlib.Omega.{arith}
use lib.ListN.{get_or}
use borrow.Author.Rules.{rules}
use Rattle.page.specs.Runs.{up_to}
use Rattle.page.proofs.Leading.{mask-none, mask-on, mask-leading, stands-up-to, leading-take}
use Rattle.page.proofs.runs.scan.Goals as goal

pub loop-i-init : goal.loop-i-init
loop-i-init c = mask-none _ _

pub loop-i-preserved : goal.loop-i-preserved
loop-i-preserved c =
    let a = c.args in
    let l = c.loop-i in
    rw (stands-up-to a.key (get_or a.s.now l.i 0) a.past) (mask-on (up_to a.key a.past) a.s.now l.i l.mask (search rules) (search rules) l.invariant)

-- the mask of all words, and the first n of them
pub returns : goal.returns
returns c =
    let a = c.args in
    let l = c.loop-i in
    omega (
      arith,
      c.trailing_ones.ensures,
      mask-leading (up_to a.key a.past) a.s.now l.i l.mask (search rules) (search rules) l.invariant,
      leading-take (up_to a.key a.past) a.n a.s.now,
    )
