-- `pool::copy_words` meets its contract: the words before i are the source's.
use mathlib.Core.Path.{refl}
use native.Mathlib.Omega.{arith}
use lib.ListN.{length-set}
use borrow.Author.Rules.{rules}
use Rattle.map.proofs.Making.{laid_one, laid-all}
use Rattle.map.proofs.pool.copy_words.Goals as goal

pub loop-i-init : goal.loop-i-init
loop-i-init c = (c.requires, refl)

pub loop-i-preserved : goal.loop-i-preserved
loop-i-preserved c =
    let l = c.loop-i in
    (simp length-set l.invariant.0, laid_one l.destination c.args.source.now l.invariant.0 l.i (search rules) l.invariant.1)

pub returns : goal.returns
returns c =
    let l = c.loop-i in
    laid-all l.destination c.args.source.now l.invariant.0 l.i (search rules) l.invariant.1
