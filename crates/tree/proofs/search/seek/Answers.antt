-- `search::seek` meets its contract: the path from the root's page is the pool's.
use Rattle.std.proofs.Common.{◌<◌, length, refl, sym, ◌∙◌, arith}
use borrow.Author.Tests.{eqb-true, eqb-false}
use Rattle.model.specs.Head.{levels_word}
use Rattle.lend.proofs.Fitting.{head-long, head-root}
use Rattle.tree.proofs.Paths.{pages-long}
use Rattle.tree.proofs.Seeking.{seek-none, seek-whole}
use Rattle.tree.proofs.search.seek.Goals as goal
use Rattle.tree.proofs.search.seek.Goals.{Else-is_empty}

-- past the test there is a root
some : (c : Else-is_empty) → 0 < levels_word c.args.pool.now
some c = let n = eqb-false (length c.args.path.now) 0 (sym c.is_empty.ensures ∙ c.if-is_empty.false) in omega (arith, c.requires.path_len)

pub returns-then-is_empty : goal.returns-then-is_empty
returns-then-is_empty c =
    let a = c.args in
    let none = eqb-true (length a.path.now) 0 (sym c.is_empty.ensures ∙ c.if-is_empty.true) in
    seek-none a.pool.now a.aim a.path.now (sym c.requires.path_len ∙ none) none

pub overflow_sub-root : goal.overflow_sub-root
overflow_sub-root c = (head-root c.args.pool.now c.requires.pool_value (some (goal.at.overflow_sub-root c).Else-is_empty)).0

pub seek_below-requires : goal.seek_below-requires
seek_below-requires c =
    let w = c.args.pool.now in
    let given = some (goal.at.seek_below-requires c).Else-is_empty in
    (omega (arith, head-long w c.requires.pool_value), (head-root w c.requires.pool_value given).1, omega (arith, c.requires.path_len))

pub returns : goal.returns
returns c =
    let a = c.args in
    seek-whole a.pool.now _ a.aim (some (goal.at.returns c).Else-is_empty) (pages-long a.path.now ∙ c.requires.path_len) refl c.seek_below.ensures
