-- `check::check` meets its contract: each answer by the tests that led there.
use Rattle.std.proofs.Common.{◌≡◌, true, pred, Ok, sym, ◌∙◌, arith}
use borrow.Author.Tests.{eqb-true, ne_eqb, eqb-false}
use Rattle.model.specs.Head.{root_word, levels_word, count_word, headed, geometry_of}
use Rattle.tree.specs.Check.{broken, over_tree}
use Rattle.model.proofs.Head.{head-facts}
use Rattle.model.proofs.Cases.{contrary}
use Rattle.lend.proofs.Fitting.{head-long}
use Rattle.tree.proofs.Checking.{nothing, root-there, check-through, check-pages, check-entries, check-broken, walk-root, over_none, count_none}
use Rattle.tree.proofs.check.check.Goals as goal
use Rattle.tree.proofs.check.check.Goals.{Else-not-fits, In-Ok, then-all-taken, else-all-taken}

-- past the head
fitting : (c : Else-not-fits) → headed c.args.pool.now ≡ true
fitting c = sym c.fits.ensures ∙ c.if-not-fits.false

pub bounds-pool-4 : goal.bounds-pool-4
bounds-pool-4 c = let long = head-long _ (fitting (goal.at.bounds-pool-4 c).Else-not-fits) in omega arith

-- ---- no levels

pub taken-requires : goal.taken-requires
taken-requires c = let long = head-long _ (fitting (goal.at.taken-requires c).Else-not-fits) in omega arith

pub returns-else-taken-eq0 : goal.returns-else-taken-eq0
returns-else-taken-eq0 c =
    let w = c.args.pool.now in
    let fit = fitting (goal.at.returns-else-taken-eq0 c).Else-not-fits in
    let e = c.taken.ensures in
    let n = c.if-taken-eq0.false in
    rw (ne_eqb c.taken.result 0 n) (check-pages w fit nothing (over_none w fit c.if-levels-eq0.true) (omega arith))

pub returns-then-taken-eq0 : goal.returns-then-taken-eq0
returns-then-taken-eq0 c =
    let w = c.args.pool.now in
    let fit = fitting (goal.at.returns-then-taken-eq0 c).Else-not-fits in
    let none = c.if-levels-eq0.true in
    let e = c.taken.ensures in
    let z = c.if-taken-eq0.true in
    check-through w fit nothing (over_none w fit none) c.cursor.result (omega arith) (count_none w fit none) c.cursor.ensures

-- ---- the walk

pub overflow_sub-pool : goal.overflow_sub-pool
overflow_sub-pool c = (root-there _ (fitting (goal.at.overflow_sub-pool c).Else-not-fits) c.if-levels-eq0.false).some

pub walk-requires : goal.walk-requires
unfolding geometry_of
walk-requires c =
    let w = c.args.pool.now in
    let fit = fitting (goal.at.walk-requires c).Else-not-fits in
    let long = head-long w fit in
    let root = root-there w fit c.if-levels-eq0.false in
    let most = (head-facts w fit).most in
    (omega arith, root.inside, omega arith, most, omega arith)

pub returns-in_default : goal.returns-in_default
returns-in_default c =
    let w = c.args.pool.now in
    let fit = fitting (goal.at.returns-in_default c).Else-not-fits in
    check-broken w fit (walk-root w fit broken c.if-levels-eq0.false c.in_default.ensures)

-- what the walk has met
through : (c : In-Ok) → headed c.args.pool.now ≡ true →
    let w = c.args.pool.now in
    over_tree w (levels_word w) (pred (root_word w)) 1 (Ok nothing) ≡ Ok c.in-Ok.all
through c fit = walk-root c.args.pool.now fit (Ok c.in-Ok.all) c.if-levels-eq0.false c.in-Ok.ensures

pub taken-requires-2 : goal.taken-requires-2
taken-requires-2 c = let long = head-long _ (fitting (goal.at.taken-requires-2 c).Else-not-fits) in omega arith

pub returns-then-all-pool : goal.returns-then-all-pool
returns-then-all-pool c =
    let w = c.args.pool.now in
    let all = c.in-Ok.all in
    let fit = fitting (goal.at.returns-then-all-pool c).Else-not-fits in
    let e = c.taken-2.ensures in
    let cursor = c.cursor-then-all-pool in
    elim c.if-all-taken.branch [
      | then-all-taken x ↦
          let same = x.if-all-taken.true in
          check-through w fit all (through (goal.at.returns-then-all-pool c).In-Ok fit)
          cursor.result (omega arith) (eqb-true all.entries (count_word w) (sym x.value-is ∙ c.if-all-pool.true)) cursor.ensures
      | else-all-taken x ↦ contrary c.if-all-pool.true (x.value-is ∙ ne_eqb all.pages c.taken-2.result x.if-all-taken.false)
    ]

pub returns-else-all-pool : goal.returns-else-all-pool
returns-else-all-pool c =
    let w = c.args.pool.now in
    let all = c.in-Ok.all in
    let fit = fitting (goal.at.returns-else-all-pool c).Else-not-fits in
    let e = c.taken-2.ensures in
    elim c.if-all-taken.branch [
      | then-all-taken x ↦
          rw c.if-all-pool.false
          (check-entries w fit all (through (goal.at.returns-else-all-pool c).In-Ok fit)
          (eqb-false all.entries (count_word w) (sym x.value-is ∙ c.if-all-pool.false)))
      | else-all-taken x ↦
          let n = x.if-all-taken.false in
          rw c.if-all-pool.false (check-pages w fit all (through (goal.at.returns-else-all-pool c).In-Ok fit) (omega arith))
    ]
