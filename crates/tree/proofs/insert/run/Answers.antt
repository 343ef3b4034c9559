-- `insert::run` meets its contract: each answer by the page that a turn counts.
use Rattle.std.proofs.Common.{[], ◌∷◌, ◌-◌, length, refl, arith, length-append}
use Rattle.lend.specs.Pages.{Inside}
use Rattle.tree.specs.Sits.{pages_of}
use Rattle.model.proofs.Basics.{all-at}
use Rattle.tree.proofs.Paths.{pages-long}
use Rattle.tree.proofs.Backward.{Turn, turn, ended}
use Rattle.tree.proofs.Running.{counted_none, counted-room, counted-full, counted-all}
use Rattle.tree.proofs.insert.run.Goals as goal
use Rattle.tree.proofs.insert.run.Goals.{In-Some}

-- where the spot stands
at : (c : In-Some) → Turn c.args.path.now c.loop-spot.full c.in-Some.spot.now
at c =
    let l = c.loop-spot in
    rw l.invariant.0
    (turn c.args.path.now c.into_iter-spot-iterator.result (cc) l.yielded l.spot-iterator l.yielded_by _ _ _ c.in-Some.is c.next.ensures.steps)

pub count-requires : goal.count-requires
count-requires c =
    let path = c.args.path.now in
    let t = at (goal.at.count-requires c).In-Some in
    rw t.page at (all-at (λ p. Inside p c.args.pool.now) (pages_of path) (length path - c.loop-spot.full - 1) 0 (omega (arith, pages-long path)) c.requires)

pub loop-spot-init : goal.loop-spot-init
loop-spot-init c = (refl, counted_none c.args.pool.now c.args.path.now)

pub loop-spot-preserved : goal.loop-spot-preserved
loop-spot-preserved c =
    let l = c.loop-spot in
    let t = at (goal.at.loop-spot-preserved c).In-Some in (
      omega (arith, length-append l.yielded (c.in-Some.spot ∷ [])),
      counted-full c.args.pool.now c.args.path.now l.full c.in-Some.spot.now l.invariant.1 t (omega arith),
    )

pub returns-in-None : goal.returns-in-None
returns-in-None c =
    let l = c.loop-spot in
    let all = ended c.args.path.now c.into_iter-spot-iterator.result (cc) l.yielded l.spot-iterator l.yielded_by _ _ c.in-None.is c.next.ensures.steps in
    counted-all c.args.pool.now c.args.path.now l.full l.invariant.1 (omega arith)

pub returns-then-count-lt-MOST : goal.returns-then-count-lt-MOST
returns-then-count-lt-MOST c =
    let t = at (goal.at.returns-then-count-lt-MOST c).In-Some in
    counted-room c.args.pool.now c.args.path.now c.loop-spot.full c.in-Some.spot.now c.loop-spot.invariant.1 t (omega arith)
