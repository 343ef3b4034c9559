-- `insert::insert_along` meets its contract: at each place of the path, what is handed up is what an insertion below
-- that place hands up.
use Rattle.std.specs.Prelude.{Option}
use Rattle.std.proofs.Common.{◌≡◌, ◌-◌, List, ℕ, length, drop, arith, length-drop}
use Rattle.tree.specs.declared.insert.Up.{Up}
use Rattle.tree.specs.Insert.{InsertsBelow, Puts}
use Rattle.tree.specs.Sits.{pages_of, slots_of}
use Rattle.tree.proofs.Paths.{pages-long}
use Rattle.tree.proofs.Backward.{Turn, turn, ended, one_less, turn-inside}
use Rattle.tree.proofs.Grafting.{below_none, along-put, along-whole}
use Rattle.tree.proofs.insert.insert_along.Goals as goal
use Rattle.tree.proofs.insert.insert_along.Goals.{In-Some}
use Rattle.page.specs.Page.{plain}

-- where the spot stands
at : (c : In-Some) → Turn c.args.path.now (length c.loop-spot.yielded) c.in-Some.spot.now
at c =
    let l = c.loop-spot in
    turn c.args.path.now c.into_iter-spot-iterator.result (cc) l.yielded l.spot-iterator l.yielded_by _ _ _ c.in-Some.is c.next.ensures.steps

pub loop-spot-init : goal.loop-spot-init
loop-spot-init c =
    let a = c.args in
    let path = a.path.now in
    let n = length path - 0 in
    below_none a.pool.now (drop n (pages_of path)) (drop n (slots_of path)) (plain a.entry)
    (simp length-drop (omega (arith, pages-long path)))

pub put-requires : goal.put-requires
put-requires c =
    let l = c.loop-spot in
    let t = turn-inside c.requires.path_in (at (goal.at.put-requires c).In-Some) in
    omega (arith, l.invariant.long)

-- one spot more
more : (c : In-Some) (w : List ℕ) (r : Option Up) → Puts c.in-Some.spot.now.page c.in-Some.spot.now.slot (plain c.loop-spot.up.entry) c.loop-spot.up.child c.loop-spot.pool w r
    → let path = c.args.path.now in
    let i = length path - length c.loop-spot.yielded - 1 in
    InsertsBelow c.args.pool.now (drop i (pages_of path)) (drop i (slots_of path)) (plain c.args.entry) w r
more c w r puts =
    let a = c.args in
    let l = c.loop-spot in
    let path = a.path.now in
    let t = at c in
    along-put a.pool.now (pages_of path) (slots_of path) (plain a.entry) c.requires.sized (length path - length l.yielded)
    (omega arith) (omega (arith, pages-long path)) l.pool w l.up r l.invariant (rw (t.page, t.slot) puts)

pub returns-in_err-up : goal.returns-in_err-up
returns-in_err-up c =
    let a = c.args in
    let l = c.loop-spot in
    let path = a.path.now in
    rw c.from_residual.ensures
    (along-whole a.pool.now (pages_of path) (slots_of path) (plain a.entry) c.requires.sized c.put.new.pool (length path - length l.yielded - 1)
    (omega (arith, pages-long path)) (more (goal.at.returns-in_err-up c).In-Some c.put.new.pool _ c.in_err-up.ensures))

pub loop-spot-preserved : goal.loop-spot-preserved
loop-spot-preserved c =
    rw (one_less (length c.args.path.now) c.loop-spot.yielded c.in-Some.spot)
    (more (goal.at.loop-spot-preserved c).In-Some c.put.new.pool _ c.in_ok-up.ensures)

pub returns : goal.returns
returns c =
    let l = c.loop-spot in
    let path = c.args.path.now in
    let all = ended path c.into_iter-spot-iterator.result (cc) l.yielded l.spot-iterator l.yielded_by _ _ c.in-None.is c.next.ensures.steps in
    let end : length path - length l.yielded ≡ 0 = omega arith in
    rw end at l.invariant
