-- `remove::remove_along` meets its contract: at each place of the path, what is done is what a removal below that place
-- does; where it stops, nothing is left to do above.
use Rattle.std.specs.Prelude.{None}
use Rattle.std.proofs.Common.{◌≡◌, ◌∙◌, ◌-◌, ◌≤◌, suc, List, ℕ, [], ◌∷◌, ◌++◌, length, drop, arith, rules, length-append}
use Rattle.lend.specs.Pages.{least}
use Rattle.tree.specs.Sits.{pages_of, slots_of}
use Rattle.tree.specs.Remove.{count_below, Mends, RemovesBelow}
use Rattle.tree.proofs.Paths.{pages-long}
use Rattle.tree.proofs.Backward.{Turn, turn, ended, turn-inside, leaf-turn, upper-turn}
use Rattle.tree.proofs.Shrinking.{removes-nothing, along-leaf, along-upper}
use Rattle.tree.proofs.Settling.{keeps, along-settled}
use Rattle.tree.proofs.remove.remove_along.Goals as goal
use Rattle.tree.proofs.remove.remove_along.Goals.{In_ok-leaf, In-Some, After-inherit-gone, Else-count_below-lt-LEAST}

pub returns-in_err-leaf : goal.returns-in_err-leaf
returns-in_err-leaf c =
    let path = c.args.path.now in
    rw c.from_residual.ensures (removes-nothing c.args.pool.now (pages_of path) (slots_of path) (pages-long path ∙ c.in_err-leaf.ensures.cases))

-- where the leaf stands, and the spot of a turn
leaf_at : (c : In_ok-leaf) → Turn c.args.path.now 0 c.in_ok-leaf.leaf.now
leaf_at c = leaf-turn c.args.path.now c.in_ok-leaf.uppers.now c.in_ok-leaf.leaf.now c.in_ok-leaf.ensures.cases.0

at : (c : In-Some) → Turn c.args.path.now (suc (length c.loop-spot.yielded)) c.in-Some.spot.now
at c =
    let l = c.loop-spot in
    let uppers = c.in_ok-leaf.uppers.now in
    upper-turn c.args.path.now uppers c.in_ok-leaf.leaf.now c.in_ok-leaf.ensures.cases.0 (length l.yielded) c.in-Some.spot.now
    (turn uppers c.into_iter-spot-iterator.result (cc) l.yielded l.spot-iterator l.yielded_by _ _ _ c.in-Some.is c.next.ensures.steps)

pub take_out-gone-requires : goal.take_out-gone-requires
take_out-gone-requires c = (turn-inside c.requires.path_in (leaf_at (goal.at.take_out-gone-requires c).In_ok-leaf)).0

pub loop-spot-init : goal.loop-spot-init
loop-spot-init c =
    let path = c.args.path.now in
    let t = leaf_at (goal.at.loop-spot-init c).In_ok-leaf in
    let last : length path - 0 - 1 ≡ length path - 1 = omega arith in
    along-leaf c.args.pool.now c.take_out-gone.new.pool (pages_of path) (slots_of path) (length path - 1) c.take_out-gone.result
    (omega (arith, t.within, pages-long path)) (rw (← last, t.page, t.slot) c.take_out-gone.ensures)

pub inherit-gone-requires : goal.inherit-gone-requires
inherit-gone-requires c =
    let t = turn-inside c.requires.path_in (at (goal.at.inherit-gone-requires c).In-Some) in
    omega (arith, c.loop-spot.invariant.long)

pub count_below-requires : goal.count_below-requires
count_below-requires c =
    let t = turn-inside c.requires.path_in (at (goal.at.count_below-requires c).In-Some) in
    omega (arith, c.loop-spot.invariant.long, c.inherit-gone.ensures.only.long)

pub mend-requires : goal.mend-requires
mend-requires c =
    let t = turn-inside c.requires.path_in (at (goal.at.mend-requires c).In-Some) in
    omega (arith, c.loop-spot.invariant.long, c.inherit-gone.ensures.only.long)

-- one spot more
more : (c : After-inherit-gone) (w : List ℕ) → Mends c.in-Some.spot.now.page c.in-Some.spot.now.slot c.inherit-gone.new.pool w
    → let path = c.args.path.now in
    let i = length path - suc (length (c.loop-spot.yielded ++ c.in-Some.spot ∷ [])) in
    RemovesBelow c.args.pool.now (drop i (pages_of path)) (drop i (slots_of path)) w c.inherit-gone.result
more c w mends =
    let a = c.args in
    let l = c.loop-spot in
    let up = c.inherit-gone in
    let path = a.path.now in
    let t = at (goal.at.After-inherit-gone c).In-Some in
    let next : length path - suc (length (l.yielded ++ c.in-Some.spot ∷ [])) ≡ length path - suc (length l.yielded) - 1 = omega (arith, length-append l.yielded (c.in-Some.spot ∷ [])) in
    rw next
    (along-upper a.pool.now l.pool up.new.pool w (pages_of path) (slots_of path) (length path - suc (length l.yielded)) l.gone up.result
    (omega (arith, t.within)) (omega (arith, t.within, pages-long path)) l.invariant (rw (t.page, t.slot) up.ensures) (rw (t.page, t.slot) mends))

pub loop-spot-preserved-then-count_below-lt-LEAST : goal.loop-spot-preserved-then-count_below-lt-LEAST
loop-spot-preserved-then-count_below-lt-LEAST c =
    more (goal.at.loop-spot-preserved-then-count_below-lt-LEAST c).After-inherit-gone c.mend.new.pool c.mend.ensures

-- the child has enough
enough : (c : Else-count_below-lt-LEAST) → least ≤ count_below c.inherit-gone.new.pool c.in-Some.spot.now.page c.in-Some.spot.now.slot
enough c = omega (arith, c.count_below.ensures, c.if-count_below-lt-LEAST.false)

-- nothing is handed up and the child has enough: the pages above stay
pub returns-then-is_none : goal.returns-then-is_none
returns-then-is_none c =
    let a = c.args in
    let l = c.loop-spot in
    let up = c.inherit-gone in
    let path = a.path.now in
    let t = at (goal.at.returns-then-is_none c).In-Some in
    let none : up.result ≡ None = search rules in
    along-settled a.pool.now l.pool up.new.pool (pages_of path) (slots_of path) (length path - suc (length l.yielded)) l.gone
    (omega (arith, t.within)) (omega (arith, t.within, pages-long path)) l.invariant (rw (t.page, t.slot) (rw none at up.ensures))
    (rw (t.page, t.slot) (enough (goal.at.returns-then-is_none c).Else-count_below-lt-LEAST))

pub loop-spot-preserved : goal.loop-spot-preserved
loop-spot-preserved c =
    more (goal.at.loop-spot-preserved c).After-inherit-gone c.inherit-gone.new.pool
    (keeps _ _ c.inherit-gone.new.pool (enough (goal.at.loop-spot-preserved c).Else-count_below-lt-LEAST))

pub returns : goal.returns
returns c =
    let l = c.loop-spot in
    let path = c.args.path.now in
    let uppers = c.in_ok-leaf.uppers.now in
    let all = ended uppers c.into_iter-spot-iterator.result (cc) l.yielded l.spot-iterator l.yielded_by _ _ c.in-None.is c.next.ensures.steps in
    let end : length path - suc (length l.yielded) ≡ 0 = omega (arith, c.in_ok-leaf.ensures.cases.1) in
    rw end at l.invariant
