-- `remove::remove` meets its contract: where all that it reads is sound, the entry after the path's gap goes, a root
-- left without entries gives way, and the count is one less.
use Rattle.std.proofs.Common.{◌≡◌, ◌<◌, List, [], ◌∷◌, length, get_or, refl, sym, ap, ◌∙◌, arith}
use Rattle.std.specs.Prelude.{Some, None}
use Rattle.std.specs.List.{slice_get}
use Rattle.std.proofs.lemmas.Option.{none-some, slice_get_within, get_or_from_slice_get}
use Rattle.model.specs.Layout.{head_words}
use Rattle.model.specs.Head.{geometry_of}
use Rattle.lend.specs.Pages.{Inside}
use Rattle.tree.specs.declared.steps.Spot.{Spot}
use Rattle.tree.specs.Sits.{pages_of, slots_of}
use Rattle.model.proofs.Basics.{front-word}
use Rattle.model.proofs.Head.{head-facts}
use Rattle.lend.proofs.Fitting.{headed-sized}
use Rattle.tree.proofs.Paths.{pages-long, page-of, path-at}
use Rattle.tree.proofs.Removing.{levels-some, count-some, removes-none, removes-refused, removes-done}
use Rattle.tree.proofs.remove.remove.Goals as goal
use Rattle.tree.proofs.remove.remove.Goals.{In-Some}

-- no first spot: no spot at all
first-none : (path : List Spot) → slice_get path 0 ≡ None → length path ≡ 0
first-none [] e = refl
first-none (spot ∷ path) e = absurd (none-some spot (sym e))

-- the root's spot
root_at : (c : In-Some) → (0 < length c.args.path.now) × (get_or (pages_of c.args.path.now) 0 0 ≡ c.in-Some.root.now.page)
root_at c =
    let path = c.args.path.now in
    let root = c.in-Some.root.now in
    let first : slice_get path 0 ≡ Some root = sym c.in-Some.ensures.value in
    let some = slice_get_within path 0 root first in
    (some, page-of path 0 root some ∙ ap (λ (x : Spot). x.page) (get_or_from_slice_get path 0 root root first))

pub can_remove-requires-clause-today_in_bounds : goal.can_remove-requires-clause-today_in_bounds
can_remove-requires-clause-today_in_bounds c = (headed-sized c.args.pool.now c.requires.pool_value).0

pub remove_along-requires-clause-today_in_bounds : goal.remove_along-requires-clause-today_in_bounds
remove_along-requires-clause-today_in_bounds c = (headed-sized c.args.pool.now c.requires.pool_value).0

pub returns-in_default : goal.returns-in_default
returns-in_default c =
    let path = c.args.path.now in
    let none : length path ≡ 0 = first-none path (sym c.in_default.ensures.value) in
    removes-none c.args.pool.now (pages_of path) (slots_of path)
    (λ g sound b at. omega (arith, none, c.requires.path_len, levels-some c.args.pool.now g sound b))

pub returns-then-not-can_remove : goal.returns-then-not-can_remove
returns-then-not-can_remove c =
    let path = c.args.path.now in
    removes-refused c.args.pool.now (pages_of path) (slots_of path) c.can_remove.result c.can_remove.ensures c.if-not-can_remove.true

pub lower_root-requires : goal.lower_root-requires
unfolding geometry_of
lower_root-requires c =
    let w = c.args.pool.now in
    let path = c.args.path.now in
    let z = headed-sized w c.requires.pool_value in
    let root = root_at (goal.at.lower_root-requires c).In-Some in
    let inside : Inside c.in-Some.root.now.page w =
    rw root.1 at (path-at w (pages_of path) (slots_of path) c.requires.path_in 0 (omega (arith, pages-long path))).0 in
    omega (arith, c.remove_along.ensures.long, c.requires.path_len, (head-facts w c.requires.pool_value).levels)

pub overflow_sub-pool : goal.overflow_sub-pool
overflow_sub-pool c =
    let w = c.args.pool.now in
    let root = root_at (goal.at.overflow_sub-pool c).In-Some in
    omega (
      arith,
      c.lower_root.ensures.count,
      front-word head_words w c.remove_along.new.pool c.remove_along.ensures.head 2 (omega arith),
      count-some w c.requires.pool_value (omega (arith, c.requires.path_len)),
    )

pub returns : goal.returns
returns c =
    let path = c.args.path.now in
    let root = root_at (goal.at.returns c).In-Some in
    removes-done c.args.pool.now (pages_of path) (slots_of path) c.remove_along.new.pool c.lower_root.new.pool c.remove_along.result
    c.requires.pool_value (pages-long path ∙ c.requires.path_len) c.remove_along.ensures (rw (root.1, pages-long path) c.lower_root.ensures)
