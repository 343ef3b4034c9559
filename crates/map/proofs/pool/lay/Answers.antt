-- `pool::lay` meets its contract: the words before the pages become those of a pool just made.
use Prim.Native.Nat.{◌≤◌}
use native.Mathlib.Omega.{arith}
use lib.ListN.{length}
use borrow.Author.Rules.{rules}
use Rattle.model.specs.Layout.{today, first_word}
use Rattle.model.proofs.Lawful.{allowed-facts}
use Rattle.map.proofs.Making.{laid-fresh}
use Rattle.map.proofs.pool.lay.Goals as goal
use Rattle.map.proofs.pool.lay.Goals.{Start}

-- there is room for the head and the map
long : (c : Start) → first_word today 0 ≤ length c.args.pool.now
long c = omega (arith, allowed-facts today _ c.requires)

pub pages_in-pages-requires : goal.pages_in-pages-requires
pages_in-pages-requires c = long (goal.at.pages_in-pages-requires c).Start

pub slice_bounds-fill-end : goal.slice_bounds-fill-end
slice_bounds-fill-end c = let room = long (goal.at.slice_bounds-fill-end c).Start in search rules

pub returns : goal.returns
returns c = laid-fresh c.args.pool.now _ _ c.args.kind c.requires (c.fill.ensures.after (λ y e. e)) c.pages_in-pages.ensures
