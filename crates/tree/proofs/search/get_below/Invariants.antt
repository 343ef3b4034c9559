-- `search::get_below` meets its contract. The loop keeps what is left to do: what the search from the page at hand
-- answers, the whole search answers.
use Prim.Native.Nat.{◌+◌, ◌-◌, ◌≤◌}
use Rattle.std.specs.Prelude.{Option, Result}
use Rattle.page.specs.declared.Unsound.{Unsound}
use Rattle.lend.specs.Pages.{Inside}
use Rattle.tree.specs.declared.search.Found.{Found}
use Rattle.tree.specs.Search.{GetsBelow}
use Rattle.tree.proofs.search.get_below.Given as goal

abbrev pub invariant-loop-left : goal.invariant-loop-left
invariant-loop-left l =
    Inside l.at l.pool × (1 ≤ l.left) × (l.left ≤ l.h + 1)
    × ((r : Result (Option Found) Unsound) → GetsBelow l.pool l.at (l.left - 1) l.key (l.above + (l.h - (l.left - 1))) r → GetsBelow l.pool l.p l.h l.key l.above r)
