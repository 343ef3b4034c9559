-- Bounds in code: the gap that a bound names, by its kind and key. A kind of 3 or more names none.
-- Assumes nothing: these are definitions.
use Rattle.std.specs.Prelude.{cond, ℕ, Result, Ok, Err}
use Rattle.model.specs.Bound as model
use Rattle.model.specs.Bound.{included, excluded, unbounded, bound_of}
use Rattle.model.specs.Refusal.{no_bound}
use Rattle.tree.specs.declared.search.Aim.{Aim}
use Rattle.tree.specs.declared.search.Aim.TheVariants.{Before, After, Start, End}
use Rattle.map.specs.declared.refusal.Refusal.{Refusal}
use Rattle.map.specs.declared.refusal.Refusal.TheVariants.{BadBound}

-- an Included lower bound lets its key in, an Excluded one does not; at the upper end as well, so that the gaps differ
abbrev pub lower_aim : model.Bound → Aim
lower_aim (included k) = Before k
lower_aim (excluded k) = After k
lower_aim unbounded = Start

abbrev pub upper_aim : model.Bound → Aim
upper_aim (included k) = After k
upper_aim (excluded k) = Before k
upper_aim unbounded = End

-- the gap `aim`, where the kind of its bound is known
abbrev pub aim_by : ℕ → Aim → Result Aim Refusal
aim_by kind aim = cond (no_bound kind) (Err BadBound) (Ok aim)

abbrev pub lower_by : ℕ → ℕ → Result Aim Refusal
lower_by kind k = aim_by kind (lower_aim (bound_of kind k))

abbrev pub upper_by : ℕ → ℕ → Result Aim Refusal
upper_by kind k = aim_by kind (upper_aim (bound_of kind k))
