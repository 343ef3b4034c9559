-- `Table::lent` meets its contract: words of 0 say that no place has a value.
use mathlib.Core.Path.{◌≡◌, refl, ap}
use mathlib.Core.List.{List, ◌∷◌, map}
use Prim.Native.Nat.{ℕ, zero, suc}
use lib.ListN.{replicate}
use Rattle.std.specs.Prelude.{Option, None}
use Rattle.std.proofs.Common.{rules}
use Rattle.table.specs.Places.{value_in}
use Rattle.table.proofs.Table+Lent.lent.Goals as goal

none-said : (n : ℕ) → map value_in (replicate n 0) ≡ replicate {A = Option ℕ} n None
none-said zero = refl
none-said (suc n) = ap (λ (rest : List (Option ℕ)). None ∷ rest) (none-said n)

pub returns : goal.returns
returns c = let e = none-said in search rules
