-- `count` meets its contract on words: those that are not 0 are those that say a value.
use mathlib.Core.Path.{◌≡◌, refl, ap, ◌∙◌}
use mathlib.Core.List.{List, [], ◌∷◌, map}
use mathlib.Core.Bool.{Bool, true, false, not, cond}
use Prim.Native.Nat.{ℕ, suc}
use lib.ListN.{length}
use Rattle.std.specs.Prelude.{Option, Some, None, is_some, nat_eq, if◌then◌else◌}
use Rattle.std.specs.List.{filter}
use Rattle.table.specs.Places.{value_in}
use Rattle.table.proofs.values.LentValues.count.Goals as goal

-- one word more on each side, told apart by whether it is 0
one-more : (zero : Bool) (word : ℕ) (ws : List ℕ) (vs : List (Option ℕ)) → length ws ≡ length vs
    → length (cond (not zero) (word ∷ ws) ws) ≡ length (cond (is_some (if zero then None else Some word)) ((if zero then None else Some word) ∷ vs) vs)
one-more true word ws vs same = same
one-more false word ws vs same = ap suc same

some-words : (ws : List ℕ) → length (filter (λ w. not (nat_eq w 0)) ws) ≡ length (filter (is_some {T = ℕ}) (map value_in ws))
some-words [] = refl
some-words (w ∷ ws) = one-more (nat_eq w 0) w _ _ (some-words ws)

pub returns : goal.returns
returns c = c.count_in.ensures ∙ some-words c.args.self.now.words.now
