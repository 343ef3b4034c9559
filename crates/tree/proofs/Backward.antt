-- A loop over a path from its end, `for spot in path.iter().rev()`: where the spot of a turn stands in the path, and
-- how many turns there are.
-- Assumes nothing.
use mathlib.Core.Path.{◌≡◌, sym, ap, ◌∙◌}
use mathlib.Core.List.{List, [], ◌∷◌, ◌++◌}
use Prim.Native.Nat.{ℕ, suc, ◌-◌, ◌≤◌, ◌<◌}
use native.Mathlib.Omega.{arith}
use denote.Ref.{Bor}
use lib.ListN.{length, get_or, length-append, get_or-append}
use lib.Seq.{get_or-append_seam}
use Rattle.std.specs.declared.iter.Rev.{Rev}
use Rattle.std.specs.declared.slice.Iter.{Iter}
use Rattle.std.specs.Prelude.{Option, Some, None}
use Rattle.std.specs.Iterator.{Yields}
use Rattle.std.specs.Iterator.Adapters.{rev_source, rev_steps}
use Rattle.std.specs.Slice.Iter.{iter_rest, iter_steps_back}
use Rattle.std.proofs.lemmas.Iterator.Adapters.{YieldsList-from_rev_slice}
use Rattle.std.proofs.lemmas.Iterator.Consumers.{YieldsList-turn, YieldsList-end}
use Rattle.std.proofs.lemmas.List.{length-reverse, get_or-reverse}
use Rattle.tree.specs.declared.steps.Spot.{Spot}
use Rattle.lend.specs.Pages.{most, Inside}
use Rattle.tree.specs.Sits.{PathIn, pages_of, slots_of}
use Rattle.tree.proofs.Paths.{page-of, slot-of, pages-long, path-at}

-- after n turns, the spot of the next one stands n places before the last
pub record Turn (path : List Spot) (n : ℕ) (spot : Spot) : Type 0 where
  pub within : n < length path
  pub at : get_or path (length path - n - 1) spot ≡ spot
  pub page : get_or (pages_of path) (length path - n - 1) 0 ≡ spot.page
  pub slot : get_or (slots_of path) (length path - n - 1) 0 ≡ spot.slot

turn-at : (path : List Spot) (n : ℕ) (spot : Spot) → n < length path → get_or path (length path - n - 1) spot ≡ spot → Turn path n spot
turn-at path n spot within at = record {
  within = within;
  at = at;
  page = page-of path (length path - n - 1) spot (omega arith) ∙ ap (λ (y : Spot). y.page) at;
  slot = slot-of path (length path - n - 1) spot (omega arith) ∙ ap (λ (y : Spot). y.slot) at;
}

module _ (path : List Spot) (s : Rev (Iter Spot)) (starts : iter_rest (rev_source s) ≡ path) (spots : List (Bor Spot)) (t : Rev (Iter Spot))
    (yields : Yields (rev_steps iter_steps_back) s spots t) where
  pub turn : (r : Option (Bor Spot)) (u : Rev (Iter Spot)) (x : Bor Spot) → r ≡ Some x → rev_steps iter_steps_back t r u → Turn path (length spots) x.now
  turn r u x is step =
      let a = YieldsList-turn (YieldsList-from_rev_slice {s = s} path starts) spots t yields r u x is step in
      let within : length spots < length path = omega (arith, a.0, length-reverse path) in
      let place : length path - 1 - length spots ≡ length path - length spots - 1 = omega arith in
      turn-at path (length spots) x.now within
      (rw (← place, ← get_or-reverse path (length spots) x.now within) (sym a.1))

  pub ended : (r : Option (Bor Spot)) (u : Rev (Iter Spot)) → r ≡ None → rev_steps iter_steps_back t r u → length spots ≡ length path
  ended r u is step =
      (YieldsList-end (YieldsList-from_rev_slice {s = s} path starts) spots t yields r u is step).1 ∙ length-reverse path

-- the places that are left after one turn more
pub one_less : (m : ℕ) (spots : List (Bor Spot)) (x : Bor Spot) → m - length (spots ++ x ∷ []) ≡ m - length spots - 1
one_less m spots x = omega (arith, length-append spots (x ∷ []))

-- the page and the slot of a turn's spot, of a path inside the pool
module _ {w : List ℕ} {path : List Spot} {n : ℕ} {spot : Spot} (inside : PathIn w (pages_of path) (slots_of path)) (t : Turn path n spot) where
  pub turn-inside : Inside spot.page w × (spot.slot ≤ most)
  turn-inside =
      let a = path-at w (pages_of path) (slots_of path) inside (length path - n - 1) (omega (arith, t.within, pages-long path)) in
      rw (← t.page, ← t.slot) a

-- ---- over the spots before the last

module _ (path uppers : List Spot) (leaf : Spot) (parts : path ≡ uppers ++ leaf ∷ []) where
  parts-long : length path ≡ suc (length uppers)
  parts-long = omega (arith, ap length parts, length-append uppers (leaf ∷ []))

  pub leaf-turn : Turn path 0 leaf
  leaf-turn =
      let last : length path - 0 - 1 ≡ length uppers = omega (arith, parts-long) in
      turn-at path 0 leaf (omega (arith, parts-long)) (rw (last, parts) (get_or-append_seam uppers leaf [] leaf))

  pub upper-turn : (n : ℕ) (spot : Spot) → Turn uppers n spot → Turn path (suc n) spot
  upper-turn n spot t =
      let place : length path - suc n - 1 ≡ length uppers - n - 1 = omega (arith, parts-long) in
      turn-at path (suc n) spot (omega (arith, parts-long, t.within))
      (rw (place, parts) (get_or-append uppers (leaf ∷ []) spot (length uppers - n - 1) (omega (arith, t.within)) ∙ t.at))
