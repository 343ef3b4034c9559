-- The list model, which is what the source speaks of: the entries in key order, and the cursor, shut or in a gap from 0
-- to n (the source's `position`). What the calls answer, as short functions on lists.
-- Assumes nothing: these are definitions.
use Rattle.std.specs.Prelude.{Bool, true, false, cond, List, [], ◌∷◌, ℕ, zero, suc, pred, leb, ltb, eqb}
use Rattle.std.proofs.Math.Option.{Option, none, some}
use Rattle.std.proofs.Math.ListN.{get_elem?}
use Rattle.model.specs.Basics.{those, every}
use Rattle.model.specs.Tree.{Entry}
use Rattle.model.specs.Bound.{Bound, before_lower, before_upper}

-- ---- keys

-- whether the key is there, and its value
unfoldable pub has : ℕ → List Entry → Bool
has k [] = false
has k (e ∷ es) = cond (eqb e.key k) true (has k es)

unfoldable pub lookup : ℕ → List Entry → Option ℕ
lookup k [] = none
lookup k (e ∷ es) = cond (eqb e.key k) (some e.value) (lookup k es)

-- the gap after the leading entries that come `before`
unfoldable pub gap_of : (ℕ → Bool) → List Entry → ℕ
gap_of before [] = 0
gap_of before (e ∷ es) = cond (before e.key) (suc (gap_of before es)) 0

-- the gap just before key k, and just after it
abbrev pub gap_before : ℕ → List Entry → ℕ
gap_before k es = gap_of (λ x. ltb x k) es

abbrev pub gap_after : ℕ → List Entry → ℕ
gap_after k es = gap_of (λ x. leb x k) es

-- ---- lists

-- the entries that are not before the lower bound and are before the upper one
abbrev pub inside : Bound → Bound → Entry → Bool
inside low high e = cond (before_lower low e.key) false (before_upper high e.key)

abbrev pub between : Bound → Bound → List Entry → List Entry
between low high es = those (inside low high) es

-- ---- the cursor

pub data Cursor : Type 0 where
  shut : Cursor
  gap : ℕ → Cursor

-- the entry after gap g, and the one before it
abbrev pub next : ℕ → List Entry → Option Entry
next g es = get_elem? es g

abbrev pub prev : ℕ → List Entry → Option Entry
prev zero es = none
prev (suc g) es = get_elem? es g

-- the source's `key_fits_at_position`: strictly between the neighbours that there are
abbrev pub above : Option Entry → ℕ → Bool
above none k = true
above (some e) k = ltb e.key k

abbrev pub under : Option Entry → ℕ → Bool
under none k = true
under (some e) k = ltb k e.key

unfoldable pub key_fits : ℕ → ℕ → List Entry → Bool
key_fits k g es = every (above (prev g es) k ∷ under (next g es) k ∷ [])

-- where the gap goes: over the entry that there is
abbrev pub forth : Option Entry → ℕ → ℕ
forth none g = g
forth (some e) g = suc g

abbrev pub back : Option Entry → ℕ → ℕ
back none g = g
back (some e) g = pred g

-- the value of an entry that there may be
abbrev pub value_of : Option Entry → Option ℕ
value_of none = none
value_of (some e) = some e.value
