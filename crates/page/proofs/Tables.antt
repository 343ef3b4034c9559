-- A page's entries and children are tables of words: a run of words as a table, what `map` makes of a table and of a
-- list with one more or one less, and a list of entries known by its keys and its values.
-- Assumes nothing.
use mathlib.Core.Path.{◌≡◌, refl, sym, ap, ap₂, ◌∙◌}
use mathlib.Core.List.{List, [], ◌∷◌, map}
use Prim.Native.Nat.{ℕ, ◌+◌, ◌≤◌, ◌<◌}
use native.Mathlib.Omega.{arith}
use lib.ListN.{length, get_or}
use lib.Seq.{ext_get_or}
use Rattle.model.specs.Basics.{tab}
use Rattle.model.specs.Tree.{Entry, entry}
use Rattle.page.specs.Runs.{part}
use Rattle.model.proofs.Basics.{length-tab, get_or-tab}
use Rattle.page.proofs.Parts.{length_part, part_at}

pub part-tab : {A : Type 0} (a n : ℕ) (xs : List A) (d : A) → a + n ≤ length xs → part a n xs ≡ tab n (λ i. get_or xs (a + i) d)
part-tab a n xs d h =
    let long : length (part a n xs) ≡ n = length_part a n xs h in
    ext_get_or d (part a n xs) (tab n (λ i. get_or xs (a + i) d)) (long ∙ sym (length-tab n _))
    (λ i b. let b' : i < n = omega arith in part_at a n xs i d b' ∙ sym (get_or-tab n (λ j. get_or xs (a + j) d) i d b'))

abbrev pub keys_of : List Entry → List ℕ
keys_of l = map (λ (e : Entry). e.key) l

abbrev pub values_of : List Entry → List ℕ
values_of l = map (λ (e : Entry). e.value) l

pub entries_by : (es fs : List Entry) → keys_of es ≡ keys_of fs → values_of es ≡ values_of fs → es ≡ fs
entries_by [] [] k v = refl
entries_by [] (f ∷ fs) k v = absurd (omega (arith, ap length k))
entries_by (e ∷ es) [] k v = absurd (omega (arith, ap length k))
entries_by (e ∷ es) (f ∷ fs) k v = ap₂ ◌∷◌ (ap₂ entry (cc) (cc)) (entries_by es fs (cc) (cc))
