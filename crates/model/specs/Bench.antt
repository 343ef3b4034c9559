-- Document 01, "Bench cases": (a) to (n) as a single table under one claim, `Table`, about the calls' definitions.
-- It is proved by computation in proofs/Bench.
-- Assumes nothing: these are definitions.
use Rattle.std.specs.Prelude.{◌≡◌, true, false, List, [], ◌∷◌, ◌++◌, map, ℕ}
use Rattle.std.proofs.Math.Option.{none}
use Rattle.model.specs.Basics.{zeros}
use Rattle.model.specs.Layout.{today, allowed, pages_in, first_word}
use Rattle.model.specs.Tree.{Entry, Tree, Whole, entry}
use Rattle.model.specs.Entries.{gap}
use Rattle.model.specs.Pool.{Pool, held_by, free_of, with_cursor}
use Rattle.model.specs.HeadCalls.{made}
use Rattle.model.specs.Refusal.{map_kind, refusal}
use Rattle.model.specs.Call.{Call}
use Rattle.model.specs.MapCalls.{map_insert, map_remove}
use Rattle.model.specs.CursorCalls.{cursor_open_lower, cursor_open_upper, cursor_next, cursor_insert_after}

-- a key with value 0; a leaf; a page above leaves
abbrev pub tick : ℕ → Entry
tick k = entry k 0

abbrev pub ticks : List ℕ → List Entry
ticks ks = map tick ks

abbrev pub leaf : ℕ → List ℕ → Tree 1
leaf p ks = record { page = p; own = ticks ks; children = tt ∷ map (λ k. tt) ks }

abbrev pub upper : ℕ → List ℕ → List (Tree 1) → Tree 2
upper p ks ts = record { page = p; own = ticks ks; children = ts }

abbrev pub one_level : Tree 1 → Whole
one_level t = record { levels = 1; tree = t }

abbrev pub two_levels : Tree 2 → Whole
two_levels t = record { levels = 2; tree = t }

-- the calls one after another
abbrev pub insert_all : List ℕ → Pool → Pool
insert_all [] p = p
insert_all (k ∷ ks) p = insert_all ks ((map_insert k 0).after p)

-- what is refused by what the pool holds: 0 for no refusal; and so of each of the inserts
abbrev pub late_number : {A : Type 0} → Call A → Pool → ℕ
late_number c p = refusal (c.late p)

abbrev pub insert_numbers : List ℕ → Pool → List ℕ
insert_numbers [] p = []
insert_numbers (k ∷ ks) p = late_number (map_insert k 0) p ∷ insert_numbers ks ((map_insert k 0).after p)

-- no entry, in P pages
abbrev pub none_in : ℕ → Pool
none_in P = made today P map_kind

-- entries 10, 20, 30, and the gap at g
abbrev pub tens : List ℕ
tens = 10 ∷ 20 ∷ 30 ∷ []

abbrev pub three : Pool
three = insert_all tens (none_in 1)

abbrev pub three_at : ℕ → Pool
three_at g = with_cursor three (gap g)

-- ten rising keys
abbrev pub one_to_ten : List ℕ
one_to_ten = 1 ∷ 2 ∷ 3 ∷ 4 ∷ 5 ∷ 6 ∷ 7 ∷ 8 ∷ 9 ∷ 10 ∷ []

abbrev pub ten : Pool
ten = insert_all one_to_ten (none_in 3)

abbrev pub without8 : Pool
without8 = (map_remove 8).after ten

abbrev pub without1 : Pool
without1 = (map_remove 1).after without8

pub record Table : Type 0 where
  pub tens-room : insert_numbers tens (none_in 1) ≡ zeros 3
  pub a : ((cursor_open_lower 0 20).after three).cursor ≡ gap 1
  pub b : ((cursor_open_lower 1 20).after three).cursor ≡ gap 2
  pub c : ((cursor_open_upper 0 20).after three).cursor ≡ gap 2
  pub d : ((cursor_open_upper 1 20).after three).cursor ≡ gap 1
  pub e : ((cursor_open_lower 2 20).after three).cursor ≡ gap 0
  pub f : ((cursor_open_upper 2 20).after three).cursor ≡ gap 3
  pub g : ((cursor_open_lower 0 25).after three).cursor ≡ gap 2
  pub h : late_number (cursor_insert_after 20 0) (three_at 1) ≡ 6
  pub i-room : late_number (cursor_insert_after 15 0) (three_at 1) ≡ 0
  pub i : held_by ((cursor_insert_after 15 0).after (three_at 1)) ≡ ticks (10 ∷ 15 ∷ 20 ∷ 30 ∷ [])
  pub i-gap : ((cursor_insert_after 15 0).after (three_at 1)).cursor ≡ gap 1
  pub j : cursor_next.answer (three_at 3) ≡ none
  pub j-gap : (cursor_next.after (three_at 3)).cursor ≡ gap 3
  pub k-room : insert_numbers one_to_ten (none_in 3) ≡ zeros 10
  pub k : ten.whole ≡ two_levels (upper 2 (6 ∷ []) (leaf 0 (1 ∷ 2 ∷ 3 ∷ 4 ∷ 5 ∷ []) ∷ leaf 1 (7 ∷ 8 ∷ 9 ∷ 10 ∷ []) ∷ []))
  pub l : insert_numbers one_to_ten (none_in 2) ≡ zeros 9 ++ (7 ∷ [])
  pub m : without8.whole ≡ two_levels (upper 2 (5 ∷ []) (leaf 0 (1 ∷ 2 ∷ 3 ∷ 4 ∷ []) ∷ leaf 1 (6 ∷ 7 ∷ 9 ∷ 10 ∷ []) ∷ []))
  pub n : without1.whole ≡ one_level (leaf 0 (2 ∷ 3 ∷ 4 ∷ 5 ∷ 6 ∷ 7 ∷ 9 ∷ 10 ∷ []))
  pub n-free : free_of without1 ≡ 1 ∷ 2 ∷ []

-- "The pool": 128 words is the smallest, 8,192 words give P = 253; lengths 0, 96, 127 and 129 are refused, and so
-- is P = 4,097
pub record Lengths : Type 0 where
  pub smallest : allowed today 128 ≡ true
  pub usual : allowed today 8192 ≡ true
  pub usual-pages : pages_in today 8192 ≡ 253
  pub largest : allowed today (first_word today 4096) ≡ true
  pub refused : map (allowed today) (0 ∷ 96 ∷ 127 ∷ 129 ∷ first_word today 4097 ∷ []) ≡ false ∷ false ∷ false ∷ false ∷ false ∷ []
