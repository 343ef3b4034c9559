-- Document 01, "These must be rejected": each of the five bodies as a function of words to an outcome; and the order of
-- pages, for the last of the "Errors that look right". That the promises refuse them is proved (proofs/Wrong), and
-- docs/WRONG.md has a line for each theorem.
-- Assumes nothing: these are definitions.
use Rattle.std.specs.Prelude.{cond, List, [], ◌∷◌, ◌++◌, ℕ, zero, suc, eqb}
use Rattle.std.proofs.Math.Option.{Option}
use Rattle.model.specs.Head.{after_word}
use Rattle.model.specs.Tree.{Entry, Tree}
use Rattle.model.specs.Entries.{lookup}
use Rattle.model.specs.Search.{Found}
use Rattle.model.specs.Pool.{held_by, pool_of}
use Rattle.model.specs.Call.{Call, Outcome, refused, answered, given, number, Meets}
use Rattle.model.specs.MapCalls.{map_get}
use Rattle.model.specs.CursorCalls.{cursor_next}

-- the words that a body leaves, and what its caller is given
abbrev pub Body : Type 0 → Type 0
Body A = List ℕ → List ℕ × Outcome A

-- the promise refuses it, on these words
abbrev pub Fails : {A : Type 0} → Call A → Body A → List ℕ → Type 0
Fails c body w = Meets c w (body w).0 (body w).1 → ⊥

-- a call that only refuses
abbrev pub only_refuses : {A : Type 0} → ℕ → Body A
only_refuses n w = (w, refused n)

-- a get with one fixed answer
abbrev pub fixed_answer : {A : Type 0} → A → Body A
fixed_answer a w = (w, answered a)

-- a remove that changes nothing: it says what it should
abbrev pub changes_nothing : {A : Type 0} → Call A → Body A
changes_nothing c w = (w, given (number c w) (c.answer (pool_of w)))

-- a cursor that moves on its first next, as `first` does, and merely claims to later
abbrev pub moves_once : Body (Option Entry) → Body (Option Entry)
moves_once first w = cond (eqb (after_word w) 0) (first w) (changes_nothing cursor_next w)

-- an invented page count, of a get that finds the value
abbrev pub invents_pages : (List ℕ → ℕ) → ℕ → Body Found
invents_pages count k w = (w, given (number (map_get k) w) (record { value = lookup k (held_by (pool_of w)); read = count w }))

-- the entries in the order of pages: a page's own ones first, then what its children hold
abbrev pub gathered : {S A : Type 0} → (S → List A) → List S → List A
gathered f [] = []
gathered f (s ∷ ss) = f s ++ gathered f ss

abbrev pub page_order : (h : ℕ) → Tree h → List Entry
page_order zero t = []
page_order (suc h) t = t.own ++ gathered (page_order h) t.children
