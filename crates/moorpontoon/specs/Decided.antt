-- Document 01, "What the promises have to decide", of the exported functions: any two outcomes agree, from the same
-- words, arguments and `out`, as far as the call below decides them (model, specs/Agree).
-- Assumes nothing: these are definitions.
use Rattle.std.specs.Prelude.{◌≡◌, ◌≢◌, List, ℕ, ◌≤◌, ◌<◌, length}
use Rattle.model.specs.Basics.{All}
use Rattle.model.specs.Bound.{bound_of}
use Rattle.model.specs.Sound.{Sound}
use Rattle.model.specs.Alike.{Words}
use Rattle.model.specs.Refusal.{Test, refusal}
use Rattle.model.specs.Call.{Outcome, refused, answered}
use Rattle.model.specs.ListCalls.{Column, fronted, list_tests, Lists}
use Rattle.model.specs.Agree.{LentSame, LeftSame}
use Rattle.moorpontoon.specs.Words.{amount}
use Rattle.moorpontoon.specs.Exported.{out_words, Called, ListsCalled}

-- two outcomes of a function whose call has the tests `early`, and whose promise speaks of the answer where `decided`
-- holds: they return n and m and leave `after` and `after'` in `out`. `Same` says that all else that was lent is left
-- the same, `Near` that it is but for the words that document 01 frees
pub record Decided {A : Type 0} (words : A → List ℕ) (promise : Outcome A → Type 0) (kept : Type 0) (early : List Test) (decided Same Near : Type 0)
    (before after after' : List ℕ) (n m : ℕ) : Type 0 where
  -- 0 exactly for an answer, else the refusal's number or a short `out`; any number but 0 leaves every lent word
  pub zero : n ≡ 0 → (a : A) × promise (answered a) × (after ≡ fronted (words a) before)
  pub number : out_words ≤ length before → n ≢ 0 → promise (refused n)
  pub other : n ≢ 0 → (after ≡ before) × kept
  -- on any words: a short `out`; refusals by lengths, head and arguments; and any two numbers that are not 0
  pub short : length before < out_words → (n ≡ m) × (after ≡ after') × Same
  pub first : 1 ≤ refusal early → (n ≡ m) × (after ≡ after') × Same
  pub refusals : n ≢ 0 → m ≢ 0 → (after ≡ after') × Same
  -- where the promise decides the answer
  pub answers : decided → (n ≡ m) × (after ≡ after') × Near

abbrev pub CalledDecided : {A : Type 0} → (A → List ℕ) → (List ℕ → List ℕ → Outcome A → Type 0) → (List ℕ → List Test) → (List ℕ → Type 0)
    → ((w v u : List ℕ) → Type 0) → Type 0
CalledDecided words promise early decided Near =
    (w v u before after after' : List ℕ) (n m : ℕ) → Words v → Words u → Called words promise w v before after n
    → Called words promise w u before after' m
    → Decided words (promise w v) (v ≡ w) (early w) (decided w) (v ≡ u) (Near w v u) before after after' n m

-- a list of a pool of a kind
abbrev pub ListDecided : ℕ → Type 0
ListDecided kind =
    (lower from upper to : ℕ) (w : List ℕ) (cs ds : List Column) (before after after' : List ℕ) (n m : ℕ) → LentSame cs ds
    → ListsCalled kind lower from upper to w cs before after n → ListsCalled kind lower from upper to w ds before after' m
    → Decided amount (Lists (list_tests kind lower upper w) (bound_of lower from) (bound_of upper to) w cs) (All (λ c. c.after ≡ c.before) cs)
    (list_tests kind lower upper w) (Sound w) (LeftSame cs ds) (LeftSame cs ds) before after after' n m
