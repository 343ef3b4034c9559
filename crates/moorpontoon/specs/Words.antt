-- The words of `out` for each answer, as the table of include/moorpontoon.h has them: always all of them; a key or a
-- value that there is not is 0.
-- Assumes nothing: these are definitions.
use Rattle.std.specs.Prelude.{Bool, true, false, List, [], ◌∷◌, ◌++◌, ℕ}
use Rattle.std.proofs.Math.Option.{Option, none, some}
use Rattle.model.specs.Tree.{Entry}
use Rattle.model.specs.Search.{Found, Seen}

abbrev pub truth : Bool → ℕ
truth true = 1
truth false = 0

-- make, clear, copy, insert after, close: no word
abbrev pub nothing : Unit {0} → List ℕ
nothing u = []

-- entries counted or written, pages read
abbrev pub amount : ℕ → List ℕ
amount n = n ∷ []

-- yes or no
abbrev pub whether : Bool → List ℕ
whether b = truth b ∷ []

-- a value, where there is one
abbrev pub perhaps : Option ℕ → List ℕ
perhaps none = 0 ∷ 0 ∷ []
perhaps (some v) = 1 ∷ v ∷ []

-- what get finds, and the pages read
abbrev pub found : Found → List ℕ
found f = perhaps f.value ++ (f.read ∷ [])

-- yes or no, and the pages read
abbrev pub seen : Seen → List ℕ
seen s = truth s.present ∷ s.read ∷ []

-- the entry beside the gap, where there is one
abbrev pub stepped : Option Entry → List ℕ
stepped none = 0 ∷ 0 ∷ 0 ∷ []
stepped (some e) = 1 ∷ e.key ∷ e.value ∷ []
