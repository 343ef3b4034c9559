-- The words that document 01 frees are read by no call: from a sound pool, and from one that differs in those words
-- alone (`Alike`), any two outcomes agree, and leave two such pools again.
-- Assumes nothing: these are definitions.
use Rattle.std.specs.Prelude.{◌≡◌, List, ℕ}
use Rattle.model.specs.Bound.{bound_of}
use Rattle.model.specs.Sound.{Sound}
use Rattle.model.specs.Alike.{Alike, Words}
use Rattle.model.specs.Call.{Call, Outcome, Meets}
use Rattle.model.specs.PoolCalls.{Copies}
use Rattle.model.specs.ListCalls.{Column, list_tests, Lists}
use Rattle.model.specs.Playback.{Plays}
use Rattle.model.specs.Agree.{LentSame, LeftSame}

-- a call that is lent one pool
abbrev pub Unread : {A : Type 0} → Call A → Type 0
Unread {A} c = (w x v u : List ℕ) (r s : Outcome A) → Sound w → Alike w x → Words v → Words u → Meets c w v r → Meets c x u s → (r ≡ s) × Alike v u

-- lists and playback
abbrev pub ListsUnread : Type 0
ListsUnread =
    (kind lower from upper to : ℕ) (w x : List ℕ) (cs ds : List Column) (r s : Outcome ℕ) → Sound w → Alike w x → LentSame cs ds
    → Lists (list_tests kind lower upper w) (bound_of lower from) (bound_of upper to) w cs r
    → Lists (list_tests kind lower upper x) (bound_of lower from) (bound_of upper to) x ds s → (r ≡ s) × LeftSame cs ds

abbrev pub PlaysUnread : Type 0
PlaysUnread =
    (w x v u : List ℕ) (cs ds : List Column) (r s : Outcome ℕ) → Sound w → Alike w x → LentSame cs ds → Words v → Words u → Plays w v cs r → Plays x u ds s
    → (r ≡ s) × Alike v u × LeftSame cs ds

-- make and clear, copy: of its source
abbrev pub MakesUnread : (List ℕ → List ℕ → Outcome (Unit {0}) → Type 0) → Type 0
MakesUnread makes =
    (w x v u : List ℕ) (r s : Outcome (Unit {0})) → Sound w → Alike w x → Words v → Words u → makes w v r → makes x u s
    → (r ≡ s) × Alike v u

abbrev pub CopiesUnread : Type 0
CopiesUnread =
    (w x destination v u : List ℕ) (r s : Outcome (Unit {0})) → Sound w → Alike w x → Words v → Words u
    → Copies w destination v r → Copies x destination u s → (r ≡ s) × Alike v u
