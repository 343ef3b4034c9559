-- The way to a gap, as the tree's code goes it: a page and a slot for each level, root first; by position, and by keys.
-- No public contract speaks of it. That both ways are the same is proved (proofs/Search).
-- Assumes nothing: these are definitions.
use Rattle.std.specs.Prelude.{Bool, cond, List, [], ◌∷◌, ℕ, zero, suc, length, get_or}
use Rattle.std.proofs.Math.Option.{Option, none, some}
use Rattle.model.specs.Tree.{Tree, no_entry}
use Rattle.model.specs.Entries.{gap_of, gap_before}
use Rattle.model.specs.Gap.{slot_at, rest_at, child, child_at}
use Rattle.model.specs.Search.{Found, at, search_path}

-- the path of gap g
unfoldable pub gap_pages : (h : ℕ) → Tree h → ℕ → List ℕ
gap_pages zero t g = []
gap_pages (suc h) t g = t.page ∷ gap_pages h (child_at h t g) (rest_at h t g)

unfoldable pub gap_slots : (h : ℕ) → Tree h → ℕ → List ℕ
gap_slots zero t g = []
gap_slots (suc h) t g = slot_at h t g ∷ gap_slots h (child_at h t g) (rest_at h t g)

-- the search by keys: at each page, past the page's own entries that come `before`
unfoldable pub seek_pages : (ℕ → Bool) → (h : ℕ) → Tree h → List ℕ
seek_pages before zero t = []
seek_pages before (suc h) t = t.page ∷ seek_pages before h (child h t (gap_of before t.own))

unfoldable pub seek_slots : (ℕ → Bool) → (h : ℕ) → Tree h → List ℕ
seek_slots before zero t = []
seek_slots before (suc h) t = gap_of before t.own ∷ seek_slots before h (child h t (gap_of before t.own))

-- the search for a key: the value that it finds, and the pages of its path
unfoldable pub value_found : ℕ → (h : ℕ) → Tree h → Option ℕ
value_found k zero t = none
value_found k (suc h) t =
    let i = gap_before k t.own in
    cond (at k t.own i) (some (get_or t.own i no_entry).value) (value_found k h (child h t i))

abbrev pub find : ℕ → (h : ℕ) → Tree h → Found
find k h t = record { value = value_found k h t; read = length (search_path k h t) }

abbrev pub deeper : Found → Found
deeper r = record { value = r.value; read = suc r.read }
