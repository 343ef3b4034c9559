-- Document 01, "How the tree moves", removal, by position: the entry after a gap is taken away. Entry g of an upper
-- page stands just behind its left child, so gap g is that child's end, and its path goes on to the last leaf there:
-- that leaf's last entry is the greatest key below the left child. It is removed there (`gone`) and takes the place
-- (`heir`).
-- Assumes nothing: these are definitions.
use Rattle.std.specs.Prelude.{cond, List, [], ◌∷◌, ℕ, zero, suc, leb, length, drop, get_or, set}
use Rattle.model.specs.Basics.{final}
use Rattle.model.specs.Tree.{Entry, Tree, Whole, no_entry, entries}
use Rattle.model.specs.Gap.{slot_at, rest_at, child, child_at}
use Rattle.model.specs.Mend.{Plan, plan, count, mend}

-- the list without the entry after gap g, or without its last where g is its end
abbrev pub gone : {A : Type 0} → ℕ → List A → List A
gone g [] = []
gone g (x ∷ []) = []
gone zero (x ∷ y ∷ l) = y ∷ l
gone (suc g) (x ∷ y ∷ l) = x ∷ gone g (y ∷ l)

-- what stands for entry e of an upper page, whose left child holds `below` and loses the entry after gap g: where g is
-- that child's end, e itself is the one that goes, and the greatest below it takes its place
abbrev pub heir : List Entry → ℕ → Entry → Entry
heir below g e = cond (leb (length below) g) (final no_entry below) e

-- page t with c for its child i, which has lost the entry after its gap g
abbrev pub lost : (h : ℕ) → Tree (suc h) → ℕ → ℕ → Tree h → Tree (suc h)
lost h t i g c = record {
  page = t.page;
  own = set t.own i (heir (entries h (child h t i)) g (get_or t.own i no_entry));
  children = set t.children i c;
}

abbrev pub plan_at : (m h : ℕ) → Tree (suc (suc h)) → ℕ → Plan
plan_at m h t i = plan m (length t.own) (count t) i

-- what becomes of a page whose child on the path has become c; a leaf has no such child
unfoldable pub step : (m h : ℕ) → Tree (suc h) → ℕ → Tree h → Tree (suc h)
step m zero t g c = record { page = t.page; own = gone g t.own; children = drop 1 t.children }
step m (suc h) t g c =
    let u : Tree (suc (suc h)) = lost (suc h) t (slot_at (suc h) t g) (rest_at (suc h) t g) c in
    mend (plan_at m h u (slot_at (suc h) t g)) u

unfoldable pub remove_at : (m h : ℕ) → Tree h → ℕ → Tree h
remove_at m zero t g = tt
remove_at m (suc h) t g = step m h t g (remove_at m h (child_at h t g) (rest_at h t g))

-- a root left without entries is freed; its only child, if any, becomes the root
unfoldable pub collapse : (h : ℕ) → Tree (suc h) → Whole
collapse h t = cond (leb 1 (length t.own)) (record { levels = suc h; tree = t }) (record { levels = h; tree = child h t 0 })

unfoldable pub remove_in : (m h : ℕ) → Tree h → ℕ → Whole
remove_in m zero t g = record { levels = zero; tree = t }
remove_in m (suc h) t g = collapse h (remove_at m (suc h) t g)

-- the tree without its entry g
unfoldable pub remove : ℕ → Whole → ℕ → Whole
remove m x g = remove_in m x.levels x.tree g
