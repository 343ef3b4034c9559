-- Document 01, "How the tree moves", insertion, by position: an entry put at a gap. Over m, the fewest entries of a
-- page; a page holds at most 2m + 1. One page's step is over any type of child: page numbers in words, trees in the
-- model.
-- Assumes nothing: these are definitions.
use Rattle.std.specs.Prelude.{cond, [], ◌∷◌, ℕ, zero, suc, leb, eqb, length, take, drop, get_or}
use Rattle.model.specs.Basics.{ins, splice}
use Rattle.model.specs.Layout.{most_entries}
use Rattle.model.specs.Tree.{Entry, Node, Tree, Whole, no_entry}
use Rattle.model.specs.Gap.{slot_at, rest_at, child_at}

-- what an insertion below hands up: the page after; or, where it split, the two halves with the entry between them
pub data Up (S : Type 0) : Type 0 where
  whole : S → Up S
  split : S → Entry → S → Up S

-- of ten, five
abbrev pub kept : ℕ → ℕ
kept m = suc m

module _ {S : Type 0} where
  -- a page cut at entry n: what stands before it, and what stands after it, on page q
  abbrev pub cut_left : ℕ → Node S → Node S
  cut_left n x = record { page = x.page; own = take n x.own; children = take (suc n) x.children }

  abbrev pub cut_right : ℕ → ℕ → Node S → Node S
  cut_right q n x = record { page = q; own = drop (suc n) x.own; children = drop (suc n) x.children }

  -- a page that would hold one too many keeps the first so many, sends the next one up, and gives the last m to page q
  unfoldable pub fit : (m q : ℕ) → Node S → Up (Node S)
  fit m q x =
      cond (leb (length x.own) (most_entries m)) (whole x)
      (split (cut_left (kept m) x) (get_or x.own (kept m) no_entry) (cut_right q (kept m) x))

  -- a page with an entry more at slot i, and two children for the one that stood there
  abbrev pub grown : Node S → ℕ → S → Entry → S → Node S
  grown x i l e r = record { page = x.page; own = ins i e x.own; children = splice i (l ∷ r ∷ []) x.children }

  abbrev pub with_child : Node S → ℕ → S → Node S
  with_child x i c = record { page = x.page; own = x.own; children = splice i (c ∷ []) x.children }

  -- what child i hands up is put into the page
  unfoldable pub put : (m q : ℕ) → Node S → ℕ → Up S → Up (Node S)
  put m q x i (whole c) = whole (with_child x i c)
  put m q x i (split l e r) = fit m q (grown x i l e r)

-- `fresh k` is the page that is taken k-th. Where a page with h levels below it splits, all below it on the path have
-- split, so it takes page `fresh h`
unfoldable pub insert_at : (m : ℕ) → (ℕ → ℕ) → (h : ℕ) → Tree h → ℕ → Entry → Up (Tree h)
insert_at m fresh zero t g e = split tt e tt
insert_at m fresh (suc h) t g e = put m (fresh h) t (slot_at h t g) (insert_at m fresh h (child_at h t g) (rest_at h t g) e)

-- if the root splits, the new root takes the free page after those
unfoldable pub top : ℕ → (h : ℕ) → Up (Tree h) → Whole
top q h (whole t) = record { levels = h; tree = t }
top q h (split l e r) = record { levels = suc h; tree = record { page = q; own = e ∷ []; children = l ∷ r ∷ [] } }

unfoldable pub insert : (m : ℕ) → (ℕ → ℕ) → Whole → ℕ → Entry → Whole
insert m fresh x g e = top (fresh x.levels) x.levels (insert_at m fresh x.levels x.tree g e)

-- ---- the pages an insert needs

-- a run of k full pages from the leaf upward, at a page of `count` entries with h levels below it: an unbroken run goes
-- on through a full page
abbrev pub onward : (m h count k : ℕ) → ℕ
onward m h count k = cond (eqb k h) (cond (leb (suc count) (most_entries m)) k (suc h)) k

-- the number of full pages in an unbroken run from the leaf upward
unfoldable pub run : (m h : ℕ) → Tree h → ℕ → ℕ
run m zero t g = zero
run m (suc h) t g = onward m h (length t.own) (run m h (child_at h t g) (rest_at h t g))

-- and 1 more if that run includes the root; so 1 for an empty tree
unfoldable pub needed : ℕ → Whole → ℕ → ℕ
needed m x g =
    let k = run m x.levels x.tree g in
    cond (eqb k x.levels) (suc k) k
