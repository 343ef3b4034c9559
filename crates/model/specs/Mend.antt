-- Document 01, "How the tree moves": a page left with one entry too few is mended. Over any type S of what hangs below
-- the two neighbours. All mendings act on children j and j + 1, with the entry between them: the three are glued into
-- one page, which stays so (`join`), or is cut again behind n entries (`move`: one goes through the parent).
-- Assumes nothing: these are definitions.
use Rattle.std.specs.Prelude.{cond, ◌∷◌, ◌++◌, ℕ, zero, suc, ◌-◌, leb, ltb, length, take, drop, get_or}
use Rattle.model.specs.Basics.{del}
use Rattle.model.specs.Tree.{Entry, Node, no_entry, no_node}
use Rattle.model.specs.Insert.{cut_left, cut_right}

pub data Plan : Type 0 where
  keep : Plan
  move : ℕ → ℕ → Plan
  join : ℕ → Plan

-- of a page with n entries whose child j has `count j`, child i is to be mended: it takes one through the parent from
-- its left neighbour if that has m + 1 or more, else from its right neighbour likewise, else joins with its left
-- neighbour if there is one, else with its right; in a join the left page stays
unfoldable pub from_right : (m n : ℕ) → (ℕ → ℕ) → ℕ → Plan → Plan
from_right m n count i other = cond (ltb i n) (cond (ltb m (count (suc i))) (move i (suc (count i))) other) other

unfoldable pub repair : (m n : ℕ) → (ℕ → ℕ) → ℕ → Plan
repair m n count zero = from_right m n count zero (join zero)
repair m n count (suc j) = cond (ltb m (count j)) (move j (count j - 1)) (from_right m n count (suc j) (join j))

unfoldable pub plan : (m n : ℕ) → (ℕ → ℕ) → ℕ → Plan
plan m n count i = cond (leb m (count i)) keep (repair m n count i)

module _ {S : Type 0} where
  abbrev pub glue : Node S → Entry → Node S → Node S
  glue l e r = record { page = l.page; own = l.own ++ e ∷ r.own; children = l.children ++ r.children }

  abbrev pub node_at : Node (Node S) → ℕ → Node S
  node_at t j = get_or t.children j no_node

  abbrev pub count : Node (Node S) → ℕ → ℕ
  count t j = length (node_at t j).own

  -- neighbours j and j + 1 with the entry between them
  abbrev pub pair : Node (Node S) → ℕ → Node S
  pair t j = glue (node_at t j) (get_or t.own j no_entry) (node_at t (suc j))

  unfoldable pub mend : Plan → Node (Node S) → Node (Node S)
  mend keep t = t
  mend (move j n) t = record {
    page = t.page;
    own = take j t.own ++ get_or (pair t j).own n no_entry ∷ drop (suc j) t.own;
    children = take j t.children ++ cut_left n (pair t j) ∷ cut_right (node_at t (suc j)).page n (pair t j) ∷ drop (suc (suc j)) t.children;
  }
  mend (join j) t = record {
    page = t.page;
    own = del j t.own;
    children = take j t.children ++ pair t j ∷ drop (suc (suc j)) t.children;
  }
