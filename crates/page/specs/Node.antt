-- One page's steps, over any type of child: an entry and a child more, an entry and a child less, another entry in the
-- place of one. Splitting, taking from a neighbour and joining are `model`'s cut_left, cut_right and glue.
-- Assumes nothing: these are definitions.
use Rattle.std.specs.Prelude.{[], ◌∷◌, ℕ, suc, set}
use Rattle.model.specs.Basics.{ins, del}
use Rattle.model.specs.Tree.{Entry, Node}

module _ {S : Type 0} where
  -- one entry and two children
  abbrev pub alone : Entry → S → S → Node S
  alone e l r = record { page = 0; own = e ∷ []; children = l ∷ r ∷ [] }

  -- an entry more before slot `slot`, and a child more before place `at`
  abbrev pub more : ℕ → Entry → ℕ → S → Node S → Node S
  more slot e at c x = record { page = x.page; own = ins slot e x.own; children = ins at c x.children }

  -- an entry with the child after it: what a page becomes when the child at `slot` has split
  abbrev pub wider : ℕ → Entry → S → Node S → Node S
  wider slot e c x = more slot e (suc slot) c x

  -- without the entry at slot `slot` and the child at place `at`
  abbrev pub less : ℕ → ℕ → Node S → Node S
  less slot at x = record { page = x.page; own = del slot x.own; children = del at x.children }

  -- with another entry at slot `slot`
  abbrev pub instead : ℕ → Entry → Node S → Node S
  instead slot e x = record { page = x.page; own = set x.own slot e; children = x.children }
