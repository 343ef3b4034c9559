-- The gap in code: where a search finds it, by head words 6 and 7, and the words once it is laid elsewhere.
-- Assumes nothing: these are definitions.
use Rattle.std.specs.Prelude.{cond, List, ℕ, eqb, set, Some, None, Option}
use Rattle.model.specs.Head.{after_word, key_word}
use Rattle.model.specs.Page.{entry_in}
use Rattle.lend.specs.Pages.{most, page_in}
use Rattle.tree.specs.declared.search.Aim.{Aim}
use Rattle.tree.specs.declared.search.Aim.TheVariants.{After, Start}
use Rattle.tree.specs.declared.steps.Spot.{Spot}

-- the key of the entry that the gap names; none at the start
abbrev pub named_key : List ℕ → Option ℕ
named_key w = cond (eqb (after_word w) 0) None (Some (key_word w))

-- at the start, or just after the entry whose key is named
abbrev pub aim_of : List ℕ → Aim
aim_of w = cond (eqb (after_word w) 0) Start (After (key_word w))

-- words 5, 6 and 7
abbrev pub gap_words : ℕ → ℕ → ℕ → List ℕ → List ℕ
gap_words opened after key w = set (set (set w 5 opened) 6 after) 7 key

-- of an open cursor, just behind the entry of a key, or at the start
abbrev pub laid_words : Option ℕ → List ℕ → List ℕ
laid_words (Some key) w = gap_words 1 1 key w
laid_words None w = gap_words 1 0 0 w

-- of an open cursor, just behind the entry at a spot, or at the start
abbrev pub rest_words : Option Spot → List ℕ → List ℕ
rest_words (Some x) w = gap_words 1 1 (entry_in most (page_in w x.page) x.slot).key w
rest_words None w = gap_words 1 0 0 w
