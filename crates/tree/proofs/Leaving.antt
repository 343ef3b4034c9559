-- What a change leaves of a pool: the words of its head one by one, and the pool whose words they are, which has
-- another tree and all else as before.
-- Assumes nothing.
use mathlib.Core.Path.{◌≡◌, refl, sym, ap, ◌∙◌}
use mathlib.Core.Logic.{◌≢◌}
use mathlib.Core.List.{List}
use Prim.Native.Nat.{◌≤◌, ℕ, zero, suc, ◌<◌}
use native.Mathlib.Omega.{arith}
use lib.ListN.{length-set, length, get_or, set}
use Rattle.model.specs.declared.Geometry.{Geometry}
use Rattle.model.specs.Layout.{head_words, word, today}
use Rattle.model.specs.Head.{geometry_of}
use Rattle.model.specs.PageMap.{bit_at}
use Rattle.model.specs.Tree.{Entry, Whole, no_entry, held, meets, Formed}
use Rattle.model.specs.Standing.{root_of, Standing}
use Rattle.model.specs.Entries.{Cursor, shut, gap}
use Rattle.model.specs.Pool.{Pool, held_by, open_gap, with_whole, least_by}
use Rattle.model.specs.Written.{key_in, Written, head_of}
use Rattle.lend.specs.Pages.{least, page_in, map_in}
use Rattle.model.proofs.Basics.{get_or-tab}
use Rattle.model.proofs.Lawful.{geometry-same}
use Rattle.model.proofs.Standing.{standing-frame}
use Rattle.model.proofs.Right.{Right}
use Rattle.tree.proofs.Heads.{head-stored, head-map, head-page, stored-word, other_word}

-- ---- the words of the head

-- the key that an open cursor names stays where the keys before its gap stay
pub key-stays : (es es' : List Entry) (c : Cursor) → ((i : ℕ) → i < open_gap c → (get_or es' i no_entry).key ≡ (get_or es i no_entry).key) → key_in es' c ≡ key_in es c
key-stays es es' shut h = refl
key-stays es es' (gap zero) h = refl
key-stays es es' (gap (suc g)) h = h g (omega arith)

-- a word of the head, by what the pool holds
pub head-word : {w : List ℕ} {p : Pool} → Written w p → (i : ℕ) → i < 9 → word w i ≡ get_or (head_of p) i 0
head-word {w} {p} a i b = sym (get_or-tab 9 (word w) i 0 b) ∙ ap (λ (l : List ℕ). get_or l i 0) a.head

-- ---- what the words of a pool say, in today's geometry

module _ {w : List ℕ} {p : Pool} (a : Written w p) where
  pub written-today : p.geometry ≡ today
  unfolding geometry_of
  written-today = sym a.geometry

  pub written-least : least_by p ≡ least
  written-least = ap (λ (γ : Geometry). γ.least) written-today

  pub written-bits : (q : ℕ) → bit_at (map_in w) q ≡ meets q p.whole
  unfolding geometry_of
  written-bits = a.bits

  pub written_stands : Standing least (page_in w) p.whole.levels p.whole.tree
  unfolding geometry_of
  written_stands = a.stands

  pub written-formed : Right p → Formed least p.whole
  written-formed r = rw written-today at r.formed

-- ---- another tree

-- of the words w, which hold the pool p, those of the head that tell of the tree are changed: they tell of x
pub record Leaves (w : List ℕ) (p : Pool) (x : Whole) (w' : List ℕ) : Type 0 where
  pub long : length w' ≡ length w
  pub words : (i : ℕ) → i < head_words → i ≢ 2 → i ≢ 3 → i ≢ 4 → word w' i ≡ word w i
  pub count : word w' 2 ≡ length (held x)
  pub root : word w' 3 ≡ root_of x.levels x.tree
  pub levels : word w' 4 ≡ x.levels
  pub key : key_in (held x) p.cursor ≡ key_in (held_by p) p.cursor
  pub bits : (q : ℕ) → bit_at (map_in w') q ≡ meets q x
  pub stands : Standing least (page_in w') x.levels x.tree

pub leaves-written : (w : List ℕ) (p : Pool) (x : Whole) (w' : List ℕ) → Written w p → Leaves w p x w' → Written w' (with_whole p x)
unfolding geometry_of
leaves-written w p x w' a l = record {
  geometry =
      geometry-same w' w (l.words 0 (omega arith) (omega arith) (omega arith) (omega arith)) (l.words 9 (omega arith) (omega arith) (omega arith) (omega arith))
      ∙ a.geometry;
  long = l.long ∙ a.long;
  head =
      let w₀ : word w' 0 ≡ word w 0 = l.words 0 (omega arith) (omega arith) (omega arith) (omega arith) in
      let w₁ : word w' 1 ≡ word w 1 = l.words 1 (omega arith) (omega arith) (omega arith) (omega arith) in
      let w₅ : word w' 5 ≡ word w 5 = l.words 5 (omega arith) (omega arith) (omega arith) (omega arith) in
      let w₆ : word w' 6 ≡ word w 6 = l.words 6 (omega arith) (omega arith) (omega arith) (omega arith) in
      let w₇ : word w' 7 ≡ word w 7 = l.words 7 (omega arith) (omega arith) (omega arith) (omega arith) in
      let w₈ : word w' 8 ≡ word w 8 = l.words 8 (omega arith) (omega arith) (omega arith) (omega arith) in
      cc (a.head, l.count, l.root, l.levels, l.key);
  spare = λ i b h. l.words i h (omega arith) (omega arith) (omega arith) ∙ a.spare i b h;
  bits = l.bits;
  stands = l.stands;
}

-- the words w' have the tree x, with the head of w in all but the root; the count is still that of before
pub record Carries (w : List ℕ) (x : Whole) (w' : List ℕ) : Type 0 where
  pub long : length w' ≡ length w
  pub words : (i : ℕ) → i < head_words → i ≢ 3 → i ≢ 4 → word w' i ≡ word w i
  pub root : word w' 3 ≡ root_of x.levels x.tree
  pub levels : word w' 4 ≡ x.levels
  pub bits : (q : ℕ) → bit_at (map_in w') q ≡ meets q x
  pub stands : Standing least (page_in w') x.levels x.tree

-- then the count is stored
pub carries-leaves : (w : List ℕ) (p : Pool) (x : Whole) (w' : List ℕ) (n : ℕ) → Carries w x w' → 3 ≤ length w → n ≡ length (held x)
    → key_in (held x) p.cursor ≡ key_in (held_by p) p.cursor → Leaves w p x (set w' 2 n)
carries-leaves w p x w' n c l many key = record {
  long = length-set w' 2 n ∙ c.long;
  words = λ i b two three four. other_word w' 2 n i two ∙ c.words i b three four;
  count = stored-word w' 2 n (omega (arith, c.long)) ∙ many;
  root = other_word w' 2 n 3 (omega arith) ∙ c.root;
  levels = other_word w' 2 n 4 (omega arith) ∙ c.levels;
  key = key;
  bits = λ q. rw (head-map (head-stored w' 2 n (omega arith))) (c.bits q);
  stands = standing-frame least (page_in w') (page_in (set w' 2 n)) x.levels x.tree (λ q _. sym (head-page (head-stored w' 2 n (omega arith)) q)) c.stands;
}
