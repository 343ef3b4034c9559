-- A page of a tree in the pool by its words: the node that its words make, by page numbers, and the tree's node say the
-- same, and so do their halves and two neighbours glued. And what the words of its root's page say of a tree that
-- stands in the pool: its count, its children, and where they lie.
-- Assumes nothing.
use mathlib.Core.Path.{◌≡◌, sym, ap, ap₂, ◌∙◌}
use mathlib.Core.List.{List, ◌∷◌, ◌++◌, map, map-append}
use Prim.Native.Nat.{ℕ, zero, suc, ◌≤◌, ◌<◌}
use native.Mathlib.Omega.{arith}
use lib.ListN.{length, take, drop, get_or}
use borrow.Author.Tests.{le-leb, lt-ltb}
use Rattle.std.specs.Prelude.{Ok}
use Rattle.model.specs.Basics.{All}
use Rattle.model.specs.Layout.{pages_in, today}
use Rattle.model.specs.Tree.{Entry, Node, Tree, no_tree, times}
use Rattle.model.specs.Page.{count_of, child_in}
use Rattle.model.specs.Standing.{map_node, page_number, Standing, Holds}
use Rattle.model.specs.Gap.{child}
use Rattle.model.specs.Insert.{cut_left, cut_right}
use Rattle.model.specs.Mend.{glue}
use Rattle.lend.specs.Pages.{least, most, node_in, page_in}
use Rattle.tree.specs.Search.{below_of}
use Rattle.model.proofs.Basics.{all-at, map-take, map-drop, get_or_map}
use Rattle.model.proofs.Gap.{times-page, times-child}
use Rattle.page.proofs.Pages.{holds-count}
use Rattle.lend.proofs.Lent.{child-at}

-- ---- a node by page numbers, and a node of trees, that say the same; a leaf's children may be anything

module _ {S : Type 0} (h : ℕ) (f : S → ℕ) where
  pub record Says (x : Node ℕ) (y : Node S) : Type 0 where
    pub own : x.own ≡ y.own
    pub children : 0 < h → x.children ≡ map f y.children

  pub says_holds : {x : Node ℕ} {y : Node S} {page : List ℕ} → Says x y → Holds most h x page → Holds most h (map_node f y) page
  says_holds a c = record { height = c.height; own = c.own ∙ a.own; children = λ l. c.children l ∙ a.children l }

  pub says-glue : {x x' : Node ℕ} {y y' : Node S} {e e' : Entry} → Says x y → e ≡ e' → Says x' y' → Says (glue x e x') (glue y e' y')
  says-glue {x} {x'} {y} {y'} {e} {e'} a q b = record {
    own = ap₂ (λ (l r : List Entry). l ++ r) a.own (ap₂ (λ (m : Entry) (r : List Entry). m ∷ r) q b.own);
    children = λ l. ap₂ (λ (c d : List ℕ). c ++ d) (a.children l) (b.children l) ∙ sym (map-append f y.children y'.children);
  }

  pub says-left : (n : ℕ) {x : Node ℕ} {y : Node S} → Says x y → Says (cut_left n x) (cut_left n y)
  says-left n {y = y} a = record { own = ap (take n) a.own; children = λ l. ap (take (suc n)) (a.children l) ∙ map-take f (suc n) y.children }

  pub says-right : (q n : ℕ) {x : Node ℕ} {y : Node S} → Says x y → Says (cut_right q n x) (cut_right q n y)
  says-right q n {y = y} a = record { own = ap (drop (suc n)) a.own; children = λ l. ap (drop (suc n)) (a.children l) ∙ map-drop f (suc n) y.children }

-- ---- a tree that stands in the pool

-- the root's page is one of its pages
pub root-met : (h : ℕ) (t : Tree h) → 0 < h → 0 < times (page_number h t) h t
root-met zero t l = absurd (omega arith)
root-met (suc h) t l = times-page h t

module _ (w : List ℕ) (h : ℕ) (t : Tree (suc h)) (stands : Standing least (page_in w) (suc h) t) where
  pub root-holds : Holds most h (map_node (page_number h) t) (page_in w t.page)
  unfolding Standing
  root-holds = stands.0

  pub root_below : All (Standing least (page_in w) h) t.children
  unfolding Standing
  root_below = stands.1

  pub root-count : count_of (page_in w t.page) ≡ length t.own
  root-count = holds-count root-holds

  pub root-says : Says h (page_number h) (node_in w t.page) t
  root-says = record { own = root-holds.own; children = root-holds.children }

  module _ (forks : length t.children ≡ suc (length t.own)) (i : ℕ) (b : i ≤ length t.own) where
    pub child-stands : Standing least (page_in w) h (child h t i)
    child-stands = all-at (Standing least (page_in w) h) t.children i (no_tree h) (omega arith) root_below

    -- the child's number in the page's words
    pub child-number : 0 < h → child_in most (page_in w t.page) i ≡ page_number h (child h t i)
    child-number l =
        child-at (page_in w t.page) i (omega (arith, root-count))
        ∙ ap (λ (cs : List ℕ). get_or cs i 0) (root-holds.children l)
        ∙ get_or_map (page_number h) t.children i (no_tree h) 0 (omega arith)

    -- and it is answered
    pub child-found : 0 < h → i ≤ most → ((q : ℕ) → 0 < times q (suc h) t → q < pages_in today (length w)) → below_of w t.page i ≡ Ok (page_number h (child h t i))
    unfolding below_of
    child-found l few inside =
        let c : ℕ = page_number h (child h t i) in
        let lies : c < pages_in today (length w) = inside c (omega (arith, root-met h (child h t i) l, times-child c h t i (omega arith))) in
        rw (child-number l, le-leb i most few, lt-ltb c (pages_in today (length w)) lies)
