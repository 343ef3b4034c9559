-- Two sound pools that hold the same agree in each word that document 01 does not free: what a pool holds decides those
-- words.
-- Assumes nothing.
use mathlib.Core.Path.{◌≡◌, sym, ap, ap₂, ◌∙◌}
use mathlib.Core.List.{List, [], ◌∷◌, ◌++◌}
use Prim.Native.Nat.{ℕ, zero, suc, ◌+◌, ◌<◌}
use native.Mathlib.Omega.{arith}
use lib.ListN.{length, take, drop, get_or, length-take, length-drop, get_or-eq_default}
use lib.Seq.{take-add, get_or-take, get_or-drop, ext_get_or}
use Rattle.model.specs.Basics.{sum, All}
use Rattle.model.specs.Layout.{head_words, map_words, first_word, word}
use Rattle.model.specs.Head.{geometry_of, least_of}
use Rattle.model.specs.PageMap.{map_at}
use Rattle.model.specs.Tree.{Tree, times, meets}
use Rattle.model.specs.Page.{page_at, page_of}
use Rattle.model.specs.Standing.{Standing, Stands}
use Rattle.model.specs.Pool.{Pool, pool_of}
use Rattle.model.specs.Sound.{Sound}
use Rattle.model.specs.Written.{Written}
use Rattle.model.specs.Alike.{AlikePage, Alike, Words}
use Rattle.model.proofs.Cases.{either-eq, either_lt, same-other}
use Rattle.model.proofs.Basics.{get_or-tab}
use Rattle.model.proofs.PageMap.{map-ext}
use Rattle.model.proofs.Written.{sound-written}

-- ---- one tree in two pools

module _ (m : ℕ) (pages pages' : ℕ → List ℕ) (p : ℕ) where
  page-alike : (h : ℕ) (t : Tree (suc h)) → p ≡ t.page → Stands m pages h t → Stands m pages' h t → AlikePage m (pages p) (pages' p)
  page-alike h t e a b = rw e (record {
    height = a.height ∙ sym b.height;
    own = a.own ∙ sym b.own;
    children = λ l. let l' : 0 < h = rw b.height at l in a.children l' ∙ sym (b.children l');
  })

  child-alike : (h : ℕ) → ((t : Tree h) → Standing m pages h t → Standing m pages' h t → 0 < times p h t → AlikePage m (pages p) (pages' p))
      → (ts : List (Tree h)) → All (Standing m pages h) ts → All (Standing m pages' h) ts → 0 < sum (times p h) ts → AlikePage m (pages p) (pages' p)
  child-alike h ih [] a b l = absurd (omega arith)
  child-alike h ih (t ∷ ts) a b l =
      either_lt 0 (times p h t) (ih t a.0 b.0) (λ z. child-alike h ih ts a.1 b.1 (omega arith))

  -- each page that walking meets
  pages-alike : (h : ℕ) (t : Tree h) → Standing m pages h t → Standing m pages' h t → 0 < times p h t → AlikePage m (pages p) (pages' p)
  unfolding times Standing
  pages-alike zero t a b l = absurd (omega arith)
  pages-alike (suc h) t a b l =
      either-eq p t.page
      (λ e. page-alike h t e a.0 b.0)
      (λ n. child-alike h (pages-alike h) t.children a.1 b.1 (omega (arith, same-other p t.page n)))

-- ---- two pools

pub words-part : (w : List ℕ) (k n : ℕ) → Words w → Words (take n (drop k w))
words-part w k n h i =
    either_lt i n
    (λ l. rw (get_or-take n (drop k w) i 0 l, get_or-drop k w i 0) (h (k + i)))
    (λ l. rw (get_or-eq_default (take n (drop k w)) 0 {n = i} (simp length-take (omega arith))) (omega arith))

pub written-alike : (w v : List ℕ) (p : Pool) → Words w → Words v → Written w p → Written v p → Alike w v
unfolding meets map_at
written-alike w v p ws vs a b = record {
  long = long;
  front = parts w ∙ ap₂ ◌++◌ front-head front-map ∙ sym (parts v);
  pages =
      rw same (λ q t. pages-alike (least_of w) (page_of w) (page_at (geometry_of w) v) q p.whole.levels p.whole.tree a.stands (rw (same, least_of) at b.stands)
      (omega (arith, a.bits q)));
}
  where
    same : geometry_of v ≡ geometry_of w
    same = b.geometry ∙ sym a.geometry

    -- in front of the pages stand the head and the map
    parts : (u : List ℕ) → take (first_word (geometry_of w) 0) u ≡ take head_words u ++ map_at (geometry_of w) u
    parts u =
        let long : first_word (geometry_of w) 0 ≡ head_words + map_words (geometry_of w) = omega arith in
        ap (λ (n : ℕ). take n u) long ∙ take-add head_words (map_words (geometry_of w)) u

    long : length w ≡ length v
    long = a.long ∙ sym b.long

    head : (i : ℕ) → i < head_words → word w i ≡ word v i
    head i h =
        either_lt i 9
        (λ l. sym (get_or-tab 9 (word w) i 0 l) ∙ ap (λ (l : List ℕ). get_or l i 0) (a.head ∙ sym b.head) ∙ get_or-tab 9 (word v) i 0 l)
        (λ l. a.spare i l h ∙ sym (b.spare i l h))

    front-head : take head_words w ≡ take head_words v
    front-head =
        ext_get_or 0 (take head_words w) (take head_words v) (simp (length-take, long))
        (λ i h.
        let l : i < head_words = omega (arith, simp length-take at h) in
        get_or-take head_words w i 0 l ∙ head i l ∙ sym (get_or-take head_words v i 0 l))

    front-map : map_at (geometry_of w) w ≡ map_at (geometry_of w) v
    front-map =
        map-ext (map_at (geometry_of w) w) (map_at (geometry_of w) v) (simp (length-take, length-drop, long))
        (words-part w head_words (map_words (geometry_of w)) ws) (words-part v head_words (map_words (geometry_of w)) vs) (λ q. a.bits q ∙ sym (rw same at (b.bits q)))

pub alike : (w v : List ℕ) → Words w → Words v → Sound w → Sound v → pool_of w ≡ pool_of v → Alike w v
alike w v ws vs a b e = written-alike w v (pool_of w) ws vs (sound-written w a) (rw e (sound-written v b))
