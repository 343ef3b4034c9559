-- What check's walk finds, on any words: it goes through exactly where each page below stands right and the entries met
-- can follow one another, and has then met all of these pages and entries.
-- Assumes nothing.
use mathlib.Core.Path.{◌≡◌, refl, sym, ap, subst}
use mathlib.Core.Bool.{true}
use mathlib.Core.List.{List, [], ◌∷◌, ◌++◌, map, append-nil}
use Prim.Native.Nat.{ℕ, zero, suc, ◌+◌, ◌≤◌, ◌<◌}
use native.Mathlib.Omega.{arith}
use lib.Dec.{ltb}
use lib.ListN.{length, length-map}
use borrow.Author.Tests.{ltb-true, leb-true, eqb-true, lt-ltb, le-leb, eq-eqb}
use Rattle.model.specs.Basics.{All, sum, every, same}
use Rattle.model.specs.Layout.{pages_in, today}
use Rattle.model.specs.PageMap.{bit_at}
use Rattle.model.specs.Tree.{Entry, Tree, weave, entries, times, Rising, Shaped}
use Rattle.model.specs.Page.{count_of, height_of, entries_of, children_of, read_tree, Heights}
use Rattle.lend.specs.Pages.{least, most, page_in, map_in}
use Rattle.tree.specs.Check.{stand_tests, told, broken, in_turn, over_tree}
use Rattle.model.proofs.Numbers.{pages_below}
use Rattle.model.proofs.Cases.{either, either_lt, either-eq, contrary, same_self, same-other}
use Rattle.model.proofs.Basics.{all_map, all_both, all-image, every_true, every-all}
use Rattle.model.proofs.Read.{length-own, length-children}
use Rattle.tree.proofs.Meeting.{Met, Follows, Goes, goes_map, goes-as, follows-as, turn-goes}

-- ---- over a map of children

weave-map : {S U A : Type 0} (g : S → U) (f : U → List A) (ss : List S) (es : List A) → weave f (map g ss) es ≡ weave (λ s. f (g s)) ss es
weave-map g f [] es = refl
weave-map g f (s ∷ ss) [] = refl
weave-map {A = A} g f (s ∷ ss) (e ∷ es) = ap (λ (r : List A). f (g s) ++ e ∷ r) (weave-map g f ss es)

sum-map : {S U : Type 0} (g : S → U) (f : U → ℕ) (ss : List S) → sum f (map g ss) ≡ sum (λ s. f (g s)) ss
sum-map g f [] = refl
sum-map g f (s ∷ ss) = ap (λ (n : ℕ). f (g s) + n) (sum-map g f ss)

image-all : {S U : Type 0} (g : S → U) (P : U → Type 0) (ss : List S) → All P (map g ss) → All (λ s. P (g s)) ss
image-all g P [] a = tt
image-all g P (s ∷ ss) a = (a.0, image-all g P ss a.1)

-- what is said of each page met below the children, it is said of each met below one of them
marks-each : (M : ℕ → Type 0) (f : ℕ → ℕ → ℕ) (cs : List ℕ) → ((q : ℕ) → 0 < sum (f q) cs → M q) → All (λ c. (q : ℕ) → 0 < f q c → M q) cs
marks-each M f [] h = tt
marks-each M f (c ∷ cs) h = (λ q l. h q (omega arith), marks-each M f cs (λ q l. h q (omega arith)))

marks-all : (M : ℕ → Type 0) (f : ℕ → ℕ → ℕ) (cs : List ℕ) → All (λ c. (q : ℕ) → 0 < f q c → M q) cs → (q : ℕ) → 0 < sum (f q) cs → M q
marks-all M f [] a q l = absurd (omega arith)
marks-all M f (c ∷ cs) a q l = either_lt 0 (f q c) (a.0 q) (λ z. marks-all M f cs a.1 q (omega arith))

-- ---- the pages below one page

-- the tree of h levels at page p, as the words have it
abbrev pub tree_at : List ℕ → (h : ℕ) → ℕ → Tree h
tree_at w h p = read_tree least (page_in w) h p

-- each page of it stands right, whatever was met before
pub record Fine (w : List ℕ) (h p low : ℕ) : Type 0 where
  pub heights : Heights least (page_in w) h p
  pub shaped : Shaped least low h (tree_at w h p)
  pub marked : (q : ℕ) → 0 < times q h (tree_at w h p) → (q < pages_in today (length w)) × (bit_at (map_in w) q ≡ 1)

-- what it says of the page itself
record FinePage (w : List ℕ) (h p low : ℕ) : Type 0 where
  inside : p < pages_in today (length w)
  taken : bit_at (map_in w) p ≡ 1
  height : height_of (page_in w p) ≡ h
  few : low ≤ count_of (page_in w p)
  many : count_of (page_in w p) ≤ most

module _ (w : List ℕ) (h p : ℕ) where
  abbrev cs : List ℕ
  cs = children_of most (page_in w p)

  abbrev os : List Entry
  os = entries_of most (page_in w p)

  tree-entries : weave (λ c. entries h (tree_at w h c)) cs os ≡ entries (suc h) (tree_at w (suc h) p)
  unfolding entries read_tree
  tree-entries = sym (weave-map (tree_at w h) (entries h) cs os)

  tree-pages : pages_below (suc h) (tree_at w (suc h) p) ≡ suc (sum (λ c. pages_below h (tree_at w h c)) cs)
  unfolding pages_below read_tree
  tree-pages = ap suc (sum-map (tree_at w h) (pages_below h) cs)

  tree-times : (q : ℕ) → times q (suc h) (tree_at w (suc h) p) ≡ same q p + sum (λ c. times q h (tree_at w h c)) cs
  unfolding times read_tree
  tree-times q = ap (λ (n : ℕ). same q p + n) (sum-map (tree_at w h) (times q h) cs)

  fine-page : (low : ℕ) → Fine w (suc h) p low → FinePage w h p low
  unfolding Heights Shaped read_tree
  fine-page low f =
      let mark = f.marked p (omega (arith, tree-times p, same_self p)) in
      let few = f.shaped.few in
      let many = f.shaped.many in
      let long = length-own most (page_in w p) in
      record { inside = mark.0; taken = mark.1; height = f.heights.0; few = omega arith; many = omega arith }

  fine-below : (low : ℕ) → Fine w (suc h) p low → All (λ c. Fine w h c least) cs
  unfolding Heights Shaped read_tree
  fine-below low f =
      let M : ℕ → Type 0 = λ q. (q < pages_in today (length w)) × (bit_at (map_in w) q ≡ 1) in
      let marked = marks-each M (λ q c. times q h (tree_at w h c)) cs (λ q l. f.marked q (omega (arith, tree-times q))) in
      let shaped = image-all (tree_at w h) (Shaped least least h) cs f.shaped.below in
      all_both (Heights least (page_in w) h) (λ c. Shaped least least h (tree_at w h c) × ((q : ℕ) → 0 < times q h (tree_at w h c) → M q)) (λ c. Fine w h c least) cs
      (λ c x y. record { heights = x; shaped = y.0; marked = y.1 }) f.heights.1
      (all_both (λ c. Shaped least least h (tree_at w h c)) (λ c. (q : ℕ) → 0 < times q h (tree_at w h c) → M q)
      (λ c. Shaped least least h (tree_at w h c) × ((q : ℕ) → 0 < times q h (tree_at w h c) → M q)) cs (λ c x y. (x, y)) shaped marked)

  fine-close : (low : ℕ) → FinePage w h p low → All (λ c. Fine w h c least) cs → Fine w (suc h) p low
  unfolding Heights Shaped read_tree
  fine-close low f below =
      let M : ℕ → Type 0 = λ q. (q < pages_in today (length w)) × (bit_at (map_in w) q ≡ 1) in
      let marked = marks-all M (λ q c. times q h (tree_at w h c)) cs
      (all_map (λ c. Fine w h c least) (λ c. (q : ℕ) → 0 < times q h (tree_at w h c) → M q) cs (λ c x. x.marked) below) in
      let long = length-own most (page_in w p) in
      let few = f.few in
      let many = f.many in
      record {
        heights = (f.height, all_map (λ c. Fine w h c least) (Heights least (page_in w) h) cs (λ c x. x.heights) below);
        shaped = record {
          forks = simp (length-map, length-own, length-children);
          few = omega arith;
          many = omega arith;
          below = all-image (tree_at w h) (Shaped least least h) cs
              (all_map (λ c. Fine w h c least) (λ c. Shaped least least h (tree_at w h c)) cs (λ c x. x.shaped) below);
        };
        marked = λ q l. either-eq q p
            (λ e. subst M (sym e) (f.inside, f.taken))
            (λ n. marked q (omega (arith, tree-times q, same-other q p n)));
      }

  page-tests : (low pages : ℕ) → every (stand_tests w p h low pages) ≡ true → p < pages_in today (length w) → FinePage w h p low
  page-tests low pages y i =
      let t = every_true (stand_tests w p h low pages) y in
      record {
        inside = i;
        taken = eqb-true (bit_at (map_in w) p) 1 t.1.0;
        height = eqb-true (height_of (page_in w p)) h t.1.1.0;
        few = leb-true low (count_of (page_in w p)) t.1.1.1.0;
        many = leb-true (count_of (page_in w p)) most t.1.1.1.1.0;
      }

  tests-page : (low pages : ℕ) → pages < pages_in today (length w) → FinePage w h p low → every (stand_tests w p h low pages) ≡ true
  tests-page low pages l f =
      every-all (stand_tests w p h low pages) (
        lt-ltb pages (pages_in today (length w)) l,
        (
          eq-eqb (bit_at (map_in w) p) 1 f.taken,
          (eq-eqb (height_of (page_in w p)) h f.height, (le-leb low (count_of (page_in w p)) f.few, (le-leb (count_of (page_in w p)) most f.many, tt))),
        ),
      )

-- ---- the walk

pub over-stop : (w : List ℕ) (h p low : ℕ) → over_tree w h p low broken ≡ broken
unfolding over_tree
over-stop w zero p low = refl
over-stop w (suc h) p low = refl

-- what the walk below page p goes through
abbrev pub GoesBelow : List ℕ → (h p low a b k : ℕ) → List Entry → Type 0
GoesBelow w h p low a b k es =
    Goes (Fine w h p low × Follows w a es (pages_below h (tree_at w h p)) (entries h (tree_at w h p))) (a + pages_below h (tree_at w h p))
    (es ++ entries h (tree_at w h p)) (over_tree w h p low (told a b k))

module _ (w : List ℕ) (h p low a b k : ℕ) (es : List Entry) (l : a ≤ pages_in today (length w)) (m : Met es b k)
    (one : (c a b k : ℕ) (es : List Entry) → a ≤ pages_in today (length w) → Met es b k → GoesBelow w h c least a b k es) where
  abbrev size : ℕ → ℕ
  size c = pages_below h (tree_at w h c)

  abbrev inside : ℕ → List Entry
  inside c = entries h (tree_at w h c)

  abbrev n : ℕ
  n = sum size (cs w h p)

  abbrev xs : List Entry
  xs = weave inside (cs w h p) (os w h p)

  abbrev Whole : Type 0
  Whole = Fine w (suc h) p low × Follows w a es (pages_below (suc h) (tree_at w (suc h) p)) (entries (suc h) (tree_at w (suc h) p))

  abbrev Parts : Type 0
  Parts = All (λ c. Fine w h c least) (cs w h p) × Follows w (a + 1) es n xs

  inside-goes : a + 1 ≤ pages_in today (length w) → Goes Parts (a + 1 + n) (es ++ xs) (in_turn w (λ c. over_tree w h c least) (cs w h p) (os w h p) (told (a + 1) b k))
  inside-goes l' =
      turn-goes w (λ c. over_tree w h c least) (λ c. over-stop w h c least) inside size (λ c. Fine w h c least) one (cs w h p) (os w h p) (a + 1) b k es
      (simp (length-own, length-children)) l' m

  whole_parts : Whole → Parts
  whole_parts g =
      let e = tree-pages w h p in
      (fine-below w h p low g.0, follows-as w a (a + 1) _ n es _ xs (omega arith) (sym (tree-entries w h p)) g.1)

  parts_whole : FinePage w h p low → Parts → Whole
  parts_whole f g =
      let e = tree-pages w h p in
      (fine-close w h p low f g.0, follows-as w (a + 1) a n _ es xs _ (omega arith) (tree-entries w h p) g.1)

  whole-tests : Whole → every (stand_tests w p h low a) ≡ true
  whole-tests g = let few = g.1.few in let e = tree-pages w h p in tests-page w h p low a (omega arith) (fine-page w h p low g.0)

  page-goes : GoesBelow w (suc h) p low a b k es
  unfolding over_tree
  page-goes =
      either (ltb p (pages_in today (length w)))
      (λ y. rw y
      (either (every (stand_tests w p h low a))
      (λ z. rw z
      (let i = ltb-true p (pages_in today (length w)) y in
      let t = ltb-true a (pages_in today (length w)) (every_true (stand_tests w p h low a) z).0 in
      let e = tree-pages w h p in
      let walk = in_turn w (λ c. over_tree w h c least) (cs w h p) (os w h p) (told (a + 1) b k) in
      goes_map Parts Whole _ _ walk (parts_whole (page-tests w h p low a z i)) whole_parts
      (goes-as Parts (a + 1 + n) _ (es ++ xs) _ walk (omega arith) (ap (λ (r : List Entry). es ++ r) (tree-entries w h p)) (inside-goes (omega arith)))))
      (λ z. rw z (λ g. contrary (whole-tests g) z))))
      (λ y. rw y (λ g. contrary (lt-ltb p (pages_in today (length w)) (fine-page w h p low g.0).inside) y))

pub tree-goes : (w : List ℕ) (h p low a b k : ℕ) (es : List Entry) → a ≤ pages_in today (length w) → Met es b k → GoesBelow w h p low a b k es
unfolding over_tree entries pages_below Heights Shaped times read_tree
tree-goes w zero p low a b k es l m = (
  (
    record { heights = tt; shaped = tt; marked = λ q o. absurd (omega arith) },
    record { few = omega arith; rising = subst Rising (sym (append-nil es)) m.rising; zeros = λ s. tt },
  ),
  omega arith,
  subst (λ (z : List Entry). Met z b k) (sym (append-nil es)) m,
)
tree-goes w (suc h) p low a b k es l m = page-goes w h p low a b k es l m (λ c. tree-goes w h c least)
