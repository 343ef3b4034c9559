-- A removal along a path, page by page: from what is promised of the child, of the entry that stands for the one that
-- goes, and of the mending, what is promised of the page's tree. Each page is met once, so the child's removal leaves
-- the other pages, and the heir leaves all but the page itself.
-- Assumes nothing.
use mathlib.Core.Path.{◌≡◌, refl, sym, ap, subst₂, ◌∙◌}
use mathlib.Core.Bool.{Bool, true, false}
use mathlib.Core.Logic.{◌≢◌}
use mathlib.Core.List.{List, map}
use Prim.Native.Nat.{ℕ, zero, suc, ◌+◌, ◌-◌, ◌≤◌, ◌<◌, pred}
use native.Mathlib.Omega.{arith}
use lib.Dec.{ltb}
use lib.ListN.{length, take, drop, get_or, set, length-set, length-drop}
use lib.Seq.{set_out, map-set_same}
use borrow.Author.Tests.{le-leb, lt-leb, lt-ltb, le-ltb}
use Rattle.std.specs.Prelude.{Option, Some, None}
use Rattle.model.specs.Basics.{sum, All, final, same}
use Rattle.model.specs.PageMap.{bit_at}
use Rattle.model.specs.Tree.{Entry, Tree, no_entry, no_node, no_tree, entries, size, times, Shaped}
use Rattle.model.specs.Page.{count_of, height_of, entries_of, children_of}
use Rattle.model.specs.Standing.{map_node, page_number, Standing, Holds}
use Rattle.model.specs.Gap.{slot_at, rest_at, child, child_at}
use Rattle.model.specs.Path.{gap_pages, gap_slots}
use Rattle.model.specs.Remove as removal
use Rattle.model.specs.Remove.{step, remove_at}
use Rattle.model.specs.Freed.{step_freed, freed_at}
use Rattle.page.specs.declared.Entry as lent
use Rattle.lend.specs.Pages.{least, most, page_in, map_in}
use Rattle.tree.specs.Sits.{PathOf, Sits}
use Rattle.tree.specs.Insert.{given, Marked}
use Rattle.tree.specs.Remove.{near, Mends, Mended, TakesOut, inherited_by, Inherits, gone_by, gone_of, near_pages, Shrinks, RemovesBelow}
use Rattle.model.proofs.Cases.{either-le, either_lt, same_self, same-zero}
use Rattle.model.proofs.Basics.{all_append, all_left, all_right, all_take, all_drop, all_of, all_any, all_map, all-image, map-take, map-drop}
use Rattle.model.proofs.Sums.{sum-at, sum-append}
use Rattle.model.proofs.Gap.{way_down, child-shaped, size-some, leaf-entries, times-page, times-child, leaf-slot}
use Rattle.model.proofs.Search.{path-long}
use Rattle.model.proofs.Remove.{lost_at, lost-forks, lost-loose, lost-times, remove-at-shaped, remove-at-times}
use Rattle.model.proofs.Path.{slot-at-end, rest-at-end, final-end, remove-at-page, lost-plain, lost-heir, end-at-last}
use Rattle.model.proofs.Standing.{standing-frame, set-standing}
use Rattle.pagemap.proofs.Map.{bit_at-le}
use Rattle.lend.proofs.Touching.{only-touches, only-map}
use Rattle.tree.proofs.Saying.{root-count}
use Rattle.tree.proofs.Sitting.{sits-own, sits-height, sits-some, sits-most, sits-forks, sits-child, sits-slot, sits-rest}
use Rattle.tree.proofs.Paths.{behind, first-page, first_slot, path-behind, behind-from, first-from}

-- ---- the pages that a removal may change are pages of the tree

children-met : (h : ℕ) (t : Tree (suc (suc h))) → All (λ c. 0 < times (page_number (suc h) c) (suc (suc h)) t) t.children
children-met h t = all_of (λ c. 0 < times (page_number (suc h) c) (suc (suc h)) t) t.children no_node (λ i b.
    let c = child (suc h) t i in omega (arith, times-child c.page (suc h) t i b, times-page h c))

pub near-met : (low h : ℕ) (t : Tree (suc h)) (g : ℕ) → Shaped least low (suc h) t → g ≤ size (suc h) t → All (λ q. 0 < times q (suc h) t) (near_pages h t g)
unfolding near_pages
near-met low zero t g s b = (times-page 0 t, tt)
near-met low (suc h) t g s b =
    let i = slot_at (suc h) t g in
    let x = child_at (suc h) t g in
    let o = rest_at (suc h) t g in
    let way = way_down least low (suc h) t g s b in
    let met : ℕ → Type 0 = λ q. 0 < times q (suc (suc h)) t in
    let met-child : Tree (suc h) → Type 0 = λ c. 0 < times (page_number (suc h) c) (suc (suc h)) t in (
      times-page (suc h) t,
      all_append met (map (page_number (suc h)) (near i t.children)) (near_pages h x o)
          (all-image (page_number (suc h)) met (near i t.children)
          (all_drop met-child (pred i) (take (suc (suc i)) t.children) (all_take met-child (suc (suc i)) t.children (children-met h t))))
          (all_map (λ q. 0 < times q (suc h) x) met (near_pages h x o) (λ q l. omega (arith, times-child q (suc h) t i way.inside))
          (near-met least h x o (child-shaped least low (suc h) t g s b) way.fits)),
    )

pub near_apart : (low h : ℕ) (t : Tree (suc h)) (g q : ℕ) → Shaped least low (suc h) t → g ≤ size (suc h) t → times q (suc h) t ≡ 0 → All (λ p. q ≢ p) (near_pages h t g)
near_apart low h t g q s b z =
    all_map (λ p. 0 < times p (suc h) t) (λ p. q ≢ p) (near_pages h t g) (λ p l e. let l' : 0 < times q (suc h) t = rw e l in omega arith) (near-met low h t g s b)

-- the numbers of the neighbours
map-near : {S U : Type 0} (f : S → U) (i : ℕ) (l : List S) → near i (map f l) ≡ map f (near i l)
map-near f i l = ap (drop (pred i)) (map-take f (suc (suc i)) l) ∙ map-drop f (pred i) (take (suc (suc i)) l)

-- ---- what is handed up

gone-of-end : (h : ℕ) (t : Tree h) (g : ℕ) → size h t ≤ g → gone_of h t g ≡ Some (given (final no_entry (entries h t)))
unfolding gone_of
gone-of-end h t g b = rw (le-leb (size h t) g b)

gone-of-inside : (h : ℕ) (t : Tree h) (g : ℕ) → g < size h t → gone_of h t g ≡ None
unfolding gone_of
gone-of-inside h t g b = rw (lt-leb (size h t) g b)

-- ---- an upper page t, whose child at gap g has lost the entry: from w to w₁ the child, from w₁ to w₂ the page's entry

module _ (w w₁ : List ℕ) (low h : ℕ) (t : Tree (suc (suc h))) (g : ℕ) (r₁ : Option lent.Entry) (s : Sits w low (suc (suc h)) t) (b : g ≤ size (suc (suc h)) t)
    (marked : Marked w (suc (suc h)) t) (below : Shrinks w h (child_at (suc h) t g) (rest_at (suc h) t g) w₁ r₁) where
  abbrev i : ℕ
  i = slot_at (suc h) t g

  abbrev o : ℕ
  o = rest_at (suc h) t g

  abbrev x : Tree (suc h)
  x = child_at (suc h) t g

  -- the child after, and the page with it
  abbrev c : Tree (suc h)
  c = remove_at least (suc h) x o

  abbrev u : Tree (suc (suc h))
  u = lost_at (suc h) t g c

  inside : i < length t.children
  inside = (way_down least low (suc h) t g s.shaped b).inside

  fits : o ≤ size (suc h) x
  fits = (way_down least low (suc h) t g s.shaped b).fits

  x-shaped : Shaped least least (suc h) x
  x-shaped = child-shaped least low (suc h) t g s.shaped b

  -- each page is met once, so the page itself, the children before, the child and those after are apart
  apart : (q : ℕ)
      → same q t.page + (sum (times q (suc h)) (take i t.children) + (times q (suc h) x + sum (times q (suc h)) (drop (suc i) t.children))) ≤ 1
  unfolding times
  apart q = omega (arith, marked q, bit_at-le (map_in w) q, sum-at (times q (suc h)) t.children i (no_tree (suc h)) inside)

  c-times : (q : ℕ) → times q (suc h) c + sum (same q) (freed_at least (suc h) x o) ≡ times q (suc h) x
  c-times = remove-at-times least least h x o (omega arith) (omega arith) x-shaped fits

  -- the child's removal leaves all other pages
  kept-below : (q : ℕ) → times q (suc h) x ≡ 0 → page_in w₁ q ≡ page_in w q
  kept-below q z = below.touches.others q (near_apart least h x o q x-shaped fits z)

  pub kept-page : page_in w₁ t.page ≡ page_in w t.page
  kept-page = kept-below t.page (omega (arith, apart t.page, same_self t.page))

  module _ (w₂ : List ℕ) (r₂ : Option lent.Entry) (heir : Inherits t.page i r₁ w₁ w₂ r₂) where
    kept-other : (q : ℕ) → same q t.page ≡ 0 → page_in w₂ q ≡ page_in w₁ q
    kept-other q z = heir.only.others q (same-zero q t.page z, tt)

    -- the words of the page
    u-numbers : map (page_number (suc h)) u.children ≡ map (page_number (suc h)) t.children
    u-numbers = map-set_same (page_number (suc h)) t.children i c no_node (remove-at-page least h x o)

    page-children : 0 < suc h → children_of most (page_in w t.page) ≡ map (page_number (suc h)) u.children
    unfolding Standing
    page-children l = s.stands.0.children l ∙ sym u-numbers

    page-same : w₂ ≡ w₁ → u.own ≡ t.own → Holds most (suc h) (map_node (page_number (suc h)) u) (page_in w₂ t.page)
    unfolding Standing
    page-same e own =
        let z : page_in w₂ t.page ≡ page_in w t.page = ap (λ (l : List ℕ). page_in l t.page) e ∙ kept-page in
        let k = s.stands.0 in
        rw z (record { height = k.height; own = k.own ∙ sym own; children = page-children })

    u-holds : Holds most (suc h) (map_node (page_number (suc h)) u) (page_in w₂ t.page)
    u-holds =
        let own : entries_of most (page_in w t.page) ≡ t.own = sits-own w low (suc h) t s in
        let height : height_of (page_in w t.page) ≡ suc h = sits-height w low (suc h) t s in
        let count : count_of (page_in w₁ t.page) ≡ length t.own = ap count_of kept-page ∙ root-count w (suc h) t s.stands in
        let few : length t.own ≤ most = sits-most w low (suc h) t s in
        let last : Entry = final no_entry (entries (suc h) x) in
        either-le (size (suc h) x) o
        (λ end. either_lt i (count_of (page_in w₁ t.page))
        (λ l.
        let k = rw kept-page at (heir.holds (given last) (below.handed ∙ gone-of-end (suc h) x o end) l (omega arith)) in
        record {
          height = k.height ∙ height;
          own = k.own ∙ ap (λ (es : List Entry). set es i last) own ∙ sym (lost-heir (suc h) t i o c end);
          children = λ l. k.children (omega arith) ∙ page-children l;
        })
        (λ l. page-same (heir.past l) (lost-heir (suc h) t i o c end ∙ set_out t.own i last (omega arith))))
        (λ before. page-same (heir.kept (below.handed ∙ gone-of-inside (suc h) x o before)) (lost-plain (suc h) t i o c before))

    -- the children: those that were not on the path, and c
    u-standing : Standing least (page_in w₂) (suc (suc h)) u
    unfolding Standing
    u-standing =
        let away : (q : ℕ) → same q t.page ≡ 0 → times q (suc h) x ≡ 0 → page_in w q ≡ page_in w₂ q = λ q z n. sym (kept-other q z ∙ kept-below q n) in
        let here : Standing least (page_in w₂) (suc h) c =
        standing-frame least (page_in w₁) (page_in w₂) (suc h) c (λ q l. sym (kept-other q (omega (arith, apart q, c-times q)))) below.stands in (
          u-holds,
          set-standing least (page_in w) (page_in w₂) (suc h) i c t.children inside (λ q l. away q (omega (arith, apart q)) (omega (arith, apart q))) s.stands.1 here,
        )

    -- with an heir or without, the page keeps its count
    pub kept-count : count_of (page_in w₂ t.page) ≡ count_of (page_in w t.page)
    kept-count =
        let long : length u.own ≡ length t.own = simp length-set refl in
        root-count w₂ (suc h) u u-standing ∙ long ∙ sym (root-count w (suc h) t s.stands)

    -- what is handed up
    u-handed : r₂ ≡ gone_of (suc (suc h)) t g
    unfolding entries Shaped
    u-handed =
        let count : count_of (page_in w₁ t.page) ≡ length t.own = ap count_of kept-page ∙ root-count w (suc h) t s.stands in
        let forks : length t.children ≡ suc (length t.own) = sits-forks w low (suc h) t s in
        let up : (v : Bool) → ltb i (count_of (page_in w₁ t.page)) ≡ v → r₂ ≡ inherited_by v r₁ = λ v e. heir.answer ∙ ap (λ (v : Bool). inherited_by v r₁) e in
        either_lt i (length t.own)
        (λ l.
        up true (lt-ltb i (count_of (page_in w₁ t.page)) (omega arith))
        ∙ sym (gone-of-inside (suc (suc h)) t g (either-le (size (suc (suc h)) t) g
        (λ end. absurd (omega (arith, slot-at-end least low (suc h) t g s.shaped (omega arith)))) (λ before. before))))
        (λ l.
        let last : i ≡ length t.own = omega (arith, inside) in
        up false (le-ltb i (count_of (page_in w₁ t.page)) (omega arith)) ∙ below.handed ∙ either-le (size (suc h) x) o
        (λ end.
        gone-of-end (suc h) x o end
        ∙ ap (λ (e : Entry). Some (given e)) (sym (final-end (entries (suc h)) no_entry t.children t.own no_node forks
        (rw last at (size-some least least h x (omega arith) x-shaped)) ∙ ap (λ (j : ℕ). final no_entry (entries (suc h) (child (suc h) t j))) (sym last)))
        ∙ sym (gone-of-end (suc (suc h)) t g (end-at-last least low (suc h) t g s.shaped b l end)))
        (λ before.
        gone-of-inside (suc h) x o before
        ∙ sym (gone-of-inside (suc (suc h)) t g (either-le (size (suc (suc h)) t) g
        (λ end. absurd (omega (arith, rest-at-end least low (suc h) t g s.shaped (omega arith)))) (λ inner. inner)))))

    -- ---- and from w₂ to w₃ it is mended

    map_same : (q : ℕ) → bit_at (map_in w₂) q ≡ bit_at (map_in w₁) q
    map_same q = ap (λ (m : List ℕ). bit_at m q) (only-map heir.only)

    u-times : (q : ℕ) → times q (suc (suc h)) u + sum (same q) (freed_at least (suc h) x o) ≡ times q (suc (suc h)) t
    u-times q = omega (arith, lost-times least low h t g s.some s.shaped b c q, c-times q)

    u-mended : (w₃ : List ℕ) → Mends t.page i w₂ w₃ → Mended h u i w₂ w₃
    u-mended w₃ mends =
        let long : length w₂ ≡ length w = heir.only.long ∙ below.touches.long in
        mends.mended h u refl u-standing (lost-forks least low h t g s.some s.shaped b c) (simp length-set (sits-most w low (suc h) t s))
        (lost-loose least low h t g s.some s.shaped b c (remove-at-shaped least least h x o (omega arith) (omega arith) x-shaped fits))
        (λ q. omega (arith, marked q, u-times q, below.bits q, map_same q))
        (λ q l. rw long (s.inside q (omega (arith, u-times q))))

    near_same : map (page_number (suc h)) (near i u.children) ≡ map (page_number (suc h)) (near i t.children)
    near_same =
        sym (map-near (page_number (suc h)) i u.children) ∙ ap (near i) u-numbers ∙ map-near (page_number (suc h)) i t.children

    pub upper-shrinks : (w₃ : List ℕ) → Mends t.page i w₂ w₃ → Shrinks w (suc h) t g w₃ r₂
    unfolding step step_freed remove_at freed_at near_pages
    upper-shrinks w₃ mends =
        let m = u-mended w₃ mends in
        record {
          handed = u-handed;
          stands = m.stands;
          bits = λ q. omega (arith, m.bits q, below.bits q, map_same q, sum-append (same q) (freed_at least (suc h) x o) (step_freed least (suc h) t g c));
          touches = record {
            long = mends.long ∙ heir.only.long ∙ below.touches.long;
            head = mends.head ∙ (only-touches heir.only).head ∙ below.touches.head;
            others = λ q a.
                let ns = map (page_number (suc h)) (near i t.children) in
                m.touches.others q (a.0, rw near_same (all_left (λ p. q ≢ p) ns (near_pages h x o) a.1))
                ∙ heir.only.others q (a.0, tt)
                ∙ below.touches.others q (all_right (λ p. q ≢ p) ns (near_pages h x o) a.1);
          };
        }

-- ---- a leaf

leaf-shrinks : (w w' : List ℕ) (low : ℕ) (t : Tree 1) (g : ℕ) (r : Option lent.Entry) → Sits w low 1 t → g ≤ size 1 t → TakesOut t.page (slot_at 0 t g) w w' r → Shrinks w 0 t g w' r
unfolding Standing step step_freed remove_at freed_at gone_of near_pages
leaf-shrinks w w' low t g r s b takes =
    let held : entries 1 t ≡ t.own = leaf-entries t in
    let size-own : size 1 t ≡ length t.own = ap length held in
    let own : entries_of most (page_in w t.page) ≡ t.own = sits-own w low 0 t s in
    let count : count_of (page_in w t.page) ≡ length t.own = root-count w 0 t s.stands in
    let some : 1 ≤ count_of (page_in w t.page) = omega (arith, sits-some w low 0 t s) in
    let few : count_of (page_in w t.page) ≤ most = omega (arith, sits-most w low 0 t s) in
    let out : TakesOut t.page g w w' r = rw (leaf-slot t.children g (omega (arith, sits-forks w low 0 t s))) at takes in
    record {
      handed = out.answer some few ∙ ap (λ (es : List Entry). gone_by es g) (own ∙ sym held);
      stands = (
        record {
          height = out.height some few ∙ sits-height w low 0 t s;
          own = out.own some few ∙ ap (removal.gone g) own;
          children = λ l. absurd (omega arith);
        },
        all_any (λ c. Unit {0}) (drop 1 t.children) (λ c. tt),
      );
      bits = λ q. omega (arith, ap (λ (m : List ℕ). bit_at m q) (only-map out.only));
      touches = only-touches out.only;
    }

-- ---- along the path

module _ (w w' ps ss : List ℕ) (r : Option lent.Entry) (one : length ps ≡ 1) (takes : TakesOut (get_or ps 0 0) (get_or ss 0 0) w w' r) where
  leaf-path : (low h : ℕ) (t : Tree (suc h)) (g : ℕ) → Sits w low (suc h) t → g ≤ size (suc h) t → PathOf (suc h) t g ps ss → Shrinks w h t g w' r
  unfolding gap_pages gap_slots
  leaf-path low zero t g s b path =
      leaf-shrinks w w' low t g r s b
      (subst₂ (λ (p i : ℕ). TakesOut p i w w' r) (first-page 1 t g (omega arith) path.pages) (first_slot 0 t g path.slots) takes)
  leaf-path low (suc h) t g s b path = absurd (omega (arith, ap length path.pages, path-long (suc (suc h)) t g))

  removes-leaf : RemovesBelow w ps ss w' r
  removes-leaf = record { long = takes.only.long; head = (only-touches takes.only).head; shrinks = λ low h t g s b path marked. leaf-path low h t g s b path }

-- no pages: nothing is done
pub removes-nothing : (w ps ss : List ℕ) → length ps ≡ 0 → RemovesBelow w ps ss w None
removes-nothing w ps ss none = record {
  long = refl;
  head = refl;
  shrinks = λ low h t g s b path marked. absurd (omega (arith, ap length path.pages, (path-long (suc h) t g).0));
}

-- of each tree that sits there, with its pages marked, and each gap of it that has this path
abbrev pub Along : (w ps ss : List ℕ) → ((h : ℕ) → Tree (suc h) → ℕ → Type 0) → Type 0
Along w ps ss P = (low h : ℕ) (t : Tree (suc h)) (g : ℕ) → Sits w low (suc h) t → g ≤ size (suc h) t → PathOf (suc h) t g ps ss → Marked w (suc h) t → P h t g

-- what is so of each from the next place on is so of the child on the path
pub along-child : (w ps ss : List ℕ) (P : (h : ℕ) → Tree (suc h) → ℕ → Type 0) → Along w (behind ps) (behind ss) P
    → (low h : ℕ) (t : Tree (suc (suc h))) (g : ℕ) → Sits w low (suc (suc h)) t → g ≤ size (suc (suc h)) t → PathOf (suc (suc h)) t g ps ss → Marked w (suc (suc h)) t
    → P h (child_at (suc h) t g) (rest_at (suc h) t g)
along-child w ps ss P below low h t g s b path marked =
    let inside = (way_down least low (suc h) t g s.shaped b).inside in
    below least h (child_at (suc h) t g) (rest_at (suc h) t g)
    (sits-child w low (suc h) t s (slot_at (suc h) t g) (sits-slot w low (suc h) t s g b)) (sits-rest w low (suc h) t s g b)
    (path-behind (suc h) t g ps ss path)
    (λ q. omega (arith, marked q, times-child q (suc h) t (slot_at (suc h) t g) inside))

module _ (w w₁ w₂ w₃ ps ss : List ℕ) (r₁ r₂ : Option lent.Entry) (more : 2 ≤ length ps) (below : RemovesBelow w (behind ps) (behind ss) w₁ r₁)
    (heir : Inherits (get_or ps 0 0) (get_or ss 0 0) r₁ w₁ w₂ r₂) (mends : Mends (get_or ps 0 0) (get_or ss 0 0) w₂ w₃) where
  pub upper-path : Along w ps ss (λ h t g. Shrinks w h t g w₃ r₂)
  unfolding gap_pages gap_slots
  upper-path low zero t g s b path marked = absurd (omega (arith, ap length path.pages))
  upper-path low (suc h) t g s b path marked =
      let p : get_or ps 0 0 ≡ t.page = first-page (suc (suc h)) t g (omega arith) path.pages in
      let i : get_or ss 0 0 ≡ slot_at (suc h) t g = first_slot (suc h) t g path.slots in
      upper-shrinks w w₁ low h t g r₁ s b marked (along-child w ps ss (λ h t g. Shrinks w h t g w₁ r₁) below.shrinks low h t g s b path marked) w₂ r₂
      (subst₂ (λ (p i : ℕ). Inherits p i r₁ w₁ w₂ r₂) p i heir) w₃ (subst₂ (λ (p i : ℕ). Mends p i w₂ w₃) p i mends)

  removes-upper : RemovesBelow w ps ss w₃ r₂
  removes-upper = record {
    long = mends.long ∙ heir.only.long ∙ below.long;
    head = mends.head ∙ (only-touches heir.only).head ∙ below.head;
    shrinks = upper-path;
  }

-- ---- from the leaf upward: the path's last place, and from place i to place i - 1

pub along-leaf : (w w' ps ss : List ℕ) (i : ℕ) (r : Option lent.Entry) → suc i ≡ length ps → TakesOut (get_or ps i 0) (get_or ss i 0) w w' r → RemovesBelow w (drop i ps) (drop i ss) w' r
along-leaf w w' ps ss i r last takes =
    removes-leaf w w' (drop i ps) (drop i ss) r (simp length-drop (omega arith)) (rw (first-from ps i 0, first-from ss i 0) takes)

pub along-upper : (w w₁ w₂ w₃ ps ss : List ℕ) (i : ℕ) (r₁ r₂ : Option lent.Entry) → 0 < i → i < length ps → RemovesBelow w (drop i ps) (drop i ss) w₁ r₁
    → Inherits (get_or ps (i - 1) 0) (get_or ss (i - 1) 0) r₁ w₁ w₂ r₂ → Mends (get_or ps (i - 1) 0) (get_or ss (i - 1) 0) w₂ w₃ → RemovesBelow w (drop (i - 1) ps) (drop (i - 1) ss) w₃ r₂
along-upper w w₁ w₂ w₃ ps ss i r₁ r₂ some b below heir mends =
    removes-upper w w₁ w₂ w₃ (drop (i - 1) ps) (drop (i - 1) ss) r₁ r₂ (simp length-drop (omega arith)) (rw (behind-from ps i some, behind-from ss i some) below)
    (rw (first-from ps (i - 1) 0, first-from ss (i - 1) 0) heir) (rw (first-from ps (i - 1) 0, first-from ss (i - 1) 0) mends)
