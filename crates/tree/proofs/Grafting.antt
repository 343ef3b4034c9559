-- The three ways of one page on an insertion's path: its child stayed whole; it split and there is room for what it
-- handed up; it split and the page is full, so that it splits too, onto the next fresh page. And so of a whole path.
-- Assumes nothing.
use mathlib.Core.Path.{◌≡◌, refl, sym, ap, subst, ◌∙◌}
use mathlib.Core.Logic.{◌≢◌}
use mathlib.Core.List.{List, [], ◌∷◌, map}
use Prim.Native.Nat.{ℕ, zero, suc, ◌+◌, ◌-◌, ◌≤◌, ◌<◌, pred}
use native.Mathlib.Omega.{arith}
use lib.ListN.{length, drop, get_or, length-drop}
use borrow.Author.Tests.{le-leb, lt-leb}
use Rattle.std.specs.Prelude.{Option, Some, None}
use Rattle.model.specs.Basics.{ins, sum, All, same}
use Rattle.model.specs.Sums.{sum_to}
use Rattle.model.specs.Layout.{pages_in, today}
use Rattle.model.specs.PageMap.{bit_at}
use Rattle.model.specs.Tree.{Entry, Node, Tree, no_entry, no_tree, size, times}
use Rattle.model.specs.Page.{count_of, height_of, entries_of, children_of}
use Rattle.model.specs.Standing.{page_number, Standing}
use Rattle.model.specs.Gap.{slot_at, rest_at, child_at}
use Rattle.model.specs.Insert.{Up, whole, split, cut_left, cut_right, fit, grown, with_child, put, insert_at, run}
use Rattle.pagemap.specs.Bits.{set_bit}
use Rattle.pagemap.specs.Lowest.{lowest_of}
use Rattle.lend.specs.Pages.{least, most, keeps, page_in, map_in}
use Rattle.lend.specs.Touches.{Sized, Touches}
use Rattle.tree.specs.declared.insert.Up as lent
use Rattle.tree.specs.Sits.{PathOf, Sits}
use Rattle.tree.specs.Insert.{hands_up, frees_in, fresh_in, fuller, Fits, Parts, Puts, Marked, up_of, UpStands, grown_pages, Grows, InsertsBelow}
use Rattle.model.proofs.Cases.{either_lt, same_self, same-zero, never}
use Rattle.model.proofs.Basics.{length-ins, all_take, all_drop, splice-same, splice-more}
use Rattle.model.proofs.Sums.{sum-splice}
use Rattle.model.proofs.Search.{path-long}
use Rattle.model.proofs.Insert.{Used, insert_at-used, insert_at-times, up_left, insert_at-root}
use Rattle.model.proofs.Standing.{all-standing}
use Rattle.pagemap.proofs.Taking.{take-counts, lowest-kth}
use Rattle.lend.proofs.Touching.{touches_none, only-touches, only-map, map-bits}
use Rattle.tree.proofs.Saying.{Says, says_holds, says-left, says-right, root-count}
use Rattle.tree.proofs.Sitting.{sits-some, sits-most, sits-slot}
use Rattle.tree.proofs.Paths.{behind, first-page, first_slot, path-behind, behind-next, behind-from, first-from}
use Rattle.tree.proofs.Growing.{taking, up_below, run_below, grown_below, run-ended, run_ends, run-goes, grown-page, grown-child, grown-next, Ready, once, once-below, inside, child-ready, page-kept, others-stand}
use Rattle.page.specs.Page.{plain}

-- what an insertion leaves, once it is known what it hands up
grows-by : (w : List ℕ) (h : ℕ) (t : Tree h) (g : ℕ) (e : Entry) (w' : List ℕ) (r : Option lent.Up) (o : Up (Tree h)) → insert_at least (fresh_in w) h t g e ≡ o
    → r ≡ up_of h o → UpStands w' h o → ((q : ℕ) → bit_at (map_in w') q ≡ bit_at (map_in w) q + taking w q (run least h t g)) → Touches (grown_pages w h t g) w w'
    → Grows w h t g e w' r
grows-by w h t g e w' r o is handed stands bits touches = record { handed = rw is handed; stands = rw is stands; bits = bits; touches = touches }

-- the child's pages changed, and then the page itself; or it and the next fresh page
module _ {w w₁ w₂ : List ℕ} (h : ℕ) (t : Tree (suc h)) (g : ℕ) (c : Touches (grown_below w h t g) w w₁) where
  touches-page : Touches (t.page ∷ []) w₁ w₂ → Touches (grown_pages w (suc h) t g) w w₂
  touches-page d = record {
    long = d.long ∙ c.long;
    head = d.head ∙ c.head;
    others = λ p away. d.others p (grown-page w h t g p away, tt) ∙ c.others p (grown-child w h t g p away);
  }

  touches-both : run least (suc h) t g ≡ suc h → Touches (t.page ∷ fresh_in w h ∷ []) w₁ w₂ → Touches (grown_pages w (suc h) t g) w w₂
  touches-both k d = record {
    long = d.long ∙ c.long;
    head = d.head ∙ c.head;
    others = λ p away. d.others p (grown-page w h t g p away, (grown-next w h t g p away k, tt)) ∙ c.others p (grown-child w h t g p away);
  }

module _ {w : List ℕ} {low h : ℕ} {t : Tree (suc h)} {g : ℕ} (a : Ready w low (suc h) t g) (z : Sized w) (e : Entry) where
  used : Used h (up_below w h t g e) (run_below h t g)
  used = insert_at-used least (fresh_in w) least h (child_at h t g) (rest_at h t g) e (child-ready a).sits.shaped (child-ready a).within

  number : page_number h (up_left (up_below w h t g e)) ≡ page_number h (child_at h t g)
  number = ap pred (insert_at-root least (fresh_in w) h (child_at h t g) (rest_at h t g) e)

  -- ---- the child stayed whole

  module _ (w₁ : List ℕ) (G : Grows w h (child_at h t g) (rest_at h t g) e w₁ None) where
    whole-grows : (c : Tree h) → up_below w h t g e ≡ whole c → Grows w (suc h) t g e w₁ None
    unfolding insert_at put Standing
    whole-grows c is =
        let i = slot_at h t g in
        let k = run-ended h t g (rw is at used) in
        let kept = page-kept a w₁ G.touches in
        let stood = a.sits.stands.0 in
        grows-by w (suc h) t g e w₁ None (whole (with_child t i c)) (rw is) refl (
          record {
            height = ap height_of kept ∙ stood.height;
            own = ap (entries_of most) kept ∙ stood.own;
            children = λ tall. ap (children_of most) kept ∙ stood.children tall ∙ splice-same (page_number h) t.children i c (no_tree h) (inside a) (rw is at number);
          },
          others-stand a w₁ G.touches (c ∷ []) (rw is at G.stands, tt),
        )
        (λ q. rw k (G.bits q))
        (touches-page h t g G.touches (touches_none (t.page ∷ []) refl))

    pub grows-whole : Grows w (suc h) t g e w₁ None
    grows-whole = go (up_below w h t g e) refl
      where
        go : (o : Up (Tree h)) → up_below w h t g e ≡ o → Grows w (suc h) t g e w₁ None
        go (whole c) is = whole-grows c is
        go (split l x r) is = let other : None ≡ up_of h (split l x r) = rw is at G.handed in never (cc)

  -- ---- the child split

  module _ (w₁ w₂ : List ℕ) {r₁ : Option lent.Up} (G : Grows w h (child_at h t g) (rest_at h t g) e w₁ r₁) (l : Tree h) (x : Entry) (r : Tree h)
      (is : up_below w h t g e ≡ split l x r) where
    -- all below have split
    run_is : run_below h t g ≡ h
    run_is = rw is at used

    -- the page with one entry more: by the tree, and by its words
    abbrev wide : Tree (suc h)
    wide = grown t (slot_at h t g) l x r

    abbrev words : Node ℕ
    words = fuller w₁ t.page (slot_at h t g) x (page_number h r)

    words-say : Says h (page_number h) words wide
    unfolding Standing
    words-say =
        let i = slot_at h t g in
        let kept = page-kept a w₁ G.touches in
        let stood = a.sits.stands.0 in
        record {
          own = ap (λ (es : List Entry). ins i x es) (ap (entries_of most) kept ∙ stood.own);
          children = λ tall. ap (λ (cs : List ℕ). ins (suc i) (page_number h r) cs) (ap (children_of most) kept ∙ stood.children tall)
              ∙ splice-more (page_number h) t.children i l r (no_tree h) (inside a) (rw is at number);
        }

    words_long : length wide.own ≡ suc (length t.own)
    words_long = length-ins (slot_at h t g) x t.own (sits-slot w low h t a.sits g a.within)

    height-is : height_of (page_in w₁ t.page) ≡ h
    unfolding Standing
    height-is = ap height_of (page-kept a w₁ G.touches) ∙ a.sits.stands.0.height

    -- its children stand, and their pages are those before and the fresh ones
    children-stand : All (Standing least (page_in w₁) h) wide.children
    children-stand = let halves = rw is at G.stands in others-stand a w₁ G.touches (l ∷ r ∷ []) (halves.0, (halves.1, tt))

    children-met : (q : ℕ) → sum (times q h) wide.children ≡ sum (times q h) t.children + taking w q (run_below h t g)
    children-met q =
        let c = insert_at-times least (fresh_in w) q least h (child_at h t g) (rest_at h t g) e (child-ready a).sits.shaped (child-ready a).within in
        omega (arith, rw is at c, sum-splice (times q h) (slot_at h t g) (l ∷ r ∷ []) t.children (no_tree h) (inside a))

    -- ---- and there is room

    room-grows : (r₂ : Option lent.Up) → length t.own < most → Fits t.page (slot_at h t g) x (page_number h r) w₁ w₂ r₂ → Grows w (suc h) t g e w₂ r₂
    unfolding insert_at put fit Standing
    room-grows r₂ few f =
        let k = run_ends h t g run_is few in
        grows-by w (suc h) t g e w₂ r₂ (whole wide) (rw (is, words_long, le-leb (suc (length t.own)) most few)) f.answer (
          says_holds h (page_number h) words-say (rw height-is at f.holds),
          all-standing least (page_in w₁) (page_in w₂) h wide.children
              (λ q some. sym (f.only.others q (same-zero q t.page (omega (arith, children-met q, once-below a q)), tt))) children-stand,
        )
        (λ q. ap (λ (map : List ℕ). bit_at map q) (only-map f.only) ∙ rw k (G.bits q))
        (touches-page h t g G.touches (only-touches f.only))

    -- ---- and there is none: the page takes the next of the free pages

    module _ (k : run least (suc h) t g ≡ suc h) where
      once_more : (q : ℕ) → same q t.page + sum (times q h) t.children + (taking w q h + same q (fresh_in w h)) ≤ 1
      unfolding times sum_to
      once_more q = rw k at (once a q)

      children-apart : (q : ℕ) → 0 < sum (times q h) wide.children → (q ≢ t.page) × (q ≢ fresh_in w h)
      children-apart q some =
          let met : sum (times q h) wide.children ≡ sum (times q h) t.children + taking w q h = rw run_is at (children-met q) in
          let o = once_more q in
          (same-zero q t.page (omega arith), same-zero q (fresh_in w h) (omega arith))

      page-apart : t.page ≢ fresh_in w h
      page-apart = same-zero t.page (fresh_in w h) (omega (arith, once_more t.page, same_self t.page))

      next-free : lowest_of (frees_in w₁) ≡ Some (fresh_in w h)
      next-free =
          let room = a.room in
          rw G.touches.long
          (lowest-kth (map_in w₁) (bit_at (map_in w)) (pages_in today (length w)) h (λ q. rw run_is at (G.bits q)) (omega arith))

      next-taken : map_in w₂ ≡ set_bit (map_in w₁) (fresh_in w h) → (q : ℕ) → bit_at (map_in w₂) q ≡ bit_at (map_in w) q + taking w q (run least (suc h) t g)
      unfolding sum_to
      next-taken map q =
          let long = G.touches.long in
          let taken = take-counts (map_in w₁) (λ p. bit_at (map_in w) p + taking w p h) (pages_in today (length w₁)) (fresh_in w h)
          (map-bits w₁ (omega arith)) (λ p. rw run_is at (G.bits p)) next-free in
          rw (map, k) (omega (arith, taken.2 q))

      full-grows : (r₂ : Option lent.Up) → length t.own ≡ most → Parts t.page (fresh_in w h) (slot_at h t g) x (page_number h r) w₁ w₂ r₂ → Grows w (suc h) t g e w₂ r₂
      unfolding insert_at put fit Standing
      full-grows r₂ full f =
          let q = fresh_in w h in
          let stand : All (Standing least (page_in w₂) h) wide.children =
          all-standing least (page_in w₁) (page_in w₂) h wide.children (λ p some. let d = children-apart p some in sym (f.touches.others p (d.0, (d.1, tt)))) children-stand in
          grows-by w (suc h) t g e w₂ r₂ (split (cut_left keeps wide) (get_or wide.own keeps no_entry) (cut_right q keeps wide))
          (rw (is, words_long, lt-leb (suc (length t.own)) most (omega arith)))
          (f.answer ∙ ap (λ (es : List Entry). hands_up (get_or es keeps no_entry) q) words-say.own) (
            (
              says_holds h (page_number h) (says-left h (page_number h) keeps words-say) (rw height-is at f.left),
              all_take (Standing least (page_in w₂) h) (suc keeps) wide.children stand,
            ),
            (
              says_holds h (page_number h) (says-right h (page_number h) q keeps words-say) (rw height-is at f.right),
              all_drop (Standing least (page_in w₂) h) (suc keeps) wide.children stand,
            ),
          )
          (next-taken f.map)
          (touches-both h t g G.touches k f.touches)

    split-grows : (r₂ : Option lent.Up) → Puts t.page (slot_at h t g) x (page_number h r) w₁ w₂ r₂ → Grows w (suc h) t g e w₂ r₂
    split-grows r₂ P =
        let count : count_of (page_in w₁ t.page) ≡ length t.own = ap count_of (page-kept a w₁ G.touches) ∙ root-count w h t a.sits.stands in
        let slot = sits-slot w low h t a.sits g a.within in
        let some = sits-some w low h t a.sits in
        let few = sits-most w low h t a.sits in
        either_lt (length t.own) most
        (λ less. room-grows r₂ less (P.fits (omega arith) (omega arith) (omega arith)))
        (λ full. let k = run-goes h t g run_is full in
        full-grows k r₂ (omega arith) (P.parts (fresh_in w h) (omega arith) (omega arith) (next-free k) (page-apart k)))

  pub grows-put : (w₁ w₂ : List ℕ) (u : lent.Up) (r₂ : Option lent.Up) → Grows w h (child_at h t g) (rest_at h t g) e w₁ (Some u)
      → Puts t.page (slot_at h t g) (plain u.entry) u.child w₁ w₂ r₂ → Grows w (suc h) t g e w₂ r₂
  grows-put w₁ w₂ u r₂ G P = go (up_below w h t g e) refl
    where
      go : (o : Up (Tree h)) → up_below w h t g e ≡ o → Grows w (suc h) t g e w₂ r₂
      go (whole c) is = let other : Some u ≡ up_of h (whole c) = rw is at G.handed in never (cc)
      go (split l x r) is =
          let handed : Some u ≡ up_of h (split l x r) = rw is at G.handed in
          let same : u ≡ record { entry = record { key = x.key; value = x.value }; child = page_number h r } = cc in
          split-grows w₁ w₂ G l x r is r₂ (subst (λ (y : lent.Up). Puts t.page (slot_at h t g) (plain y.entry) y.child w₁ w₂ r₂) same P)

-- ---- along a path

-- what a promise of `insert_along` says of each tree
abbrev GrowsOn : List ℕ → List ℕ → List ℕ → Entry → List ℕ → Option lent.Up → Type 0
GrowsOn w ps ss e w' r =
    (low h : ℕ) (t : Tree h) (g : ℕ) → Sits w low h t → g ≤ size h t → PathOf h t g ps ss → Marked w h t → run least h t g ≤ length (frees_in w) → Grows w h t g e w' r

-- no pages: the entry itself is handed up
pub below_none : (w ps ss : List ℕ) (e : Entry) → length ps ≡ 0 → InsertsBelow w ps ss e w (hands_up e 0)
unfolding insert_at run sum_to Standing
below_none w ps ss e none = record { long = refl; head = refl; grows = go }
  where
    go : GrowsOn w ps ss e w (hands_up e 0)
    go low zero t g s b path m room = record { handed = refl; stands = (tt, tt); bits = λ q. omega arith; touches = touches_none (grown_pages w 0 t g) refl }
    go low (suc h) t g s b path m room = absurd (omega (arith, ap length path.pages, (path-long (suc h) t g).0))

module _ (w ps ss : List ℕ) (e : Entry) (z : Sized w) (some : 1 ≤ length ps) where
  -- one page and the pages below it: `step` is the page's
  below_step : (w₁ w₂ : List ℕ) (r₁ r₂ : Option lent.Up) → GrowsOn w (behind ps) (behind ss) e w₁ r₁
      → ((low h : ℕ) (t : Tree (suc h)) (g : ℕ) → Ready w low (suc h) t g → PathOf (suc h) t g ps ss → Grows w h (child_at h t g) (rest_at h t g) e w₁ r₁ → Grows w (suc h) t g e w₂ r₂)
      → GrowsOn w ps ss e w₂ r₂
  below_step w₁ w₂ r₁ r₂ on step low zero t g s b path m room = absurd (omega (arith, ap length path.pages, (path-long 0 t g).0))
  below_step w₁ w₂ r₁ r₂ on step low (suc h) t g s b path m room =
      let a : Ready w low (suc h) t g = record { sits = s; within = b; marked = m; room = room } in
      let c = child-ready a in
      step low h t g a path (on least h (child_at h t g) (rest_at h t g) c.sits c.within (path-behind h t g ps ss path) c.marked c.room)

  below-whole : (w₁ : List ℕ) → InsertsBelow w (behind ps) (behind ss) e w₁ None → InsertsBelow w ps ss e w₁ None
  below-whole w₁ c = record {
    long = c.long;
    head = c.head;
    grows = below_step w₁ w₁ None None c.grows (λ low h t g a path G. grows-whole a z e w₁ G);
  }

  below_put : (w₁ w₂ : List ℕ) (u : lent.Up) (r : Option lent.Up) → InsertsBelow w (behind ps) (behind ss) e w₁ (Some u)
      → Puts (get_or ps 0 0) (get_or ss 0 0) (plain u.entry) u.child w₁ w₂ r → InsertsBelow w ps ss e w₂ r
  below_put w₁ w₂ u r c P = record {
    long = P.long ∙ c.long;
    head = P.head ∙ c.head;
    grows = below_step w₁ w₂ (Some u) r c.grows
        (λ low h t g a path G. grows-put a z e w₁ w₂ u r G (rw (first-page (suc h) t g (omega arith) path.pages, first_slot h t g path.slots) at P));
  }

-- ---- from the leaf upward: from place i of the path to place i - 1, and from any place to all of it where nothing is
-- handed up

module _ (w ps ss : List ℕ) (e : Entry) (z : Sized w) where
  pub along-put : (i : ℕ) → 0 < i → i ≤ length ps → (w₁ w₂ : List ℕ) (u : lent.Up) (r : Option lent.Up) → InsertsBelow w (drop i ps) (drop i ss) e w₁ (Some u)
      → Puts (get_or ps (i - 1) 0) (get_or ss (i - 1) 0) (plain u.entry) u.child w₁ w₂ r → InsertsBelow w (drop (i - 1) ps) (drop (i - 1) ss) e w₂ r
  along-put i some b w₁ w₂ u r c P =
      below_put w (drop (i - 1) ps) (drop (i - 1) ss) e z (simp length-drop (omega arith)) w₁ w₂ u r
      (rw (behind-from ps i some, behind-from ss i some) c) (rw (first-from ps (i - 1) 0, first-from ss (i - 1) 0) P)

  pub along-whole : (w₁ : List ℕ) (i : ℕ) → i ≤ length ps → InsertsBelow w (drop i ps) (drop i ss) e w₁ None → InsertsBelow w ps ss e w₁ None
  along-whole w₁ zero b c = c
  along-whole w₁ (suc i) b c =
      along-whole w₁ i (omega arith) (below-whole w (drop i ps) (drop i ss) e z (simp length-drop (omega arith)) w₁ (rw (behind-next ps i, behind-next ss i) c))
