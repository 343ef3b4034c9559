-- A step at one page: the rest of the path goes down from one of its children, over one of its own entries. And a step
-- along a path, from the leaf upward: the first page that has an entry there answers for all above it.
-- Assumes nothing.
use mathlib.Core.Path.{◌≡◌, refl, sym, ap, subst, ◌∙◌}
use mathlib.Core.Bool.{true, false}
use mathlib.Core.Logic.{◌≢◌}
use mathlib.Core.Option.{Option, none}
use mathlib.Core.List.{List, [], ◌∷◌, ◌++◌}
use Prim.Native.Nat.{ℕ, zero, suc, ◌+◌, ◌-◌, ◌≤◌, ◌<◌}
use native.Mathlib.Numerals.{add-one}
use native.Mathlib.Omega.{arith}
use lib.Dec.{ltb}
use lib.ListN.{length, get_or, set, take, drop, length-drop}
use lib.Seq.{drop-cons}
use borrow.Author.Tests.{lt-ltb, le-ltb}
use Rattle.std.specs.Prelude.{Some, None, Result, Ok, Err, ⊤}
use Rattle.model.specs.Tree.{Entry, Tree, no_entry, entry, entries, size, Rising}
use Rattle.model.specs.Page.{entry_in}
use Rattle.model.specs.Standing.{page_number}
use Rattle.model.specs.Entries.{next, prev, forth, back}
use Rattle.model.specs.Gap.{slot_at, rest_at, child, child_at}
use Rattle.model.specs.Path.{gap_pages, seek_pages, seek_slots}
use Rattle.page.specs.declared.Unsound.{Unsound}
use Rattle.page.specs.declared.Entry as page
use Rattle.page.specs.Page.{holds_at}
use Rattle.lend.specs.Pages.{least, most, page_in}
use Rattle.tree.specs.declared.search.Aim.{Aim}
use Rattle.tree.specs.declared.search.Aim.TheVariants.{Start, End}
use Rattle.tree.specs.declared.steps.Spot.{Spot}
use Rattle.tree.specs.Sits.{PathIn, Sits, pages_of, slots_of}
use Rattle.tree.specs.Search.{aimed, unsound, below_of, SeeksBelow}
use Rattle.tree.specs.Steps.{spot, Step, given, Steps, Turns, Overs, Forth, Back}
use Rattle.model.proofs.Cases.{either, either_lt, contrary, never}
use Rattle.model.proofs.Search.{path-long}
use Rattle.page.proofs.Pages.{holds-facts, holds_at_lem}
use Rattle.lend.proofs.Lent.{own_at}
use Rattle.tree.proofs.Saying.{root-count}
use Rattle.tree.proofs.Sitting.{sits-own, sits-most, sits-child, sits-below, sits-rest}
use Rattle.tree.proofs.Paths.{pages-long, slots-long, slot-of, pages-drop, slots-drop, pages-rest, slots-rest, pages-back, slots-back, same-path, path-at, path-rest, behind, behind_back, behind-is, behind-back, from, from_back, from_back_lem, from-same}
use Rattle.tree.proofs.Stepping.{rising-child, Way, Seam, forward, forward-seam, backward, backward-seam, backward-start, step-still, step-below, step_end, step-over}

-- ---- the child that is followed

module _ (w : List ℕ) (p at : ℕ) (aim : Aim) where
  -- below a leaf there is no path
  pub turn-leaf : (path : List Spot) → length path ≡ 0 → Turns w p at aim (pages_of path) (slots_of path) (pages_of path) (slots_of path) (Ok tt)
  unfolding seek_pages seek_slots
  turn-leaf (x ∷ path) z = absurd (omega arith)
  turn-leaf [] z = record {
    pages = refl;
    slots = refl;
    inside = λ _. record { even = refl; inside = tt; slots = tt };
    exact = λ low h t l _ _ _. none h t l;
  }
    where
      none : (h : ℕ) (t : Tree h) → 0 ≡ h → (◌≡◌ {A = Result ⊤ Unsound} (Ok tt) (Ok tt)) × ([] ≡ seek_pages (aimed aim) h t) × ([] ≡ seek_slots (aimed aim) h t)
      none zero t l = (refl, refl, refl)
      none (suc h) t l = absurd (omega arith)

  pub turn-sought : {c : ℕ} {r : Result ⊤ Unsound} (path path' : List Spot) → (length path ≡ 0 → ⊥) → below_of w p at ≡ Ok c
      → SeeksBelow w c aim (pages_of path) (slots_of path) (pages_of path') (slots_of path') r
      → Turns w p at aim (pages_of path) (slots_of path) (pages_of path') (slots_of path') r
  turn-sought {c} {r} path path' n e s = record {
    pages = s.pages;
    slots = s.slots;
    inside = s.inside;
    exact = λ low h t l u up f. down low h t (sym (pages-long path) ∙ l) u up f;
  }
    where
      down : (low h : ℕ) (t : Tree h) → length path ≡ h → Sits w low h t → Rising (entries h t) → (0 < h → below_of w p at ≡ Ok (page_number h t))
          → (r ≡ Ok tt) × (pages_of path' ≡ seek_pages (aimed aim) h t) × (slots_of path' ≡ seek_slots (aimed aim) h t)
      down low zero t l u up f = absurd (n l)
      down low (suc h) t l u up f =
          let b = f (omega arith) in
          let i : t.page ≡ c = cc in
          let k = pages-long path ∙ l in
          (s.sound low h t k u up i, s.pages-are low h t k u up i, s.slots-are low h t k u up i)

-- ---- over an entry of the page

-- what the page's words say of its slots
pub holds-own : (w : List ℕ) (low h : ℕ) (t : Tree (suc h)) (i : ℕ) → Sits w low (suc h) t → holds_at most (page_in w t.page) i 0 ≡ ltb i (length t.own)
holds-own w low h t i u =
    let page = page_in w t.page in
    let n = root-count w h t u.stands in
    either_lt i (length t.own)
    (λ l. holds_at_lem most page i 0 (omega (arith, sits-most w low h t u)) (omega arith) (omega arith) ∙ sym (lt-ltb i (length t.own) l))
    (λ l. rw (le-ltb i (length t.own) l) (either (holds_at most page i 0) (λ y. let f = holds-facts most page i 0 y in absurd (omega arith)) (λ no. no)))

-- the answer, by whether the rest of the path was found
abbrev pub over_by : Result ⊤ Unsound → page.Entry → Step
over_by (Ok u) e = Ok (Some e)
over_by (Err x) e = Err x

-- the path's first page, and the path with its first slot at child i
abbrev pub first : List Spot → ℕ
first path = (get_or path 0 (spot 0 0)).page

abbrev pub turned : ℕ → List Spot → List Spot
turned i path = set path 0 (spot (first path) i)

module _ (w : List ℕ) (s i : ℕ) (aim : Aim) where
  pub over-end : (path : List Spot) → 1 ≤ length path → holds_at most (page_in w (first path)) s 0 ≡ false
      → Overs w s i aim (pages_of path) (slots_of path) (pages_of path) (slots_of path) (Ok None)
  over-end [] some n = absurd (omega arith)
  over-end (x ∷ path) some n = record {
    pages = refl;
    slots = refl;
    inside = λ x e. never (cc);
    still = λ _. (refl, refl);
    none = λ low h t u p l. refl;
    over = λ low h t _ u _ p l _. contrary (ap (λ (q : ℕ). holds_at most (page_in w q) s 0) p ∙ holds-own w low h t s u ∙ lt-ltb s (length t.own) l) n;
  }

  pub over-on : {b : Result ⊤ Unsound} {x : page.Entry} (path path' : List Spot) → 1 ≤ length path → PathIn w (pages_of path) (slots_of path) → i ≤ suc s
      → holds_at most (page_in w (first path)) s 0 ≡ true → entry x.key x.value ≡ entry_in most (page_in w (first path)) s
      → Turns w (first path) i aim (pages_of (behind (turned i path))) (slots_of (behind (turned i path))) (pages_of path') (slots_of path') b
      → Overs w s i aim (pages_of path) (slots_of path) (pages_of (behind_back (turned i path) path')) (slots_of (behind_back (turned i path) path')) (over_by b x)
  over-on [] path' l q f y e c = absurd (omega arith)
  over-on {b} {x} (x₀ ∷ path) path' l q f y e c =
      subst (λ (l : List Spot). Overs w s i aim (pages_of (x₀ ∷ path)) (slots_of (x₀ ∷ path)) (pages_of l) (slots_of l) (over_by b x))
      (sym (behind-back (spot x₀.page i) path path')) (record {
        pages = ap suc c'.pages;
        slots = ap suc c'.slots;
        inside = λ z. inside b z c'.inside;
        still = λ z. absurd (no_end b z);
        none = λ low h t u z n.
            contrary y (ap (λ (q : ℕ). holds_at most (page_in w q) s 0) z ∙ holds-own w low h t s u ∙ le-ltb s (length t.own) n);
        over = λ low h t z u up g n m. on low h t z u up g n m;
      })
    where
      c' : Turns w x₀.page i aim (pages_of path) (slots_of path) (pages_of path') (slots_of path') b
      c' = rw (behind-is (spot x₀.page i) path) at c

      no_end : (b : Result ⊤ Unsound) → over_by b x ≡ Ok None → ⊥
      no_end (Ok u) z = never (cc)
      no_end (Err y) z = never (cc)

      inside : (b : Result ⊤ Unsound) (z : page.Entry) → (b ≡ Ok tt → PathIn w (pages_of path') (slots_of path')) → over_by b x ≡ Ok (Some z) → PathIn w (x₀.page ∷ pages_of path') (i ∷ slots_of path')
      inside (Err y) z g q = never (cc)
      inside (Ok u) z g q' =
          let r = g refl in
          let h = holds-facts most (page_in w x₀.page) s 0 y in
          record { even = ap suc r.even; inside = (q.inside.0, r.inside); slots = (omega arith, r.slots) }

      on : (low h : ℕ) (t : Tree (suc h)) → suc (length (pages_of path)) ≡ suc h → Sits w low (suc h) t → Rising (entries (suc h) t) → x₀.page ≡ t.page
          → s < length t.own → i ≤ length t.own
          → (over_by b x ≡ Ok (Some (given (get_or t.own s no_entry))))
          × (x₀.page ∷ pages_of path' ≡ t.page ∷ seek_pages (aimed aim) h (child h t i)) × (i ∷ slots_of path' ≡ i ∷ seek_slots (aimed aim) h (child h t i))
      on low h t z u up g n m =
          let r = c'.exact least h (child h t i) (omega arith) (sits-child w low h t u i m) (rising-child w low h t i u up m)
          (λ a. rw g (sits-below w low h t u a i m)) in
          let is : entry x.key x.value ≡ get_or t.own s no_entry =
          e ∙ ap (λ (q : ℕ). entry_in most (page_in w q) s) g ∙ own_at (page_in w t.page) s (omega (arith, root-count w h t u.stands))
          ∙ ap (λ (l : List Entry). get_or l s no_entry) (sits-own w low h t u) in
          rw (r.0, r.1, r.2, g) (ap (λ (y : Entry). Ok (Some (given y))) is, refl, refl)

-- ---- a step along the path, from the leaf upward

pub some-other : (e : page.Entry) → ◌≡◌ {A = Step} (Ok (Some e)) (Ok None) → ⊥
some-other e z = never (cc)

pub unsound-other : ◌≡◌ {A = Step} (Err unsound) (Ok None) → ⊥
unsound-other z = never (cc)

-- the path is still as it was, and what hangs under its first i pages is at its end
pub record Along (over : ℕ → List Entry → Option Entry) (to : Option Entry → ℕ → ℕ) (w : List ℕ) (path₀ path : List Spot) (i : ℕ) : Type 0 where
  pub within : i ≤ length path₀
  pub same : path ≡ path₀
  pub ended : Steps over to w (drop i (pages_of path₀)) (drop i (slots_of path₀)) (drop i (pages_of path₀)) (drop i (slots_of path₀)) (Ok None)

module _ (over : ℕ → List Entry → Option Entry) (to : Option Entry → ℕ → ℕ) (way : Way over to) (w : List ℕ) where
  -- a path of no pages
  page-none : (ps ss : List ℕ) → length ps ≡ 0 → Steps over to w ps ss ps ss (Ok None)
  unfolding entries
  page-none ps ss z = step-still over to way w (λ low h t g u up b a. last h t g a.pages)
    where
      last : (h : ℕ) (t : Tree h) (g : ℕ) → ps ≡ gap_pages h t g → over g (entries h t) ≡ none
      last zero t g a = way.void g
      last (suc h) t g a = absurd (omega (arith, ap length a, (path-long (suc h) t g).0))

  -- what a page answers, other than that it is at its end, all pages above it answer
  page-below : (i : ℕ) {ps' ss' : List ℕ} {r : Step} (ps ss : List ℕ) → i ≤ length ps → PathIn w ps ss → (r ≡ Ok None → ⊥)
      → Steps over to w (drop i ps) (drop i ss) ps' ss' r → Steps over to w ps ss (take i ps ++ ps') (take i ss ++ ss') r
  page-below zero ps ss l q n c = c
  page-below (suc i) [] ss l q n c = absurd (omega arith)
  page-below (suc i) (p ∷ ps) [] l q n c = absurd (omega (arith, q.even))
  page-below (suc i) (p ∷ ps) (s ∷ ss) l q n c =
      let e = q.even in
      step-below over to way w q n (page-below i ps ss (omega arith) (record { even = omega arith; inside = q.inside.1; slots = q.slots.1 }) n c)

-- the loop begins behind the leaf
pub along-start : {over : ℕ → List Entry → Option Entry} {to : Option Entry → ℕ → ℕ} → Way over to → (w : List ℕ) (path : List Spot)
    → Along over to w path path (length path)
along-start {over} {to} way w path =
    let i = length path in
    record {
      within = omega arith;
      same = refl;
      ended = page-none over to way w (drop i (pages_of path)) (drop i (slots_of path)) (simp length-drop (omega (arith, pages-long path)));
    }

-- the slot of the page before place j, as code reads it
abbrev slot-here : List Spot → ℕ → ℕ
slot-here path j = (get_or path (j - 1) (spot 0 0)).slot

-- a turn of the loop, at that page
module _ {over : ℕ → List Entry → Option Entry} {to : Option Entry → ℕ → ℕ} {w : List ℕ} {path₀ path : List Spot} {j : ℕ} (way : Way over to)
    (q : PathIn w (pages_of path₀) (slots_of path₀)) (a : Along over to w path₀ path j) (some : 0 < j) where
  abbrev ps : List ℕ
  ps = pages_of path₀

  abbrev ss : List ℕ
  ss = slots_of path₀

  ended : Steps over to w (drop (suc (j - 1)) ps) (drop (suc (j - 1)) ss) (drop (suc (j - 1)) ps) (drop (suc (j - 1)) ss) (Ok None)
  ended = let n : j ≡ suc (j - 1) = omega arith in rw n at a.ended

  page-at : drop (j - 1) ps ≡ get_or ps (j - 1) 0 ∷ drop (suc (j - 1)) ps
  page-at = drop-cons ps (j - 1) 0 (omega (arith, a.within, pages-long path₀))

  slot-at : drop (j - 1) ss ≡ get_or ss (j - 1) 0 ∷ drop (suc (j - 1)) ss
  slot-at = drop-cons ss (j - 1) 0 (omega (arith, a.within, slots-long path₀))

  -- its slot is the path's
  slot-read : slot-here path j ≡ get_or ss (j - 1) 0
  slot-read =
      ap (λ (l : List Spot). (get_or l (j - 1) (spot 0 0)).slot) a.same ∙ sym (slot-of path₀ (j - 1) (spot 0 0) (omega (arith, a.within)))

  pub along-slot : slot-here path j ≤ most
  along-slot = omega (arith, (path-at w ps ss q (j - 1) (omega (arith, a.within, pages-long path₀))).1, slot-read)

  pub along-path : PathIn w (pages_of (from (j - 1) path)) (slots_of (from (j - 1) path))
  along-path = rw a.same (path-rest w path₀ q (j - 1))

  along-over : {s x : ℕ} {aim : Aim} {ps' ss' : List ℕ} {r : Step}
      → ((low h : ℕ) (t : Tree (suc h)) (g : ℕ) → Sits w low (suc h) t → g ≤ size (suc h) t → slot-here path j ≡ slot_at h t g
      → over (rest_at h t g) (entries h (child_at h t g)) ≡ none → Seam over to aim s x h t g)
      → Overs w s x aim (pages_of (from (j - 1) path)) (slots_of (from (j - 1) path)) ps' ss' r → Steps over to w (drop (j - 1) ps) (drop (j - 1) ss) ps' ss' r
  along-over {s} {x} {aim} {ps'} {ss'} {r} seam o =
      let o₁ : Overs w s x aim (drop (j - 1) ps) (drop (j - 1) ss) ps' ss' r = rw (pages-rest (j - 1) path, slots-rest (j - 1) path, a.same) at o in
      rw (page-at, slot-at) (step-over over to way w ended (λ low h t g u b z. seam low h t g u b (slot-read ∙ z)) (rw (page-at, slot-at) at o₁))

  -- the page is at its end too
  pub along-end : {r : Step} (path' : List Spot) → r ≡ Ok None → Steps over to w (drop (j - 1) ps) (drop (j - 1) ss) (pages_of path') (slots_of path') r
      → Along over to w path₀ (from_back (j - 1) path path') (j - 1)
  along-end path' is c =
      let k = c.still is in
      let l = drop (j - 1) path₀ in
      record {
        within = omega (arith, a.within);
        same = rw a.same (from-same (j - 1) path₀ path' (same-path path' l (k.0 ∙ sym (pages-drop (j - 1) path₀)) (k.1 ∙ sym (slots-drop (j - 1) path₀))));
        ended = rw (k.0, k.1, is) at c;
      }

  -- the same where the page has no entry to look at
  along-still : ((low h : ℕ) (t : Tree (suc h)) (g : ℕ) → Sits w low (suc h) t → g ≤ size (suc h) t → slot-here path j ≡ slot_at h t g
      → over (rest_at h t g) (entries h (child_at h t g)) ≡ none → over g (entries (suc h) t) ≡ none)
      → Along over to w path₀ path (j - 1)
  along-still seam = record {
    within = omega (arith, a.within);
    same = a.same;
    ended = rw (page-at, slot-at) (step_end over to way w ended (λ low h t g u b z. seam low h t g u b (slot-read ∙ z)));
  }

  -- or it answers for the whole path
  pub along-answer : {r x : Step} (path' : List Spot) → r ≡ x → (x ≡ Ok None → ⊥)
      → Steps over to w (drop (j - 1) ps) (drop (j - 1) ss) (pages_of path') (slots_of path') r
      → Steps over to w ps ss (pages_of (from_back (j - 1) path path')) (slots_of (from_back (j - 1) path path')) x
  along-answer path' is m c =
      rw (a.same, pages-back (j - 1) path₀ path', slots-back (j - 1) path₀ path', from_back_lem (j - 1) ps (pages_of path'), from_back_lem (j - 1) ss (slots_of path'))
      (page-below over to way w (j - 1) ps ss (omega (arith, a.within, pages-long path₀)) q m (rw is at c))

module _ {w : List ℕ} {path₀ path : List Spot} {j : ℕ} (q : PathIn w (pages_of path₀) (slots_of path₀)) where
  pub along-next : {ps' ss' : List ℕ} {r : Step} → Along next forth w path₀ path j → 0 < j
      → Overs w (slot-here path j) (slot-here path j + 1) Start (pages_of (from (j - 1) path)) (slots_of (from (j - 1) path)) ps' ss' r
      → Forth w (drop (j - 1) (pages_of path₀)) (drop (j - 1) (slots_of path₀)) ps' ss' r
  along-next a some o =
      along-over forward q a some
      (λ low h t g u b z x. rw (add-one, z) (forward-seam least low h t g u.shaped b (sits-rest w low h t u g b) x)) o

  pub along-prev : {ps' ss' : List ℕ} {r : Step} → Along prev back w path₀ path j → 0 < j → slot-here path j ≢ 0
      → Overs w (slot-here path j - 1) (slot-here path j - 1) End (pages_of (from (j - 1) path)) (slots_of (from (j - 1) path)) ps' ss' r
      → Back w (drop (j - 1) (pages_of path₀)) (drop (j - 1) (slots_of path₀)) ps' ss' r
  along-prev a some m o =
      along-over backward q a some
      (λ low h t g u b z x. backward-seam least low h t g (slot-here path j - 1) u.shaped b (sits-rest w low h t u g b) x (omega arith)) o

  -- before the first child's first gap there is nothing
  pub along-first : Along prev back w path₀ path j → 0 < j → slot-here path j ≡ 0 → Along prev back w path₀ path (j - 1)
  along-first a some z =
      along-still backward q a some
      (λ low h t g u b e x. backward-start least low h t g u.shaped b (sits-rest w low h t u g b) x (sym e ∙ z))
