-- The path of a gap as it is lent: its front, what stands from a place on, and what is behind its first place. The
-- first page is the root's, and the rest is the path in the child.
-- Assumes nothing.
use mathlib.Core.Path.{◌≡◌, ap, ap₂, sym, ◌∙◌, refl}
use mathlib.Core.List.{List, ◌∷◌, [], ◌++◌, map, append-nil, map-append}
use Prim.Native.Nat.{ℕ, zero, suc, ◌+◌, ◌-◌, ◌≤◌, ◌<◌}
use native.Mathlib.Omega.{arith}
use lib.ListN.{length, take, drop, get_or, length-drop, length-map, set, take-append-drop}
use lib.Seq.{take_all, drop-length, take-length, drop-drop, get_or-drop, map-set}
use Rattle.model.specs.Tree.{Tree}
use Rattle.model.specs.Standing.{page_number}
use Rattle.model.specs.Gap.{slot_at, rest_at, child_at}
use Rattle.model.specs.Path.{gap_pages, gap_slots}
use Rattle.page.specs.Runs.{part, with_run}
use Rattle.lend.specs.Pages.{most, Inside}
use Rattle.tree.specs.declared.steps.Spot.{Spot}
use Rattle.tree.specs.Sits.{PathIn, PathOf, pages_of, slots_of}
use Rattle.model.proofs.Basics.{all-at, all_drop}
use Rattle.std.proofs.lemmas.List.{get_or-map, take-map, drop-map}

module _ {A : Type 0} where
  -- from place i on, as it is lent
  abbrev pub from : ℕ → List A → List A
  from i l = part i (length l - i) l

  -- with ys from place i on, as it comes back
  abbrev pub from_back : ℕ → List A → List A → List A
  from_back i l ys = with_run i (length l - i) ys l

  pub from-drop : (i : ℕ) (l : List A) → from i l ≡ drop i l
  from-drop i l = take_all (length l - i) (drop i l) (simp length-drop (omega arith))

  pub from_back_lem : (i : ℕ) (l ys : List A) → from_back i l ys ≡ take i l ++ ys
  from_back_lem i l ys =
      let k : length l - i ≡ length (drop i l) = simp length-drop (omega arith) in
      let e : drop (length l - i) (drop i l) ≡ [] = rw k (drop-length (drop i l)) in
      rw (e, append-nil)

  -- what comes back as it was leaves all as it was
  pub from-same : (i : ℕ) (l ys : List A) → ys ≡ drop i l → from_back i l ys ≡ l
  from-same i l ys e = from_back_lem i l ys ∙ ap (λ (r : List A). take i l ++ r) e ∙ take-append-drop i l

  -- without its first place
  abbrev pub behind : List A → List A
  behind l = from 1 l

  abbrev pub behind_back : List A → List A → List A
  behind_back l ys = from_back 1 l ys

  pub behind-is : (x : A) (l : List A) → behind (x ∷ l) ≡ l
  behind-is x l = let e : suc (length l) - 1 ≡ length l = omega arith in rw e (take-length l)

  pub behind-back : (x : A) (l ys : List A) → behind_back (x ∷ l) ys ≡ x ∷ ys
  behind-back x l ys = let e : suc (length l) - 1 ≡ length l = omega arith in rw (e, drop-length l, append-nil)

  -- from place i on is behind what is from place i - 1 on
  pub behind-next : (l : List A) (i : ℕ) → behind (drop i l) ≡ drop (suc i) l
  behind-next l i = let e : i + 1 ≡ suc i = omega arith in from-drop 1 (drop i l) ∙ drop-drop 1 i l ∙ ap (λ (k : ℕ). drop k l) e

  pub behind-from : (l : List A) (i : ℕ) → 0 < i → behind (drop (i - 1) l) ≡ drop i l
  behind-from l i some = let e : suc (i - 1) ≡ i = omega arith in behind-next l (i - 1) ∙ ap (λ (k : ℕ). drop k l) e

  pub first-from : (l : List A) (i : ℕ) (d : A) → get_or (drop i l) 0 d ≡ get_or l i d
  first-from l i d = let e : i + 0 ≡ i = omega arith in get_or-drop i l 0 d ∙ ap (λ (k : ℕ). get_or l k d) e

  pub no_length : (l : List A) → length l ≡ 0 → l ≡ []
  no_length [] e = refl
  no_length (x ∷ l) e = absurd (omega arith)

-- ---- the pages and the slots of a path, a spot a level

module _ {B : Type 0} (f : Spot → B) where
  from-map : (i : ℕ) (path : List Spot) → map f (from i path) ≡ from i (map f path)
  from-map i path = ap (map f) (from-drop i path) ∙ sym (drop-map f i path) ∙ sym (from-drop i (map f path))

  back-map : (i : ℕ) (path ys : List Spot) → map f (from_back i path ys) ≡ from_back i (map f path) (map f ys)
  back-map i path ys =
      ap (map f) (from_back_lem i path ys) ∙ map-append f (take i path) ys ∙ ap (λ (l : List B). l ++ map f ys) (sym (take-map f i path))
      ∙ sym (from_back_lem i (map f path) (map f ys))

pub pages-long : (path : List Spot) → length (pages_of path) ≡ length path
pages-long path = length-map path (λ (x : Spot). x.page)

pub slots-long : (path : List Spot) → length (slots_of path) ≡ length path
slots-long path = length-map path (λ (x : Spot). x.slot)

-- there are as many of both
pub path-even : (path : List Spot) → length (pages_of path) ≡ length (slots_of path)
path-even path = pages-long path ∙ sym (slots-long path)

pub page-of : (path : List Spot) (i : ℕ) (d : Spot) → i < length path → get_or (pages_of path) i 0 ≡ (get_or path i d).page
page-of path i d l = get_or-map (λ (x : Spot). x.page) path i d 0 l

pub slot-of : (path : List Spot) (i : ℕ) (d : Spot) → i < length path → get_or (slots_of path) i 0 ≡ (get_or path i d).slot
slot-of path i d l = get_or-map (λ (x : Spot). x.slot) path i d 0 l

pub pages-set : (path : List Spot) (i : ℕ) (x : Spot) → pages_of (set path i x) ≡ set (pages_of path) i x.page
pages-set path i x = map-set (λ (x : Spot). x.page) path i x

pub slots-set : (path : List Spot) (i : ℕ) (x : Spot) → slots_of (set path i x) ≡ set (slots_of path) i x.slot
slots-set path i x = map-set (λ (x : Spot). x.slot) path i x

pub pages-take : (i : ℕ) (path : List Spot) → pages_of (take i path) ≡ take i (pages_of path)
pages-take i path = sym (take-map (λ (x : Spot). x.page) i path)

pub slots-take : (i : ℕ) (path : List Spot) → slots_of (take i path) ≡ take i (slots_of path)
slots-take i path = sym (take-map (λ (x : Spot). x.slot) i path)

pub pages-drop : (i : ℕ) (path : List Spot) → pages_of (drop i path) ≡ drop i (pages_of path)
pages-drop i path = sym (drop-map (λ (x : Spot). x.page) i path)

pub slots-drop : (i : ℕ) (path : List Spot) → slots_of (drop i path) ≡ drop i (slots_of path)
slots-drop i path = sym (drop-map (λ (x : Spot). x.slot) i path)

-- from place i on, as it is lent and as it comes back
pub pages-from : (i : ℕ) (path : List Spot) → pages_of (from i path) ≡ from i (pages_of path)
pages-from i path = from-map (λ (x : Spot). x.page) i path

pub slots-from : (i : ℕ) (path : List Spot) → slots_of (from i path) ≡ from i (slots_of path)
slots-from i path = from-map (λ (x : Spot). x.slot) i path

-- which is its end
pub pages-rest : (i : ℕ) (path : List Spot) → pages_of (from i path) ≡ drop i (pages_of path)
pages-rest i path = pages-from i path ∙ from-drop i (pages_of path)

pub slots-rest : (i : ℕ) (path : List Spot) → slots_of (from i path) ≡ drop i (slots_of path)
slots-rest i path = slots-from i path ∙ from-drop i (slots_of path)

pub pages-back : (i : ℕ) (path ys : List Spot) → pages_of (from_back i path ys) ≡ from_back i (pages_of path) (pages_of ys)
pages-back i path ys = back-map (λ (x : Spot). x.page) i path ys

pub slots-back : (i : ℕ) (path ys : List Spot) → slots_of (from_back i path ys) ≡ from_back i (slots_of path) (slots_of ys)
slots-back i path ys = back-map (λ (x : Spot). x.slot) i path ys

-- a path is its pages and its slots
pub same-path : (a b : List Spot) → pages_of a ≡ pages_of b → slots_of a ≡ slots_of b → a ≡ b
same-path [] [] e f = refl
same-path [] (y ∷ b) e f = absurd (omega (arith, ap length e))
same-path (x ∷ a) [] e f = absurd (omega (arith, ap length e))
same-path (x ∷ a) (y ∷ b) e f =
    let page : x.page ≡ y.page = ap (λ (l : List ℕ). get_or l 0 0) e in
    let slot : x.slot ≡ y.slot = ap (λ (l : List ℕ). get_or l 0 0) f in
    let first : x ≡ y = ap₂ (λ (p s : ℕ). record { page = p; slot = s }) page slot in
    ap₂ (λ (z : Spot) (l : List Spot). z ∷ l) first (same-path a b (ap (drop 1) e) (ap (drop 1) f))

-- ---- pages inside the pool, and slots

module _ (w ps ss : List ℕ) (path : PathIn w ps ss) where
  pub path-at : (j : ℕ) → j < length ps → Inside (get_or ps j 0) w × (get_or ss j 0 ≤ most)
  path-at j b = (all-at (λ p. Inside p w) ps j 0 b path.inside, all-at (λ s. s ≤ most) ss j 0 (omega (arith, path.even)) path.slots)

  pub path-from : (i : ℕ) → PathIn w (from i ps) (from i ss)
  path-from i = rw (from-drop i ps, from-drop i ss) (record {
    even = simp length-drop (omega (arith, path.even));
    inside = all_drop (λ p. Inside p w) i ps path.inside;
    slots = all_drop (λ s. s ≤ most) i ss path.slots;
  })

pub path-rest : (w : List ℕ) (path : List Spot) → PathIn w (pages_of path) (slots_of path) → (i : ℕ) → PathIn w (pages_of (from i path)) (slots_of (from i path))
path-rest w path q i = rw (pages-from i path, slots-from i path) (path-from w (pages_of path) (slots_of path) q i)

pub spot-at : (w : List ℕ) (path : List Spot) → PathIn w (pages_of path) (slots_of path) → (i : ℕ) (d : Spot) → i < length path
    → Inside (get_or path i d).page w × ((get_or path i d).slot ≤ most)
spot-at w path inside i d b =
    rw (← page-of path i d b, ← slot-of path i d b) (path-at w (pages_of path) (slots_of path) inside i (omega (arith, pages-long path)))

-- ---- of a tree's gap

pub first-page : (h : ℕ) (t : Tree h) (g : ℕ) {ps : List ℕ} → 0 < h → ps ≡ gap_pages h t g → get_or ps 0 0 ≡ page_number h t
unfolding gap_pages
first-page zero t g l e = absurd (omega arith)
first-page (suc h) t g l e = ap (λ (ps : List ℕ). get_or ps 0 0) e

pub first_slot : (h : ℕ) (t : Tree (suc h)) (g : ℕ) {ss : List ℕ} → ss ≡ gap_slots (suc h) t g → get_or ss 0 0 ≡ slot_at h t g
unfolding gap_slots
first_slot h t g e = ap (λ (ss : List ℕ). get_or ss 0 0) e

pub path-behind : (h : ℕ) (t : Tree (suc h)) (g : ℕ) (ps ss : List ℕ) → PathOf (suc h) t g ps ss → PathOf h (child_at h t g) (rest_at h t g) (behind ps) (behind ss)
unfolding gap_pages gap_slots
path-behind h t g ps ss path = record { pages = from-drop 1 ps ∙ ap (drop 1) path.pages; slots = from-drop 1 ss ∙ ap (drop 1) path.slots }
