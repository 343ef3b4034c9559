-- Search, page by page: what each answer of a page's tests says, and that on a tree that sits in the pool the page's
-- words answer as the tree's search goes.
-- One law for each way in which the search of a page ends.
-- Assumes nothing.
use mathlib.Core.Path.{◌≡◌, refl, sym, ap, subst, subst₂, ◌∙◌}
use mathlib.Core.Bool.{Bool, true, false, cond}
use mathlib.Core.Option as pure
use mathlib.Core.List.{List}
use Prim.Native.Nat.{ℕ, zero, suc, ◌+◌, ◌≤◌, ◌<◌}
use native.Mathlib.Omega.{arith}
use lib.Dec.{ltb, eqb}
use lib.ListN.{length, get_or}
use Rattle.std.specs.Prelude.{Option, Some, None, Result, Ok, Err, IsErr}
use borrow.Author.Tests.{le-leb, lt-leb, lt-ltb, le-ltb, eq-eqb, leb-true}
use Rattle.model.specs.Basics.{every}
use Rattle.model.specs.Layout.{pages_in, today}
use Rattle.model.specs.Tree.{Entry, Tree, no_entry}
use Rattle.model.specs.Page.{count_of, height_of, entry_in, child_in, entries_of}
use Rattle.model.specs.Standing.{page_number}
use Rattle.model.specs.Entries.{gap_of, gap_before}
use Rattle.model.specs.Gap.{child}
use Rattle.model.specs.Search as model
use Rattle.model.specs.Search.{at, search_path}
use Rattle.model.specs.Path.{deeper, find, value_found}
use Rattle.page.specs.declared.Place.{Place}
use Rattle.page.specs.declared.Place.TheVariants as place
use Rattle.page.specs.declared.Unsound.{Unsound}
use Rattle.page.specs.Page.{counted, gap_in, place_of}
use Rattle.lend.specs.Pages.{least, most, page_in}
use Rattle.tree.specs.declared.search.Found.{Found}
use Rattle.tree.specs.Sits.{Sits}
use Rattle.tree.specs.Search.{unsound, below_of, place_at, slot_by, got_by, got_found, GetsBelow, ReadFew}
use Rattle.model.proofs.Cases.{either, either-le, either_lt, never}
use Rattle.model.proofs.Basics.{every_true}
use Rattle.model.proofs.Entries.{gap-le, at_true, gap-start, gap-end}
use Rattle.model.proofs.Read.{length-own}
use Rattle.lend.proofs.Lent.{own_at}
use Rattle.tree.proofs.Saying.{root-count}
use Rattle.tree.proofs.Sitting.{sits-height, sits-own, sits-some, sits-most, sits-child, sits-below}

-- ---- what a page's tests answer

-- an answer is one of the two
pub no-page : {C : Type 0} {a : Result ℕ Unsound} {c : ℕ} → a ≡ Err unsound → a ≡ Ok c → C
no-page lost here = never (cc)

-- what the exit of a `?` returns
pub exits : {A : Type 0} {r : Result A Unsound} → IsErr r → r ≡ Err unsound
exits {A} {r = Ok x} e = never (cc)
exits {A} {r = Err x} e = refl

pub one-page : {a : Result ℕ Unsound} {c d : ℕ} → a ≡ Ok c → a ≡ Ok d → c ≡ d
one-page here there = cc

module _ (w : List ℕ) (p at : ℕ) where
  -- the child that is answered lies inside the pool, at a place where there can be one
  pub below-inside : (c : ℕ) → below_of w p at ≡ Ok c → (at ≤ most) × (c < pages_in today (length w))
  unfolding below_of
  below-inside c e =
      let d : ℕ = child_in most (page_in w p) at in
      either-le at most
      (λ few. either_lt d (pages_in today (length w))
      (λ l. let q : d ≡ c = cc (le-leb at most few, lt-ltb d (pages_in today (length w)) l) in (few, omega arith))
      (λ l. no-page refl (rw (le-leb at most few, le-ltb d (pages_in today (length w)) l) at e)))
      (λ far. no-page refl (rw (lt-leb at most far) at e))

-- the last slot is after every key: by the page's count n, where the height is right
pub last-at : (w : List ℕ) (p h t n : ℕ) → t ≡ height_of (page_in w p) → t ≡ h → n ≡ count_of (page_in w p) → 1 ≤ n → n ≤ most → Ok n ≡ slot_by w p h (λ x. true)
unfolding slot_by gap_in
last-at w p h t n e d k a b =
    rw (← e, eq-eqb t h d, ← k, le-leb 1 n a, le-leb n most b) (ap Ok (k ∙ sym (length-own most (page_in w p)) ∙ sym (gap-end (entries_of most (page_in w p)))))

-- a slot is answered where the page is as it has to be, and is then the test's gap
module _ (w : List ℕ) (p h : ℕ) (before : ℕ → Bool) where
  slot_held : {i : ℕ} → Ok i ≡ slot_by w p h before
      → (eqb (height_of (page_in w p)) h ≡ true) × (every (counted most (page_in w p)) ≡ true) × (i ≡ gap_of before (entries_of most (page_in w p)))
  unfolding slot_by gap_in
  slot_held e =
      either (eqb (height_of (page_in w p)) h)
      (λ y. either (every (counted most (page_in w p))) (λ t. let here = rw (y, t) at e in (y, t, cc)) (λ f. let lost = rw (y, f) at e in never (cc)))
      (λ n. let lost = rw n at e in never (cc))

  pub slot-few : {i : ℕ} → Ok i ≡ slot_by w p h before → i ≤ most
  slot-few e =
      let held = slot_held e in
      omega (arith, held.2, gap-le before (entries_of most (page_in w p)), length-own most (page_in w p), leb-true (count_of (page_in w p)) most (every_true (counted most (page_in w p)) held.1).1.0)

-- the first slot is there where the last is
pub start-at : (w : List ℕ) (p h : ℕ) {i : ℕ} → Ok i ≡ slot_by w p h (λ x. true) → Ok 0 ≡ slot_by w p h (λ x. false)
unfolding slot_by gap_in
start-at w p h e = let held = slot_held w p h (λ x. true) e in rw (held.0, held.1) (ap Ok (sym (gap-start (entries_of most (page_in w p)))))

pub start-lost : (w : List ℕ) (p h : ℕ) → Err unsound ≡ slot_by w p h (λ x. true) → Err unsound ≡ slot_by w p h (λ x. false)
unfolding slot_by gap_in
start-lost w p h e =
    either (eqb (height_of (page_in w p)) h)
    (λ y. either (every (counted most (page_in w p))) (λ t. let there = rw (y, t) at e in never (cc)) (λ f. rw (y, f)))
    (λ n. rw n)

-- ---- the slots that any words can answer

abbrev Few : Result Place Unsound → Type 0
Few (Ok (place.Here i)) = i < most
Few (Ok (place.Gap i)) = i ≤ most
Few (Err e) = Unit {0}

place-few : (w : List ℕ) (p h k : ℕ) → Few (place_at w p h k)
unfolding place_at place_of
place-few w p h k =
    let es : List Entry = entries_of most (page_in w p) in
    let i : ℕ = gap_before k es in
    either (eqb (height_of (page_in w p)) h)
    (λ y. rw y (either (every (counted most (page_in w p)))
    (λ t. rw t (let long : length es ≡ count_of (page_in w p) = length-own most (page_in w p) in
    let tests = every_true (counted most (page_in w p)) t in
    either (at k es i)
    (λ here. rw here (omega (arith, (at_true k es i here).0, leb-true)))
    (λ not-here. rw not-here (omega (arith, gap-le (λ x. ltb x k) es, leb-true)))))
    (λ f. rw f tt)))
    (λ n. rw n tt)

pub here-few : (w : List ℕ) (p h k i : ℕ) → place_at w p h k ≡ Ok (place.Here i) → i < most
here-few w p h k i e = subst Few e (place-few w p h k)

-- ---- a tree that sits in the pool

module _ (w : List ℕ) (low h : ℕ) (t : Tree (suc h)) (s : Sits w low (suc h) t) where
  sits-counted : every (counted most (page_in w t.page)) ≡ true
  sits-counted =
      rw (root-count w h t s.stands, le-leb 1 (length t.own) (sits-some w low h t s), le-leb (length t.own) most (sits-most w low h t s))

  sits-place : (k : ℕ) → place_at w t.page h k ≡ cond (at k t.own (gap_before k t.own)) (Ok (place.Here (gap_before k t.own))) (Ok (place.Gap (gap_before k t.own)))
  unfolding place_at place_of
  sits-place k =
      let i : ℕ = gap_before k t.own in
      rw (sits-height w low h t s, eq-eqb h h refl, sits-counted, sits-own w low h t s)
      (either (at k t.own i) (λ y. rw y) (λ n. rw n))

  -- the page's slot for a test is the test's gap among its entries
  pub sits-slot : (before : ℕ → Bool) → slot_by w t.page h before ≡ Ok (gap_of before t.own)
  unfolding slot_by gap_in
  sits-slot before = rw (sits-height w low h t s, eq-eqb h h refl, sits-counted, sits-own w low h t s)

-- ---- get: how the search of a page ends

-- what a page of a tree that sits there answers of a key
abbrev Answers : ℕ → List Entry → Result Place Unsound → Type 0
Answers k es (Ok (place.Here i)) = (gap_before k es ≡ i) × (at k es (gap_before k es) ≡ true)
Answers k es (Ok (place.Gap i)) = (gap_before k es ≡ i) × (at k es (gap_before k es) ≡ false)
Answers k es (Err e) = ⊥

sits-answers : (w : List ℕ) (low h : ℕ) (t : Tree (suc h)) (p k : ℕ) → Sits w low (suc h) t → t.page ≡ p → Answers k t.own (place_at w p h k)
sits-answers w low h t p k s q =
    rw (← q, sits-place w low h t s k) (either (at k t.own (gap_before k t.own)) (λ y. rw y (refl, y)) (λ n. rw n (refl, n)))

-- a value found, and the pages read
abbrev pub found : ℕ → ℕ → Result (Option Found) Unsound
found v n = Ok (Some (record { value = v; read = n }))

pub few_found : (v read n : ℕ) → read ≤ n → ReadFew n (found v read)
few_found v read n l f e = let last : read ≡ f.read = cc in omega arith

pub few_none : (n : ℕ) → ReadFew n (Ok None)
few_none n f e = never (cc)

pub few-lost : (n : ℕ) → ReadFew n (Err unsound)
few-lost n f e = never (cc)

got-deeper : (above : ℕ) (f : model.Found) → got_found (above + 1) f ≡ got_found above (deeper f)
got-deeper above f = go f.value
  where
    go : (v : pure.Option ℕ) → got_by (above + 1) v f.read ≡ got_by above v (suc f.read)
    go (pure.some v) =
        let e : above + 1 + f.read ≡ above + suc f.read = omega arith in
        ap (λ (n : ℕ). found v n) e
    go pure.none = refl

find-here : (k h : ℕ) (t : Tree (suc h)) → at k t.own (gap_before k t.own) ≡ true
    → find k (suc h) t ≡ record { value = pure.some (get_or t.own (gap_before k t.own) no_entry).value; read = 1 }
unfolding value_found search_path
find-here k h t y = rw y

find-down : (k h : ℕ) (t : Tree (suc h)) → at k t.own (gap_before k t.own) ≡ false
    → find k (suc h) t ≡ deeper (find k h (child h t (gap_before k t.own)))
unfolding value_found search_path
find-down k h t n = rw n

find_none : (k h : ℕ) (t : Tree h) → h ≡ 0 → (find k h t).value ≡ pure.none
unfolding value_found
find_none k zero t z = refl
find_none k (suc h) t z = absurd (omega arith)

-- where the page answers a gap, the child that the tree's search goes on to is the one that its words name there
gap_below : (w : List ℕ) (p h k i : ℕ) → place_at w p h k ≡ Ok (place.Gap i) → 0 < h → (low : ℕ) (t : Tree (suc h)) → Sits w low (suc h) t → t.page ≡ p
    → below_of w p i ≡ Ok (page_number h (child h t (gap_before k t.own)))
gap_below w p h k i e l low t s q =
    let says : (gap_before k t.own ≡ i) × (at k t.own (gap_before k t.own) ≡ false) = subst (Answers k t.own) e (sits-answers w low h t p k s q) in
    rw (← q, ← says.0) (sits-below w low h t s l (gap_before k t.own) (gap-le (λ x. ltb x k) t.own))

module _ (w : List ℕ) (p h k above : ℕ) where
  pub get-unsound : {r : Result (Option Found) Unsound} → place_at w p h k ≡ Err unsound → GetsBelow w p h k above r
  get-unsound e low t s q = absurd (subst (Answers k t.own) e (sits-answers w low h t p k s q))

  pub get-here : {v : ℕ} (i : ℕ) → place_at w p h k ≡ Ok (place.Here i) → v ≡ (entry_in most (page_in w p) i).value → GetsBelow w p h k above (found v (above + 1))
  get-here {v} i e a low t s q =
      let says : (gap_before k t.own ≡ i) × (at k t.own (gap_before k t.own) ≡ true) = subst (Answers k t.own) e (sits-answers w low h t p k s q) in
      let few = (at_true k t.own (gap_before k t.own) says.1).0 in
      let own : get_or (entries_of most (page_in w p)) i no_entry ≡ get_or t.own (gap_before k t.own) no_entry = rw (← q, sits-own w low h t s, says.0) in
      let value : v ≡ (get_or t.own (gap_before k t.own) no_entry).value =
      a ∙ ap (λ (x : Entry). x.value) (own_at (page_in w p) i (rw (← q) (omega (arith, root-count w h t s.stands))) ∙ own) in
      ap (λ (x : ℕ). found x (above + 1)) value ∙ ap (got_found above) (sym (find-here k h t says.1))

  -- a gap of a leaf; and a gap with no child there
  module _ (i : ℕ) (e : place_at w p h k ≡ Ok (place.Gap i)) where
    pub get_absent : h ≡ 0 → GetsBelow w p h k above (Ok None)
    get_absent z low t s q =
        let says : (gap_before k t.own ≡ i) × (at k t.own (gap_before k t.own) ≡ false) = subst (Answers k t.own) e (sits-answers w low h t p k s q) in
        let c = child h t (gap_before k t.own) in
        sym (ap (got_found above) (find-down k h t says.1) ∙ ap (λ (x : pure.Option ℕ). got_by above x (suc (find k h c).read)) (find_none k h c z))

    pub get-lost : {r : Result (Option Found) Unsound} → 0 < h → below_of w p i ≡ Err unsound → GetsBelow w p h k above r
    get-lost l b low t s q = never (cc (gap_below w p h k i e l low t s q))

-- the child's answer is the page's
pub get-down : (w : List ℕ) (p h n k above more i c : ℕ) {r : Result (Option Found) Unsound} → suc n ≡ h → above + 1 ≡ more → place_at w p h k ≡ Ok (place.Gap i) → below_of w p i ≡ Ok c
    → GetsBelow w c n k more r → GetsBelow w p h k above r
get-down w p zero n k above more i c d m e b g low t s q = absurd (omega arith)
get-down w p (suc h) n k above more i c {r} d m e b g low t s q =
    let says : (gap_before k t.own ≡ i) × (at k t.own (gap_before k t.own) ≡ false) = subst (Answers k t.own) e (sits-answers w low (suc h) t p k s q) in
    let u : Tree (suc h) = child (suc h) t (gap_before k t.own) in
    let page : u.page ≡ c = cc (gap_below w p (suc h) k i e (omega arith) low t s q) in
    let n-is-h : n ≡ h = omega arith in
    subst₂ (λ (n m : ℕ). GetsBelow w c n k m r) n-is-h (sym m) g least u (sits-child w low (suc h) t s (gap_before k t.own) (gap-le (λ x. ltb x k) t.own)) page
    ∙ got-deeper above (find k (suc h) u)
    ∙ ap (got_found above) (sym (find-down k (suc h) t says.1))
