-- Seek, page by page: one law for each way in which the search of a page ends, with the slices that it fills; the path
-- filled from the front; and the path found in a whole pool.
-- Assumes nothing.
use mathlib.Core.Path.{◌≡◌, refl, sym, ap, ap₂, subst, ◌∙◌}
use mathlib.Core.Bool.{Bool}
use mathlib.Core.Logic.{◌≢◌}
use mathlib.Core.Option as pure
use mathlib.Core.List.{List, [], ◌∷◌, ◌++◌, append_assoc}
use Prim.Native.Nat.{ℕ, zero, suc, pred, ◌+◌, ◌-◌, ◌≤◌, ◌<◌}
use native.Mathlib.Omega.{arith}
use lib.ListN.{length, take, drop, get_or, set, length-drop, length-set, take-append-drop}
use lib.Seq.{drop-cons, set_split, drop-set-lt, take-suc-set}
use Rattle.std.specs.Prelude.{Option, None, Result, Ok, Err, ⊤}
use Rattle.model.specs.Head.{root_word, levels_word}
use Rattle.model.specs.Tree.{Tree, entries, Rising, held, Formed}
use Rattle.model.specs.Standing.{root_of, page_number}
use Rattle.model.specs.Entries.{lookup, gap_of}
use Rattle.model.specs.Path.{gap_pages, gap_slots, seek_pages, seek_slots, find}
use Rattle.model.specs.Pool.{held_by, whole_of, pool_of}
use Rattle.model.specs.Sound.{Sound}
use Rattle.model.specs.MapCalls.{pages_read}
use Rattle.lend.specs.Pages.{least, Inside}
use Rattle.tree.specs.declared.search.Aim.{Aim}
use Rattle.tree.specs.declared.search.Aim.TheVariants.{Before, After, Start, End}
use Rattle.page.specs.declared.Unsound.{Unsound}
use Rattle.tree.specs.declared.search.Found.{Found}
use Rattle.tree.specs.declared.steps.Spot.{Spot}
use Rattle.tree.specs.Sits.{PathIn, PathOf, Sits, From, pages_of, slots_of}
use Rattle.tree.specs.Steps.{spot}
use Rattle.tree.specs.Search.{unsound, below_of, slot_by, aimed, got_by, got_found, GetsBelow, Gets, SeeksBelow, Seeks}
use Rattle.model.proofs.Cases.{never}
use Rattle.model.proofs.Entries.{Falls, falls_below, falls-up-to, gap-le}
use Rattle.model.proofs.Search.{seek_child, seek-rising, seek-pages, seek-slots, found-held}
use Rattle.model.proofs.Right.{sound-right}
use Rattle.model.proofs.Written.{sound-written}
use Rattle.lend.proofs.Lent.{page-inside}
use Rattle.tree.proofs.Sitting.{sits-child, sits-below, sound-sits}
use Rattle.tree.proofs.Paths.{pages-long, slots-long, pages-set, slots-set}
use Rattle.tree.proofs.Searching.{below-inside, slot-few, sits-slot}

module _ (w : List ℕ) (p : ℕ) (aim : Aim) where
  -- the path that is to be found
  abbrev Finds : Result ⊤ Unsound → List ℕ → List ℕ → (h : ℕ) → Tree (suc h) → Type 0
  Finds r ps ss h t = (r ≡ Ok tt) × (ps ≡ seek_pages (aimed aim) (suc h) t) × (ss ≡ seek_slots (aimed aim) (suc h) t)

  seeks : {ps ss ps' ss' : List ℕ} {r : Result ⊤ Unsound} → length ps' ≡ length ps → length ss' ≡ length ss → (r ≡ Ok tt → PathIn w ps' ss')
      → From w p (length ps) (Finds r ps' ss') → SeeksBelow w p aim ps ss ps' ss' r
  seeks a b c d = record {
    pages = a;
    slots = b;
    inside = c;
    sound = λ low h t n s r q. (d low h t n s r q).0;
    pages-are = λ low h t n s r q. (d low h t n s r q).1;
    slots-are = λ low h t n s r q. (d low h t n s r q).2;
  }

  -- no tree sits there
  seeks-none : {ps ss ps' ss' : List ℕ} → length ps' ≡ length ps → length ss' ≡ length ss → From w p (length ps) (λ h t. ⊥)
      → SeeksBelow w p aim ps ss ps' ss' (Err unsound)
  seeks-none a b d = seeks a b (λ e. never (cc)) (λ low h t n s r q. absurd (d low h t n s r q))

  -- the page's slot, as its words have it, is the tree's
  slot_is : (n i : ℕ) → slot_by w p n (aimed aim) ≡ Ok i → From w p (suc n) (λ h t. gap_of (aimed aim) t.own ≡ i)
  slot_is n i e low h t k s r q =
      let n-is-h : n ≡ h = omega arith in
      let at : slot_by w p h (aimed aim) ≡ Ok i = subst (λ m. slot_by w p m (aimed aim) ≡ Ok i) n-is-h e in
      let here : slot_by w p h (aimed aim) ≡ Ok (gap_of (aimed aim) t.own) = rw (← q) (sits-slot w low h t s (aimed aim)) in
      cc

  slot-never : (n : ℕ) → slot_by w p n (aimed aim) ≡ Err unsound → From w p (suc n) (λ h t. ⊥)
  slot-never n e low h t k s r q =
      let n-is-h : n ≡ h = omega arith in
      let at : slot_by w p h (aimed aim) ≡ Err unsound = subst (λ m. slot_by w p m (aimed aim) ≡ Err unsound) n-is-h e in
      let here : slot_by w p h (aimed aim) ≡ Ok (gap_of (aimed aim) t.own) = rw (← q) (sits-slot w low h t s (aimed aim)) in
      never (cc)

  seek-unsound : (n : ℕ) (ps ss : List ℕ) → suc n ≡ length ps → slot_by w p n (aimed aim) ≡ Err unsound → SeeksBelow w p aim ps ss ps ss (Err unsound)
  seek-unsound n ps ss k e = seeks-none refl refl (subst (λ m. From w p m (λ h t. ⊥)) k (slot-never n e))

  module _ (n i : ℕ) (e : slot_by w p n (aimed aim) ≡ Ok i) where
    -- the child, as the page's words have it, is the tree's
    child-is : 0 < n → From w p (suc n) (λ h t. below_of w p i ≡ Ok (page_number h (seek_child (aimed aim) h t)))
    child-is l low h t k s r q =
        rw (← q, ← (slot_is n i e low h t k s r q)) (sits-below w low h t s (omega arith) (gap_of (aimed aim) t.own) (gap-le (aimed aim) t.own))

    leaf-finds : n ≡ 0 → (low h : ℕ) (t : Tree (suc h)) → suc n ≡ suc h → Sits w low (suc h) t → Rising (entries (suc h) t) → t.page ≡ p
        → Finds (Ok tt) (p ∷ []) (i ∷ []) h t
    unfolding seek_pages seek_slots
    leaf-finds z low zero t k s r q = (refl, ap (λ x. x ∷ []) (sym q), ap (λ x. x ∷ []) (sym (slot_is n i e low zero t k s r q)))
    leaf-finds z low (suc h) t k s r q = absurd (omega arith)

    seek-end : Inside p w → (x y : ℕ) (ps ss : List ℕ) → n ≡ 0 → length ps ≡ 0 → length ss ≡ 0 → SeeksBelow w p aim (x ∷ ps) (y ∷ ss) (p ∷ ps) (i ∷ ss) (Ok tt)
    seek-end inside x y [] [] z a b =
        seeks refl refl (λ y. record { even = refl; inside = (inside, tt); slots = (slot-few w p n (aimed aim) (sym e), tt) })
        (λ low h t k s r q. leaf-finds z low h t (omega arith) s r q)
    seek-end inside x y [] (y' ∷ ss) z a b = absurd (omega arith)
    seek-end inside x y (x' ∷ ps) ss z a b = absurd (omega arith)

    seek-lost : (x y : ℕ) (ps ss : List ℕ) → n ≡ length ps → 0 < n → below_of w p i ≡ Err unsound → SeeksBelow w p aim (x ∷ ps) (y ∷ ss) (p ∷ ps) (i ∷ ss) (Err unsound)
    seek-lost x y ps ss k l b =
        seeks-none refl refl (λ low h t k' s r q. never (cc (child-is l low h t (ap suc k ∙ k') s r q)))

    down-finds : {a : Result ⊤ Unsound} {ps ss qs rs : List ℕ} (c : ℕ) → below_of w p i ≡ Ok c → 0 < n → n ≡ length ps → SeeksBelow w c aim ps ss qs rs a
        → (low h : ℕ) (t : Tree (suc h)) → suc n ≡ suc h → Sits w low (suc h) t → Rising (entries (suc h) t) → t.page ≡ p
        → Finds a (p ∷ qs) (i ∷ rs) h t
    unfolding seek_pages seek_slots
    down-finds c b l m g low zero t k s r q = absurd (omega arith)
    down-finds {ps = ps} c b l m g low (suc h) t k s r q =
        let before : ℕ → Bool = aimed aim in
        let u : Tree (suc h) = seek_child before (suc h) t in
        let page : u.page ≡ c = cc (child-is l low (suc h) t k s r q) in
        let long : length ps ≡ suc h = omega arith in
        let sits : Sits w least (suc h) u = sits-child w low (suc h) t s (gap_of before t.own) (gap-le before t.own) in
        let rise : Rising (entries (suc h) u) = seek-rising before least low (suc h) t s.shaped r in (
          g.sound least h u long sits rise page,
          ap₂ (λ (x : ℕ) (l : List ℕ). x ∷ l) (sym q) (g.pages-are least h u long sits rise page),
          ap₂ (λ (x : ℕ) (l : List ℕ). x ∷ l) (sym (slot_is n i e low (suc h) t k s r q)) (g.slots-are least h u long sits rise page),
        )

    seek-down : {a : Result ⊤ Unsound} {ps ss qs rs : List ℕ} (x y c : ℕ) → Inside p w → n ≡ length ps → 0 < n → below_of w p i ≡ Ok c → SeeksBelow w c aim ps ss qs rs a
        → SeeksBelow w p aim (x ∷ ps) (y ∷ ss) (p ∷ qs) (i ∷ rs) a
    seek-down x y c inside k l b g =
        seeks (ap suc g.pages) (ap suc g.slots)
        (λ yes-case. let path = g.inside yes-case in record {
          even = ap suc path.even;
          inside = (inside, path.inside);
          slots = (slot-few w p n (aimed aim) (sym e), path.slots);
        })
        (λ low h t k' s r q. down-finds c b l k g low h t (ap suc k ∙ k') s r q)

-- ---- a path that is filled from the front

-- what the search from page `at` fills in from place i on, the search from page p fills in behind what stands before
-- place i
pub record Rest (w : List ℕ) (p : ℕ) (aim : Aim) (path₀ : List Spot) (at i : ℕ) (path : List Spot) : Type 0 where
  pub inside : Inside at w
  pub within : i < length path
  pub long : length path ≡ length path₀
  pub rest : (r : Result ⊤ Unsound) (qs rs : List ℕ) → SeeksBelow w at aim (drop i (pages_of path)) (drop i (slots_of path)) qs rs r
      → SeeksBelow w p aim (pages_of path₀) (slots_of path₀) (take i (pages_of path) ++ qs) (take i (slots_of path) ++ rs) r

pub rest-start : (w : List ℕ) (p : ℕ) (aim : Aim) (path : List Spot) → Inside p w → 1 ≤ length path → Rest w p aim path p 0 path
rest-start w p aim path inside some = record { inside = inside; within = some; long = refl; rest = λ r qs rs g. g }

module _ {w : List ℕ} {p : ℕ} {aim : Aim} {path₀ : List Spot} {at i : ℕ} {path : List Spot} (rest : Rest w p aim path₀ at i path) where
  abbrev ps : List ℕ
  ps = pages_of path

  abbrev ss : List ℕ
  ss = slots_of path

  -- the levels left below page `at`
  abbrev n : ℕ
  n = length path₀ - 1 - i

  in-pages : i < length ps
  in-pages = omega (arith, pages-long path, rest.within)

  in-slots : i < length ss
  in-slots = omega (arith, slots-long path, rest.within)

  long : i + suc n ≡ length path
  long = omega (arith, rest.within, rest.long)

  pub rest-unsound : slot_by w at n (aimed aim) ≡ Err unsound → SeeksBelow w p aim (pages_of path₀) (slots_of path₀) ps ss (Err unsound)
  rest-unsound e =
      let left : suc n ≡ length (drop i ps) = rw (length-drop i ps, pages-long path) (omega (arith, long)) in
      let found = rest.rest (Err unsound) (drop i ps) (drop i ss) (seek-unsound w at aim n (drop i ps) (drop i ss) left e) in
      rw (take-append-drop i ps, take-append-drop i ss) at found

  module _ {s : ℕ} (e : slot_by w at n (aimed aim) ≡ Ok s) where
    -- with the page and its slot at place i
    abbrev stored : List Spot
    stored = set path i (spot at s)

    stores : (r : Result ⊤ Unsound) → SeeksBelow w at aim (get_or ps i 0 ∷ drop (suc i) ps) (get_or ss i 0 ∷ drop (suc i) ss) (at ∷ drop (suc i) ps) (s ∷ drop (suc i) ss) r
        → SeeksBelow w p aim (pages_of path₀) (slots_of path₀) (pages_of stored) (slots_of stored) r
    stores r g =
        rw (pages-set path i (spot at s), slots-set path i (spot at s), set_split ps i at in-pages, set_split ss i s in-slots)
        (rest.rest r (at ∷ drop (suc i) ps) (s ∷ drop (suc i) ss) (rw (drop-cons ps i 0 in-pages, drop-cons ss i 0 in-slots) g))

    pub rest_end : i ≡ length path₀ - 1 → SeeksBelow w p aim (pages_of path₀) (slots_of path₀) (pages_of stored) (slots_of stored) (Ok tt)
    rest_end last =
        let no-pages : length (drop (suc i) ps) ≡ 0 = rw (length-drop (suc i) ps, pages-long path) (omega (arith, long)) in
        let no-slots : length (drop (suc i) ss) ≡ 0 = rw (length-drop (suc i) ss, slots-long path) (omega (arith, long)) in
        stores (Ok tt) (seek-end w at aim n s e rest.inside _ _ (drop (suc i) ps) (drop (suc i) ss) (omega arith) no-pages no-slots)

    module _ (more : i ≢ length path₀ - 1) where
      left : n ≡ length (drop (suc i) ps)
      left = rw (length-drop (suc i) ps, pages-long path) (omega (arith, long))

      tall : 0 < n
      tall = omega (arith, rest.within, rest.long)

      pub rest-lost : below_of w at s ≡ Err unsound → SeeksBelow w p aim (pages_of path₀) (slots_of path₀) (pages_of stored) (slots_of stored) (Err unsound)
      rest-lost b = stores (Err unsound) (seek-lost w at aim n s e _ _ (drop (suc i) ps) (drop (suc i) ss) left tall b)

      rest-next : (c : ℕ) → below_of w at s ≡ Ok c → Rest w p aim path₀ c (suc i) stored
      rest-next c b = record {
        inside = page-inside w c (below-inside w at s c b).1;
        within = rw (length-set path i (spot at s)) (omega (arith, tall, long));
        long = length-set path i (spot at s) ∙ rest.long;
        rest = λ r qs rs g.
            let below-it : SeeksBelow w c aim (drop (suc i) ps) (drop (suc i) ss) qs rs r = rw (pages-set path i (spot at s), slots-set path i (spot at s), drop-set-lt (suc i) ps i at (omega arith), drop-set-lt (suc i) ss i s (omega arith)) at g in
            rw (pages-set path i (spot at s), slots-set path i (spot at s), take-suc-set ps i at in-pages, take-suc-set ss i s in-slots, append_assoc (take i ps) (at ∷ []) qs, append_assoc (take i ss) (s ∷ []) rs)
            (rest.rest r (at ∷ qs) (s ∷ rs)
            (rw (drop-cons ps i 0 in-pages, drop-cons ss i 0 in-slots) (seek-down w at aim n s e _ _ c rest.inside left tall b below-it)));
      }

      pub rest-down : {c : ℕ} → below_of w at s ≡ Ok c → Rest w p aim path₀ c (i + 1) stored
      rest-down {c} b =
          let next : suc i ≡ i + 1 = omega arith in
          subst (λ (j : ℕ). Rest w p aim path₀ c j stored) next (rest-next c b)

-- ---- a whole pool

-- the root's page, by the head's word
sound-number : (w : List ℕ) → Sound w → page_number (pool_of w).whole.levels (pool_of w).whole.tree ≡ root_word w - 1
sound-number w s =
    let root : root_word w ≡ root_of (pool_of w).whole.levels (pool_of w).whole.tree = ap (λ (l : List ℕ). get_or l 3 0) (sound-written w s).head in
    let less : pred (root_word w) ≡ root_word w - 1 = omega arith in
    ap pred (sym root) ∙ less

sound-levels : (w : List ℕ) → (pool_of w).whole.levels ≡ levels_word w
unfolding pool_of whole_of
sound-levels w = refl

pub falls-aim : (aim : Aim) → Falls (aimed aim)
falls-aim (Before k) = falls_below k
falls-aim (After k) = falls-up-to k
falls-aim Start = λ a b l h. h
falls-aim End = λ a b l h. refl

no-levels : (h : ℕ) (t : Tree h) → h ≡ 0 → entries h t ≡ []
unfolding entries
no-levels zero t z = refl
no-levels (suc h) t z = absurd (omega arith)

get-tree : (w : List ℕ) (k low h : ℕ) (t : Tree h) (n p : ℕ) {r : Result (Option Found) Unsound} → suc n ≡ h → Sits w low h t → page_number h t ≡ p
    → GetsBelow w p n k 0 r → r ≡ got_found 0 (find k h t)
get-tree w k low zero t n p d s q g = absurd (omega arith)
get-tree w k low (suc h) t n p {r} d s q g = let n-is-h : n ≡ h = omega arith in subst (λ n. GetsBelow w p n k 0 r) n-is-h g low t s q

pub get_none : (w : List ℕ) (k : ℕ) → levels_word w ≡ 0 → Gets w k (Ok None)
unfolding held lookup
get_none w k z s = rw (no-levels (pool_of w).whole.levels (pool_of w).whole.tree (sound-levels w ∙ z))

pub get-whole : (w : List ℕ) (k n p : ℕ) {r : Result (Option Found) Unsound} → suc n ≡ levels_word w → root_word w - 1 ≡ p → GetsBelow w p n k 0 r → Gets w k r
unfolding held pages_read Formed
get-whole w k n p d q g s =
    get-tree w k 1 (pool_of w).whole.levels (pool_of w).whole.tree n p (d ∙ sym (sound-levels w)) (sound-sits w s) (sound-number w s ∙ q) g
    ∙ ap (λ (x : pure.Option ℕ). got_by 0 x (pages_read k (pool_of w)))
    (found-held k least 1 (pool_of w).whole.levels (pool_of w).whole.tree (sound-sits w s).shaped (sound-right w s).rising)

path-none : (h : ℕ) (t : Tree h) (g : ℕ) → h ≡ 0 → PathOf h t g [] []
unfolding gap_pages gap_slots
path-none zero t g z = record { pages = refl; slots = refl }
path-none (suc h) t g z = absurd (omega arith)

pub seek-none : (w : List ℕ) (aim : Aim) (path : List Spot) → levels_word w ≡ 0 → length path ≡ 0 → Seeks w aim (pages_of path) (slots_of path) (pages_of path) (slots_of path) (Ok tt)
seek-none w aim [] z a = record {
  pages = refl;
  slots = refl;
  inside = λ y. record { even = refl; inside = tt; slots = tt };
  sound = λ s. refl;
  path = λ s. path-none (pool_of w).whole.levels (pool_of w).whole.tree _ (sound-levels w ∙ z);
}
seek-none w aim (x ∷ path) z a = absurd (omega arith)

seek-tree : (w : List ℕ) (p : ℕ) (aim : Aim) (low h : ℕ) (t : Tree h) {ps ss ps' ss' : List ℕ} {r : Result ⊤ Unsound} → 0 < h → length ps ≡ h
    → Sits w low h t → Rising (entries h t) → page_number h t ≡ p → SeeksBelow w p aim ps ss ps' ss' r → (r ≡ Ok tt) × PathOf h t (gap_of (aimed aim) (entries h t)) ps' ss'
seek-tree w p aim low zero t l k s r q g = absurd (omega arith)
seek-tree w p aim low (suc h) t l k s r q g = (
  g.sound low h t k s r q,
  record {
    pages = g.pages-are low h t k s r q ∙ seek-pages (aimed aim) least low (suc h) t s.shaped r (falls-aim aim);
    slots = g.slots-are low h t k s r q ∙ seek-slots (aimed aim) least low (suc h) t s.shaped r (falls-aim aim);
  },
)

pub seek-whole : (w : List ℕ) (p : ℕ) (aim : Aim) {ps ss ps' ss' : List ℕ} {r : Result ⊤ Unsound} → 0 < levels_word w → length ps ≡ levels_word w → root_word w - 1 ≡ p
    → SeeksBelow w p aim ps ss ps' ss' r → Seeks w aim ps ss ps' ss' r
unfolding held
seek-whole w p aim {ps} {ss} {ps'} {ss'} {r} l k q g =
    let levels = sound-levels w in
    let found : Sound w → (r ≡ Ok tt) × PathOf (pool_of w).whole.levels (pool_of w).whole.tree (gap_of (aimed aim) (held_by (pool_of w))) ps' ss' = λ s.
    seek-tree w p aim 1 (pool_of w).whole.levels (pool_of w).whole.tree (omega arith) (omega arith) (sound-sits w s) (sound-right w s).rising (sound-number w s ∙ q) g in
    record { pages = g.pages; slots = g.slots; inside = g.inside; sound = λ s. (found s).0; path = λ s. (found s).1 }
