-- The search by keys goes the way of the gap: code knows no sizes of subtrees, only keys. On rising entries the gap of
-- a key or a bound among a page's own entries is the slot of its gap in the whole tree, and its gap in that child is
-- the rest. So a search reads the pages of the gap's path; and the search path of a key is as document 01 says.
-- Assumes nothing.
use mathlib.Core.Path.{◌≡◌, refl, sym, ap, subst, ◌∙◌}
use mathlib.Core.Bool.{Bool, true, false, cond}
use mathlib.Core.Option.{some}
use mathlib.Core.List.{List, [], ◌∷◌, ◌++◌}
use Prim.Native.Nat.{ℕ, zero, suc, ◌+◌, ◌-◌, ◌≤◌, ◌<◌}
use native.Mathlib.Omega.{arith}
use lib.Dec.{ltb, leb-suc-suc}
use lib.ListN.{length, take, drop, get_or, length-map}
use borrow.Author.Tests.{le-leb, lt-leb, lt-ltb, le-ltb, eq-eqb, ne_eqb}
use Rattle.model.specs.Basics.{final}
use Rattle.model.specs.Layout.{most_entries}
use Rattle.model.specs.Tree.{Entry, Tree, no_entry, no_tree, weave, entries, Rising, Shaped}
use Rattle.model.specs.Entries.{has, lookup, gap_of, gap_before}
use Rattle.model.specs.Page.{entries_of, children_of, read_tree}
use Rattle.model.specs.Gap.{slot, rest, slot_at, rest_at, child, child_at}
use Rattle.model.specs.Search.{at, search_path}
use Rattle.model.specs.Path.{gap_pages, gap_slots, seek_pages, seek_slots, value_found}
use Rattle.model.proofs.Cases.{either, either_lt, either-eq, contrary}
use Rattle.model.proofs.Basics.{all-at, all_map, get_or_map}
use Rattle.model.proofs.Entries.{Falls, falls_below, rising-left, rising-right, rising-lo, all_under, all_above, gap-le, gap-past, gap_within, lookup-past, lookup-within, has-lookup, has-slot}
use Rattle.model.proofs.Weave.{left, right, weave_at}

-- ---- one page, over a function `f` that says what a child holds

module _ {S : Type 0} (f : S → List Entry) where
  abbrev long : S → ℕ
  long s = length (f s)

  -- the child at i rises, and all of it is below the page's own entry i
  child-on : (ss : List S) (es : List Entry) (i : ℕ) (d : S) → length ss ≡ suc (length es) → i < length ss → Rising (weave f ss es)
      → Rising (f (get_or ss i d) ++ right f (drop i es) (drop (suc i) ss))
  child-on ss es i d n b r =
      let l = left f (take i ss) (take i es) in
      rising-right l (f (get_or ss i d) ++ right f (drop i es) (drop (suc i) ss)) (subst Rising (weave_at f ss es i d n b) r)

  pub child-rising : (ss : List S) (es : List Entry) (i : ℕ) (d : S) → length ss ≡ suc (length es) → i < length ss → Rising (weave f ss es)
      → Rising (f (get_or ss i d))
  child-rising ss es i d n b r = rising-left (f (get_or ss i d)) (right f (drop i es) (drop (suc i) ss)) (child-on ss es i d n b r)

  -- the gap of the test in all that the page holds lies in the child at the test's gap among the page's own entries, at
  -- the test's gap there
  pub slot-seek : (before : ℕ → Bool) (ss : List S) (es : List Entry) (d : S) → length ss ≡ suc (length es) → Rising (weave f ss es) → Falls before
      → (slot long ss (gap_of before (weave f ss es)) ≡ gap_of before es)
      × (rest long ss (gap_of before (weave f ss es)) ≡ gap_of before (f (get_or ss (gap_of before es) d)))
  unfolding gap_of
  slot-seek before [] es d k r fall = absurd (omega arith)
  slot-seek before (s ∷ []) [] d k r fall = rw (le-leb (gap_of before (f s)) (long s) (gap-le before (f s))) (refl, refl)
  slot-seek before (s ∷ s' ∷ ss) [] d k r fall = absurd (omega arith)
  slot-seek before (s ∷ ss) (e ∷ es) d k r fall =
      let w = weave f ss es in
      let ih = slot-seek before ss es d (omega arith) (rising-right (f s) (e ∷ w) r).1 fall in
      either (before e.key)
      (λ y.
      let a = all_map (λ x. x.key < e.key) (λ x. before x.key ≡ true) (f s) (λ x l. fall x.key e.key (omega arith) y) (rising-lo (f s) e w r) in
      let q : gap_of before (f s ++ e ∷ w) ≡ suc (long s) + gap_of before w = gap-past before (f s) (e ∷ w) a ∙ rw y (omega arith) in
      let z : suc (long s) + gap_of before w - suc (long s) ≡ gap_of before w = omega arith in
      rw (q, lt-leb (suc (long s) + gap_of before w) (long s) (omega arith), z, y) (ap suc ih.0, ih.1))
      (λ n. rw (gap_within before (f s) e w n, le-leb (gap_of before (f s)) (long s) (gap-le before (f s)), n) (refl, refl))

  -- the key is the page's own entry there, or the child there answers
  pub lookup-seek : (k : ℕ) (ss : List S) (es : List Entry) (d : S) → length ss ≡ suc (length es) → Rising (weave f ss es)
      → lookup k (weave f ss es) ≡ cond (at k es (gap_before k es)) (some (get_or es (gap_before k es) no_entry).value) (lookup k (f (get_or ss (gap_before k es) d)))
  unfolding gap_of lookup
  lookup-seek k [] es d n r = absurd (omega arith)
  lookup-seek k (s ∷ []) [] d n r = refl
  lookup-seek k (s ∷ s' ∷ ss) [] d n r = absurd (omega arith)
  lookup-seek k (s ∷ ss) (e ∷ es) d n r =
      let w = weave f ss es in
      let t = rising-right (f s) (e ∷ w) r in
      let ih = lookup-seek k ss es d (omega arith) t.1 in
      let past : e.key ≤ k → lookup k (f s ++ e ∷ w) ≡ lookup k (e ∷ w) =
      λ l. lookup-past k (f s) (e ∷ w) (all_under e.key k (f s) l (rising-lo (f s) e w r)) in
      either_lt e.key k
      (λ l. rw (lt-ltb e.key k l, leb-suc-suc) (past (omega arith) ∙ rw (ne_eqb e.key k (λ q. omega arith)) ih))
      (λ l. rw (le-ltb e.key k l, lt-ltb 0 (suc (length es)) (omega arith))
      (either-eq e.key k
      (λ q. past (omega arith) ∙ rw (eq-eqb e.key k q))
      (λ o. rw (ne_eqb e.key k o) (lookup-within k (f s) (e ∷ w) (omega arith, all_above k e.key w l t.0)))))

-- ---- of trees: the way down by keys

-- the child that the search goes on to
abbrev pub seek_child : (ℕ → Bool) → (h : ℕ) → Tree (suc h) → Tree h
seek_child before h t = child h t (gap_of before t.own)

module _ (before : ℕ → Bool) (m low h : ℕ) (t : Tree (suc h)) (s : Shaped m low (suc h) t) (r : Rising (entries (suc h) t)) where
  seek-inside : gap_of before t.own < length t.children
  unfolding Shaped
  seek-inside = let k = s.forks in omega (arith, gap-le before t.own)

  pub seek-shaped : Shaped m m h (seek_child before h t)
  unfolding Shaped
  seek-shaped = all-at (Shaped m m h) t.children (gap_of before t.own) (no_tree h) seek-inside s.below

  pub seek-rising : Rising (entries h (seek_child before h t))
  unfolding Shaped entries
  seek-rising = child-rising (entries h) t.children t.own (gap_of before t.own) (no_tree h) s.forks seek-inside r

  pub seek-slot : Falls before → slot_at h t (gap_of before (entries (suc h) t)) ≡ gap_of before t.own
  unfolding Shaped entries
  seek-slot f = (slot-seek (entries h) before t.children t.own (no_tree h) s.forks r f).0

  pub seek-rest : Falls before → rest_at h t (gap_of before (entries (suc h) t)) ≡ gap_of before (entries h (seek_child before h t))
  unfolding Shaped entries
  seek-rest f = (slot-seek (entries h) before t.children t.own (no_tree h) s.forks r f).1

module _ (before : ℕ → Bool) where
  pub seek-slots : (m low h : ℕ) (t : Tree h) → Shaped m low h t → Rising (entries h t) → Falls before
      → seek_slots before h t ≡ gap_slots h t (gap_of before (entries h t))
  unfolding seek_slots gap_slots
  seek-slots m low zero t s r f = refl
  seek-slots m low (suc h) t s r f =
      let ih = seek-slots m m h (seek_child before h t) (seek-shaped before m low h t s r) (seek-rising before m low h t s r) f in
      rw (seek-slot before m low h t s r f, seek-rest before m low h t s r f) (ap (λ (l : List ℕ). gap_of before t.own ∷ l) ih)

  pub seek-pages : (m low h : ℕ) (t : Tree h) → Shaped m low h t → Rising (entries h t) → Falls before
      → seek_pages before h t ≡ gap_pages h t (gap_of before (entries h t))
  unfolding seek_pages gap_pages
  seek-pages m low zero t s r f = refl
  seek-pages m low (suc h) t s r f =
      let ih = seek-pages m m h (seek_child before h t) (seek-shaped before m low h t s r) (seek-rising before m low h t s r) f in
      rw (seek-slot before m low h t s r f, seek-rest before m low h t s r f) (ap (λ (l : List ℕ). t.page ∷ l) ih)

-- ---- the path of any gap

pub path-long : (h : ℕ) (t : Tree h) (g : ℕ) → (length (gap_pages h t g) ≡ h) × (length (gap_slots h t g) ≡ h)
unfolding gap_pages gap_slots
path-long zero t g = (refl, refl)
path-long (suc h) t g = let p = path-long h (child_at h t g) (rest_at h t g) in (ap suc p.0, ap suc p.1)

-- ---- the search path of a key: what the search answers, and the pages that it reads

-- it is no longer than there are levels
pub search-few : (k h : ℕ) (t : Tree h) → length (search_path k h t) ≤ h
unfolding search_path
search-few k zero t = omega arith
search-few k (suc h) t =
    either (at k t.own (gap_before k t.own))
    (λ y. rw y (omega arith))
    (λ n. rw n (omega (arith, search-few k h (seek_child (λ x. ltb x k) h t))))

module _ (k m low h : ℕ) (t : Tree (suc h)) (s : Shaped m low (suc h) t) (r : Rising (entries (suc h) t)) where
  -- the key is the page's own entry, or it is the child's that the search goes on to
  has-below : at k t.own (gap_before k t.own) ≡ false → has k (entries (suc h) t) ≡ has k (entries h (seek_child (λ x. ltb x k) h t))
  unfolding entries Shaped
  has-below n =
      let c = seek_child (λ x. ltb x k) h t in
      has-lookup k (entries (suc h) t) ∙ rw (lookup-seek (entries h) k t.children t.own (no_tree h) s.forks r, n) (sym (has-lookup k (entries h c)))

  has_here : at k t.own (gap_before k t.own) ≡ true → has k (entries (suc h) t) ≡ true
  unfolding entries Shaped
  has_here y = has-lookup k (entries (suc h) t) ∙ rw (lookup-seek (entries h) k t.children t.own (no_tree h) s.forks r, y)

-- of a key that is absent it is all levels
pub search-absent : (k m low h : ℕ) (t : Tree h) → Shaped m low h t → Rising (entries h t) → has k (entries h t) ≡ false → length (search_path k h t) ≡ h
unfolding search_path
search-absent k m low zero t s r none = refl
search-absent k m low (suc h) t s r none =
    let before : ℕ → Bool = λ x. ltb x k in
    either (at k t.own (gap_before k t.own))
    (λ y. contrary (has_here k m low h t s r y) none)
    (λ n. rw n (ap suc (search-absent k m m h (seek_child before h t) (seek-shaped before m low h t s r) (seek-rising before m low h t s r)
    (sym (has-below k m low h t s r n) ∙ none))))

-- of a key that is there it ends at the page that holds it
module _ (k m : ℕ) (pages : ℕ → List ℕ) where
  abbrev found : (d h p : ℕ) → ℕ
  found d h p = final d (search_path k h (read_tree m pages h p))

  ends_there : (low d h p : ℕ) → Shaped m low h (read_tree m pages h p) → Rising (entries h (read_tree m pages h p))
      → has k (entries h (read_tree m pages h p)) ≡ true → has k (entries_of (most_entries m) (pages (found d h p))) ≡ true
  unfolding search_path read_tree entries has
  ends_there low d zero p s r there = contrary there refl
  ends_there low d (suc h) p s r there =
      let t = read_tree m pages (suc h) p in
      let before : ℕ → Bool = λ x. ltb x k in
      let i = gap_before k t.own in
      either (at k t.own i)
      (λ y. rw y (has-slot k t.own i y))
      (λ n.
      let c = children_of (most_entries m) (pages p) in
      let below : child h t i ≡ read_tree m pages h (get_or c i 0) =
      get_or_map (read_tree m pages h) c i 0 (no_tree h) (omega (arith, seek-inside before m low h t s r, length-map c (read_tree m pages h))) in
      rw (n, below)
      (ends_there m p h (get_or c i 0) (rw below at (seek-shaped before m low h t s r)) (rw below at (seek-rising before m low h t s r))
      (rw below at (sym (has-below k m low h t s r n) ∙ there))))

  pub search-present : (low h p : ℕ) → Shaped m low h (read_tree m pages h p) → Rising (entries h (read_tree m pages h p))
      → has k (entries h (read_tree m pages h p)) ≡ true → has k (entries_of (most_entries m) (pages (found 0 h p))) ≡ true
  search-present low h p = ends_there low 0 h p

-- what the search answers
pub found-held : (k m low h : ℕ) (t : Tree h) → Shaped m low h t → Rising (entries h t) → value_found k h t ≡ lookup k (entries h t)
unfolding value_found entries Shaped lookup
found-held k m low zero t s r = refl
found-held k m low (suc h) t s r =
    let before : ℕ → Bool = λ x. ltb x k in
    let ih = found-held k m m h (seek_child before h t) (seek-shaped before m low h t s r) (seek-rising before m low h t s r) in
    rw (lookup-seek (entries h) k t.children t.own (no_tree h) s.forks r, ih)

-- it reads the first pages of the way to the key's gap
pub search-way : (k m low h : ℕ) (t : Tree h) → Shaped m low h t → Rising (entries h t)
    → search_path k h t ≡ take (length (search_path k h t)) (gap_pages h t (gap_before k (entries h t)))
unfolding search_path seek_pages
search-way k m low h t s r = first h t ∙ ap (take (length (search_path k h t))) (seek-pages (λ x. ltb x k) m low h t s r (falls_below k))
  where
    first : (h : ℕ) (t : Tree h) → search_path k h t ≡ take (length (search_path k h t)) (seek_pages (λ x. ltb x k) h t)
    first zero t = refl
    first (suc h) t =
        either (at k t.own (gap_before k t.own))
        (λ y. rw y)
        (λ n. rw n (ap (λ (l : List ℕ). t.page ∷ l) (first h (seek_child (λ x. ltb x k) h t))))
