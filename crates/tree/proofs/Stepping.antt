-- A step along a path, page by page: where the child has an entry over its gap, that is the page's too and the page's
-- slot stays; where the child is at its end, it is the page's own entry, and the path goes on at the near end of the
-- child behind that. Both directions go by the same laws.
-- Assumes nothing.
use mathlib.Core.Path.{◌≡◌, refl, sym, ap, ◌∙◌}
use mathlib.Core.Option.{Option, none, some}
use mathlib.Core.List.{List, [], ◌∷◌}
use Prim.Native.Nat.{ℕ, zero, suc, ◌≤◌, ◌<◌}
use native.Mathlib.Omega.{arith}
use lib.ListN.{length, drop, get_or}
use Rattle.std.specs.Prelude.{None, Ok}
use Rattle.model.specs.Tree.{Entry, Tree, no_entry, no_tree, entries, size, Rising, Shaped}
use Rattle.model.specs.Entries.{next, prev, forth, back, gap_of}
use Rattle.model.specs.Gap.{slot_at, rest_at, child, child_at}
use Rattle.model.specs.Path.{gap_pages, gap_slots, seek_pages, seek_slots}
use Rattle.lend.specs.Pages.{least}
use Rattle.tree.specs.declared.search.Aim.{Aim}
use Rattle.tree.specs.declared.search.Aim.TheVariants.{Start, End}
use Rattle.tree.specs.Sits.{PathIn, PathOf, Sits}
use Rattle.tree.specs.Search.{aimed}
use Rattle.tree.specs.Steps.{Step, step_by, Steps, Overs}
use Rattle.model.proofs.Cases.{either_lt, never}
use Rattle.model.proofs.Basics.{next-some, next-none}
use Rattle.model.proofs.Entries.{gap-start, gap-end}
use Rattle.model.proofs.Gap.{way_down}
use Rattle.model.proofs.Search.{child-rising, seek-pages, seek-slots, path-long}
use Rattle.tree.proofs.Sitting.{sits-child, sits-forks, sits-slot, sits-rest}
use Rattle.tree.proofs.Seeking.{falls-aim}
use Rattle.tree.proofs.Seams.{next_under, next-seam, next-seam-gap, prev-under, prev-seam, prev-first, start-slot}

-- ---- the two directions

-- what a step has to know of its direction: over what it goes, `over`, and where to, `to`
pub record Way (over : ℕ → List Entry → Option Entry) (to : Option Entry → ℕ → ℕ) : Type 0 where
  pub void : (g : ℕ) → over g [] ≡ none
  pub stays : (g : ℕ) → to none g ≡ g
  -- the child's entry over the gap is the page's
  pub under : (m low h : ℕ) (t : Tree (suc h)) (g : ℕ) (e : Entry) → Shaped m low (suc h) t → g ≤ size (suc h) t
      → over (rest_at h t g) (entries h (child_at h t g)) ≡ some e
      → (over g (entries (suc h) t) ≡ some e) × (slot_at h t (to (some e) g) ≡ slot_at h t g) × (rest_at h t (to (some e) g) ≡ to (some e) (rest_at h t g))

-- over own entry s of the page, to the aim's end of child i
pub record Seam (over : ℕ → List Entry → Option Entry) (to : Option Entry → ℕ → ℕ) (aim : Aim) (s i h : ℕ) (t : Tree (suc h)) (g : ℕ) : Type 0 where
  pub own : over g (entries (suc h) t) ≡ next s t.own
  pub fits : s < length t.own → i ≤ length t.own
  pub slot_is : (e : Entry) → s < length t.own → slot_at h t (to (some e) g) ≡ i
  pub rest-is : (e : Entry) → s < length t.own → rest_at h t (to (some e) g) ≡ gap_of (aimed aim) (entries h (child h t i))

-- where the next is none, the gap is the end
next-end : (l : List Entry) (g : ℕ) → g ≤ length l → next g l ≡ none → g ≡ length l
next-end l g b e = either_lt g (length l) (λ n. never (cc (next-some l g no_entry n))) (λ n. omega arith)

prev-start : (l : List Entry) (g : ℕ) → g ≤ length l → prev g l ≡ none → g ≡ 0
prev-start l zero b e = refl
prev-start l (suc g) b e = never (cc (next-some l g no_entry b))

pub forward : Way next forth
forward = record {
  void = λ g. refl;
  stays = λ g. refl;
  under = λ m low h t g e s b q.
      either_lt (rest_at h t g) (size h (child_at h t g))
      (λ l. let r = next_under m low h t s g b l in (r.0 ∙ q, r.1, r.2))
      (λ l. never (cc (next-none (entries h (child_at h t g)) (rest_at h t g) l)));
}

pub forward-seam : (m low h : ℕ) (t : Tree (suc h)) (g : ℕ) → Shaped m low (suc h) t → g ≤ size (suc h) t → rest_at h t g ≤ size h (child_at h t g)
    → next (rest_at h t g) (entries h (child_at h t g)) ≡ none → Seam next forth Start (slot_at h t g) (suc (slot_at h t g)) h t g
forward-seam m low h t g s b f q =
    let e = next-end (entries h (child_at h t g)) (rest_at h t g) f q in
    record {
      own = next-seam m low h t s g b e;
      fits = λ l. l;
      slot_is = λ _ l. (next-seam-gap m low h t s g b e l).0;
      rest-is = λ _ l. (next-seam-gap m low h t s g b e l).1 ∙ sym (gap-start (entries h (child h t (suc (slot_at h t g)))));
    }

pub backward : Way prev back
backward = record {
  void = λ g. void g;
  stays = λ g. refl;
  under = λ m low h t g e s b q. under m low h t g e s b (rest_at h t g) refl q;
}
  where
    void : (g : ℕ) → prev g [] ≡ none
    void zero = refl
    void (suc g) = refl

    under : (m low h : ℕ) (t : Tree (suc h)) (g : ℕ) (e : Entry) → Shaped m low (suc h) t → g ≤ size (suc h) t → (r : ℕ) → rest_at h t g ≡ r
        → prev r (entries h (child_at h t g)) ≡ some e
        → (prev g (entries (suc h) t) ≡ some e) × (slot_at h t (back (some e) g) ≡ slot_at h t g) × (rest_at h t (back (some e) g) ≡ back (some e) r)
    under m low h t g e s b zero i q = never (cc)
    under m low h t zero e s b (suc r) i q = absurd (omega (arith, (way_down m low h t 0 s b).place))
    under m low h t (suc g) e s b (suc r) i q = let v = prev-under m low h t s g b r i in (v.0 ∙ q, v.1, v.2)

pub backward-seam : (m low h : ℕ) (t : Tree (suc h)) (g j : ℕ) → Shaped m low (suc h) t → g ≤ size (suc h) t → rest_at h t g ≤ size h (child_at h t g)
    → prev (rest_at h t g) (entries h (child_at h t g)) ≡ none → slot_at h t g ≡ suc j → Seam prev back End j j h t g
backward-seam m low h t zero j s b f q i = absurd (omega (arith, start-slot m low h t s))
backward-seam m low h t (suc g) j s b f q i =
    let r = prev-seam m low h t s g b (prev-start (entries h (child_at h t (suc g))) (rest_at h t (suc g)) f q) j i in
    record {
      own = r.0;
      fits = λ l. omega arith;
      slot_is = λ _ _. r.1;
      rest-is = λ _ _. r.2 ∙ sym (gap-end (entries h (child h t j)));
    }

-- the first child's first gap is the page's
pub backward-start : (m low h : ℕ) (t : Tree (suc h)) (g : ℕ) → Shaped m low (suc h) t → g ≤ size (suc h) t → rest_at h t g ≤ size h (child_at h t g)
    → prev (rest_at h t g) (entries h (child_at h t g)) ≡ none → slot_at h t g ≡ 0 → prev g (entries (suc h) t) ≡ none
backward-start m low h t zero s b f q i = refl
backward-start m low h t (suc g) s b f q i =
    absurd (prev-first m low h t s g b (prev-start (entries h (child_at h t (suc g))) (rest_at h t (suc g)) f q) i)

-- ---- the path of a gap, page by page

module _ (h : ℕ) (t : Tree (suc h)) (g : ℕ) where
  pub path-down : {p s : ℕ} {ps ss : List ℕ} → PathOf (suc h) t g (p ∷ ps) (s ∷ ss)
      → (p ≡ t.page) × (s ≡ slot_at h t g) × PathOf h (child_at h t g) (rest_at h t g) ps ss
  unfolding gap_pages gap_slots
  path-down a = (
    ap (λ (l : List ℕ). get_or l 0 0) a.pages,
    ap (λ (l : List ℕ). get_or l 0 0) a.slots,
    record { pages = ap (drop 1) a.pages; slots = ap (drop 1) a.slots },
  )

  pub path-up : {g' i : ℕ} {ps ss : List ℕ} → slot_at h t g ≡ i → rest_at h t g ≡ g' → PathOf h (child h t i) g' ps ss
      → PathOf (suc h) t g (t.page ∷ ps) (i ∷ ss)
  unfolding gap_pages gap_slots
  path-up {g'} {i} e f a = record {
    pages = rw (f, e) (ap (λ (l : List ℕ). t.page ∷ l) a.pages);
    slots = rw (f, e) (ap (λ (l : List ℕ). i ∷ l) a.slots);
  }

pub path-none : {t : Tree 0} {g p : ℕ} {ps ss : List ℕ} → PathOf 0 t g (p ∷ ps) ss → ⊥
unfolding gap_pages
path-none {t} {g} {p} {ps} {ss} a = let z : suc (length ps) ≡ 0 = ap length a.pages in omega arith

-- the end of a tree that the aim says is the path that the search goes
pub path-seek : (m low h : ℕ) (t : Tree h) (a : Aim) → Shaped m low h t → Rising (entries h t)
    → PathOf h t (gap_of (aimed a) (entries h t)) (seek_pages (aimed a) h t) (seek_slots (aimed a) h t)
path-seek m low h t a s r =
    record { pages = seek-pages (aimed a) m low h t s r (falls-aim a); slots = seek-slots (aimed a) m low h t s r (falls-aim a) }

pub rising-child : (w : List ℕ) (low h : ℕ) (t : Tree (suc h)) (i : ℕ) → Sits w low (suc h) t → Rising (entries (suc h) t) → i ≤ length t.own
    → Rising (entries h (child h t i))
unfolding entries
rising-child w low h t i s r b =
    let k = sits-forks w low h t s in
    child-rising (entries h) t.children t.own i (no_tree h) k (omega arith) r

-- ---- a step

step-none : (o : Option Entry) → Ok None ≡ step_by o → o ≡ none
step-none none e = refl
step-none (some y) e = never (cc)

module _ (over : ℕ → List Entry → Option Entry) (to : Option Entry → ℕ → ℕ) (way : Way over to) (w : List ℕ) where
  -- where nothing stands over the gap, nothing is done
  pub step-still : {ps ss : List ℕ}
      → ((low h : ℕ) (t : Tree h) (g : ℕ) → Sits w low h t → Rising (entries h t) → g ≤ size h t → PathOf h t g ps ss → over g (entries h t) ≡ none)
      → Steps over to w ps ss ps ss (Ok None)
  step-still f = record {
    pages = refl;
    slots = refl;
    inside = λ x e. never (cc);
    still = λ _. (refl, refl);
    exact = λ low h t g s r b a. rw (f low h t g s r b a);
    path = λ low h t g s r b a. rw (f low h t g s r b a, way.stays g) a;
  }

  -- what is told of the child
  told_below : {p s : ℕ} {ps ss ps' ss' : List ℕ} {r : Step} → Steps over to w ps ss ps' ss' r
      → (low h : ℕ) (t : Tree (suc h)) (g : ℕ) → Sits w low (suc h) t → Rising (entries (suc h) t) → g ≤ size (suc h) t → PathOf (suc h) t g (p ∷ ps) (s ∷ ss)
      → (r ≡ step_by (over (rest_at h t g) (entries h (child_at h t g))))
      × PathOf h (child_at h t g) (to (over (rest_at h t g) (entries h (child_at h t g))) (rest_at h t g)) ps' ss'
  told_below c low h t g u up b a =
      let i = slot_at h t g in
      let l = sits-slot w low h t u g b in
      let v = sits-child w low h t u i l in
      let r = rising-child w low h t i u up l in
      let d = (path-down h t g a).2 in
      let f = sits-rest w low h t u g b in
      (c.exact least h (child_at h t g) (rest_at h t g) v r f d, c.path least h (child_at h t g) (rest_at h t g) v r f d)

  -- what the child answers, other than that it is at its end
  pub step-below : {p s : ℕ} {ps ss ps' ss' : List ℕ} {r : Step} → PathIn w (p ∷ ps) (s ∷ ss) → (r ≡ Ok None → ⊥) → Steps over to w ps ss ps' ss' r
      → Steps over to w (p ∷ ps) (s ∷ ss) (p ∷ ps') (s ∷ ss') r
  step-below {p} {s} {ps} {ss} {ps'} {ss'} {r} q n c = record {
    pages = ap suc c.pages;
    slots = ap suc c.slots;
    inside = λ x e. let i = c.inside x e in record { even = ap suc i.even; inside = (q.inside.0, i.inside); slots = (q.slots.0, i.slots) };
    still = λ e. absurd (n e);
    exact = λ low h t g s r b a. (both low h t g s r b a).0;
    path = λ low h t g s r b a. (both low h t g s r b a).1;
  }
    where
      both : (low h : ℕ) (t : Tree h) (g : ℕ) → Sits w low h t → Rising (entries h t) → g ≤ size h t → PathOf h t g (p ∷ ps) (s ∷ ss)
          → (r ≡ step_by (over g (entries h t))) × PathOf h t (to (over g (entries h t)) g) (p ∷ ps') (s ∷ ss')
      both low zero t g u up b a = absurd (path-none a)
      both low (suc h) t g u up b a = go (over (rest_at h t g) (entries h (child_at h t g))) refl (told_below c low h t g u up b a)
        where
          go : (o : Option Entry) → over (rest_at h t g) (entries h (child_at h t g)) ≡ o
              → (r ≡ step_by o) × PathOf h (child_at h t g) (to o (rest_at h t g)) ps' ss'
              → (r ≡ step_by (over g (entries (suc h) t))) × PathOf (suc h) t (to (over g (entries (suc h) t)) g) (p ∷ ps') (s ∷ ss')
          go none e x = absurd (n x.0)
          go (some y) e x =
              let d = path-down h t g a in
              let v = way.under least low h t g y u.shaped b e in
              rw (v.0, d.0, d.1) (x.0, path-up h t (to (some y) g) v.1 v.2 x.1)

  -- the child is at its end, and the page too
  pub step_end : {p s : ℕ} {ps ss ps₁ ss₁ : List ℕ} → Steps over to w ps ss ps₁ ss₁ (Ok None)
      → ((low h : ℕ) (t : Tree (suc h)) (g : ℕ) → Sits w low (suc h) t → g ≤ size (suc h) t → s ≡ slot_at h t g
      → over (rest_at h t g) (entries h (child_at h t g)) ≡ none → over g (entries (suc h) t) ≡ none)
      → Steps over to w (p ∷ ps) (s ∷ ss) (p ∷ ps) (s ∷ ss) (Ok None)
  step_end {p} {s} {ps} {ss} {ps₁} {ss₁} c seam = step-still last
    where
      last : (low h : ℕ) (t : Tree h) (g : ℕ) → Sits w low h t → Rising (entries h t) → g ≤ size h t → PathOf h t g (p ∷ ps) (s ∷ ss) → over g (entries h t) ≡ none
      last low zero t g u up b a = absurd (path-none a)
      last low (suc h) t g u up b a =
          seam low h t g u b (path-down h t g a).1 (step-none (over (rest_at h t g) (entries h (child_at h t g))) (told_below c low h t g u up b a).0)

  -- where the child is at its end, over the page's own entry
  pub step-over : {p s₀ s i : ℕ} {aim : Aim} {ps ss ps₁ ss₁ ps' ss' : List ℕ} {r : Step} → Steps over to w ps ss ps₁ ss₁ (Ok None)
      → ((low h : ℕ) (t : Tree (suc h)) (g : ℕ) → Sits w low (suc h) t → g ≤ size (suc h) t → s₀ ≡ slot_at h t g
      → over (rest_at h t g) (entries h (child_at h t g)) ≡ none → Seam over to aim s i h t g)
      → Overs w s i aim (p ∷ ps) (s₀ ∷ ss) ps' ss' r → Steps over to w (p ∷ ps) (s₀ ∷ ss) ps' ss' r
  step-over {p} {s₀} {s} {i} {aim} {ps} {ss} {ps₁} {ss₁} {ps'} {ss'} {r} c seam o = record {
    pages = o.pages;
    slots = o.slots;
    inside = o.inside;
    still = o.still;
    exact = λ low h t g s r b a. (both low h t g s r b a).0;
    path = λ low h t g s r b a. (both low h t g s r b a).1;
  }
    where
      both : (low h : ℕ) (t : Tree h) (g : ℕ) → Sits w low h t → Rising (entries h t) → g ≤ size h t → PathOf h t g (p ∷ ps) (s₀ ∷ ss)
          → (r ≡ step_by (over g (entries h t))) × PathOf h t (to (over g (entries h t)) g) ps' ss'
      both low zero t g u up b a = absurd (path-none a)
      both low (suc h) t g u up b a =
          let d = path-down h t g a in
          let m = seam low h t g u b d.1 (step-none (over (rest_at h t g) (entries h (child_at h t g))) (told_below c low h t g u up b a).0) in
          either_lt s (length t.own)
          (λ l.
          let y = get_or t.own s no_entry in
          let q = o.over low h t (ap length a.pages ∙ (path-long (suc h) t g).0) u up d.0 l (m.fits l) in
          let v = sits-child w low h t u i (m.fits l) in
          rw (m.own, next-some t.own s no_entry l, q.1, q.2) (
            q.0,
            path-up h t (to (some y) g) (m.slot_is y l) (m.rest-is y l)
                (path-seek least least h (child h t i) aim v.shaped (rising-child w low h t i u up (m.fits l))),
          ))
          (λ l.
          let q = o.none low h t u d.0 l in
          let k = o.still q in
          rw (m.own, next-none t.own s l, way.stays g, k.0, k.1) (q, a))
