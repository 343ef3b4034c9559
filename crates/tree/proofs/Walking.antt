-- The loop of check's walk over the children and entries of one page: what is left of it gives the whole walk; and how
-- many pages and entries it has met, on any words.
-- Assumes nothing.
use mathlib.Core.Path.{◌≡◌, refl, sym, ap, subst, ◌∙◌}
use mathlib.Core.Bool.{true, false}
use mathlib.Core.List.{List, [], ◌∷◌}
use Prim.Native.Nat.{ℕ, zero, suc, ◌+◌, ◌*◌, ◌-◌, ◌≤◌, ◌<◌}
use native.Mathlib.Numerals.{add-one}
use native.Mathlib.Omega.{arith}
use lib.Dec.{leb, ltb}
use lib.ListN.{length, drop, drop_of_length-le}
use lib.Seq.{drop-cons}
use borrow.Author.Tests.{ltb-true, lt-ltb, le-ltb, le-leb}
use Rattle.std.specs.Prelude.{Ok, Err}
use Rattle.model.specs.Basics.{every}
use Rattle.model.specs.Layout.{first_word, pages_in, today}
use Rattle.model.specs.Tree.{Entry, entry, no_entry}
use Rattle.model.specs.Page.{count_of, child_in, entry_in, entries_of, children_of}
use Rattle.lend.specs.Pages.{least, most, Inside, page_in}
use Rattle.tree.specs.declared.check.Tally.{Tally}
use Rattle.tree.specs.Search.{below_of, unsound}
use Rattle.tree.specs.Check.{stand_tests, key_rises, value_fits, entry_tests, Said, told, broken, over_entry, over_entry_at, in_turn, over_tree, Walks}
use Rattle.model.proofs.Cases.{either, either_lt, never}
use Rattle.model.proofs.Basics.{get_or-tab, every_true}
use Rattle.model.proofs.Read.{length-own, length-children}
use Rattle.tree.proofs.Meeting.{turn-stop}
use Rattle.tree.proofs.Walked.{over-stop}

-- ---- one entry

module _ (w : List ℕ) (p i n : ℕ) where
  entry-stop : over_entry_at w p i n broken ≡ broken
  unfolding over_entry_at over_entry
  entry-stop = either_lt i n (λ l. rw (lt-ltb i n l)) (λ l. rw (le-ltb i n l))

  -- no page more, and one entry where there is one
  entry-numbers : (t t₁ : Tally) → Ok t₁ ≡ over_entry_at w p i n (Ok t) → (t₁.pages ≡ t.pages) × (t₁.entries ≤ t.entries + 1) × (n ≤ i → t₁.entries ≡ t.entries)
  unfolding over_entry_at over_entry
  entry-numbers t t₁ e =
      either_lt i n
      (λ l. let one = rw (lt-ltb i n l) at e in
      either (every (entry_tests w (entry_in most (page_in w p) i) t.entries t.last))
      (λ y. let of = rw y at one in
      let is : t₁ ≡ record { pages = t.pages; entries = t.entries + 1; last = (entry_in most (page_in w p) i).key } = cc in
      let pages : t₁.pages ≡ t.pages = ap (λ (x : Tally). x.pages) is in
      let more : t₁.entries ≡ t.entries + 1 = ap (λ (x : Tally). x.entries) is in
      (pages, omega arith, λ m. absurd (omega arith)))
      (λ o. let of = rw o at one in never (cc)))
      (λ l. let of = rw (le-ltb i n l) at e in
      let is : t₁ ≡ t = cc in
      let pages : t₁.pages ≡ t.pages = ap (λ (x : Tally). x.pages) is in
      let same : t₁.entries ≡ t.entries = ap (λ (x : Tally). x.entries) is in
      (pages, omega arith, λ m. same))

  module _ (t : Tally) where
    pub meet-past : n ≤ i → Ok t ≡ over_entry_at w p i n (Ok t)
    unfolding over_entry_at
    meet-past l = rw (le-ltb i n l)

    module _ (key value : ℕ) (is : entry key value ≡ entry_in most (page_in w p) i) (l : i < n) where
      pub meet_low : key_rises t.entries t.last key ≡ false → broken ≡ over_entry_at w p i n (Ok t)
      unfolding over_entry_at over_entry
      meet_low e = rw (lt-ltb i n l) (subst (λ (x : Entry). broken ≡ over_entry w x (Ok t)) is (rw e))

      pub meet-value : key_rises t.entries t.last key ≡ true → value_fits w value ≡ false → broken ≡ over_entry_at w p i n (Ok t)
      unfolding over_entry_at over_entry
      meet-value e v = rw (lt-ltb i n l) (subst (λ (x : Entry). broken ≡ over_entry w x (Ok t)) is (rw (e, v)))

      pub meet-fine : key_rises t.entries t.last key ≡ true → value_fits w value ≡ true → told t.pages (t.entries + 1) key ≡ over_entry_at w p i n (Ok t)
      unfolding over_entry_at over_entry
      meet-fine e v = rw (lt-ltb i n l) (subst (λ (x : Entry). told t.pages (t.entries + 1) key ≡ over_entry w x (Ok t)) is (rw (e, v)))

-- ---- one child and the entry after it

module _ (w : List ℕ) (p : ℕ) where
  abbrev cs : List ℕ
  cs = children_of most (page_in w p)

  abbrev os : List Entry
  os = entries_of most (page_in w p)

  abbrev child : ℕ → ℕ
  child i = child_in most (page_in w p) i

  drop-child : (i : ℕ) → i ≤ count_of (page_in w p) → drop i cs ≡ child i ∷ drop (suc i) cs
  unfolding children_of
  drop-child i l =
      drop-cons cs i 0 (omega (arith, length-children most (page_in w p)))
      ∙ ap (λ (c : ℕ). c ∷ drop (suc i) cs) (get_or-tab (suc (count_of (page_in w p))) child i 0 (omega arith))

  drop-entry : (i : ℕ) → i < count_of (page_in w p) → drop i os ≡ entry_in most (page_in w p) i ∷ drop (suc i) os
  unfolding entries_of
  drop-entry i l =
      drop-cons os i no_entry (omega (arith, length-own most (page_in w p)))
      ∙ ap (λ (e : Entry). e ∷ drop (suc i) os) (get_or-tab (count_of (page_in w p)) (entry_in most (page_in w p)) i no_entry l)

  turn_step : (f : ℕ → Said → Said) (n i : ℕ) (r : Said) → n ≡ count_of (page_in w p) → i ≤ n
      → in_turn w f (drop i cs) (drop i os) r ≡ in_turn w f (drop (i + 1) cs) (drop (i + 1) os) (over_entry_at w p i n (f (child i) r))
  unfolding in_turn over_entry_at
  turn_step f n i r e l =
      let here = drop-child i (omega arith) in
      either_lt i n
      (λ m. let after = drop-entry i (omega arith) in rw (here, after, add-one i, lt-ltb i n m))
      (λ m.
      let none : drop i os ≡ [] = drop_of_length-le os {i = i} (omega (arith, length-own most (page_in w p))) in
      let end : drop (suc i) cs ≡ [] = drop_of_length-le cs {i = suc i} (omega (arith, length-children most (page_in w p))) in
      rw (here, none, add-one i, end, le-ltb i n m))

  turn_end : (f : ℕ → Said → Said) (n i : ℕ) (r : Said) → n ≡ count_of (page_in w p) → n < i → in_turn w f (drop i cs) (drop i os) r ≡ r
  unfolding in_turn
  turn_end f n i r e l = let end : drop i cs ≡ [] = drop_of_length-le cs {i = i} (omega (arith, length-children most (page_in w p))) in rw end

-- ---- the loop

-- the walk over page p and below, `t` having been met before
module _ (w : List ℕ) (p h low : ℕ) (t : Tally) where
  abbrev f : ℕ → Said → Said
  f c r = over_tree w h c least r

  abbrev whole : Said
  whole = over_tree w (suc h) p low (Ok t)

  walks-broken : whole ≡ broken → Walks w p h low t broken
  walks-broken e = record { few = tt; exact = sym e }

  pub stand-broken : every (stand_tests w p h low t.pages) ≡ false → Walks w p h low t broken
  unfolding over_tree
  stand-broken e =
      walks-broken (either (ltb p (pages_in today (length w))) (λ y. rw (y, e)) (λ n. rw n))

  -- before child i: n entries are in the page, and `m` has been met
  pub record Going (n i : ℕ) (m : Tally) : Type 0 where
    pub le : i ≤ n + 1
    pub few : m.pages ≤ pages_in today (length w)
    pub so_far : m.entries + most * (t.pages + 1) ≤ t.entries + most * m.pages + i
    pub in_all : m.entries + most * (t.pages + 1) ≤ t.entries + most * m.pages + n
    pub rest : in_turn w f (drop i (cs w p)) (drop i (os w p)) (Ok m) ≡ whole

  pub going_start : (n : ℕ) → first_word today 0 ≤ length w → Inside p w → every (stand_tests w p h low t.pages) ≡ true
      → Going n 0 (record { pages = t.pages + 1; entries = t.entries; last = t.last })
  unfolding over_tree
  going_start n l i y =
      let m = ltb-true t.pages (pages_in today (length w)) (every_true (stand_tests w p h low t.pages) y).0 in
      record {
        le = omega arith;
        few = omega arith;
        so_far = omega arith;
        in_all = omega arith;
        rest = rw (lt-ltb p (pages_in today (length w)) (omega arith), y);
      }

  -- child i was walked
  pub record Child (i : ℕ) (m m₁ : Tally) : Type 0 where
    pub few : m₁.pages ≤ pages_in today (length w)
    pub more : m₁.entries + most * m.pages ≤ m.entries + most * m₁.pages
    pub walked : f (child w p i) (Ok m) ≡ Ok m₁

  -- a leaf's children are trees of no levels
  pub child-none : (i : ℕ) (m : Tally) → h ≤ 0 → m.pages ≤ pages_in today (length w) → Child i m m
  unfolding over_tree
  child-none i m z l = record { few = l; more = omega arith; walked = none h z }
    where
      none : (h : ℕ) → h ≤ 0 → over_tree w h (child w p i) least (Ok m) ≡ Ok m
      none zero z = refl
      none (suc h) z = absurd (omega arith)

  -- its page lies inside the pool
  pub below-found : (i c : ℕ) → Ok c ≡ below_of w p i → (c ≡ child w p i) × (c < pages_in today (length w))
  unfolding below_of
  below-found i c e =
      either (leb i most)
      (λ y. let e₁ = rw y at e in
      either (ltb (child w p i) (pages_in today (length w)))
      (λ z. let e₂ = rw z at e₁ in let here : c ≡ child w p i = cc in let inside = ltb-true (child w p i) (pages_in today (length w)) z in (here, omega arith))
      (λ z. let e₂ = rw z at e₁ in never (cc)))
      (λ y. let e₁ = rw y at e in never (cc))

  pub child-exact : (i c : ℕ) (m : Tally) (r : Said) → 0 < h → c ≡ child w p i → Walks w c (h - 1) least m r → f (child w p i) (Ok m) ≡ r
  child-exact i c m r l e x =
      let up : suc (h - 1) ≡ h = omega arith in
      sym (x.exact ∙ rw (up, e))

  pub child-some : (i c : ℕ) (m m₁ : Tally) → 0 < h → Ok c ≡ below_of w p i → Walks w c (h - 1) least m (Ok m₁) → Child i m m₁
  child-some i c m m₁ l e x =
      record { few = x.few.0; more = x.few.1; walked = child-exact i c m (Ok m₁) l (below-found i c e).0 x }

  module _ (n i : ℕ) (m : Tally) (g : Going n i m) (is : n ≡ count_of (page_in w p)) where
    pub going_step : (m₁ m₂ : Tally) → i ≤ n → Child i m m₁ → Ok m₂ ≡ over_entry_at w p i n (Ok m₁) → Going n (i + 1) m₂
    going_step m₁ m₂ l c e =
        let numbers = entry-numbers w p i n m₁ m₂ e in
        let pages-same = numbers.0 in
        let one_more = numbers.1 in
        let at-end = numbers.2 in
        let few = c.few in
        let more = c.more in
        let so_far = g.so_far in
        let in_all = g.in_all in
        record {
          le = omega arith;
          few = omega arith;
          so_far = omega arith;
          in_all = either_lt i n (λ l. omega arith) (λ l. omega (arith, at-end l));
          rest =
              ap (in_turn w f (drop (i + 1) (cs w p)) (drop (i + 1) (os w p))) (e ∙ ap (over_entry_at w p i n) (sym c.walked))
              ∙ sym (turn_step w p f n i (Ok m) is l) ∙ g.rest;
        }

    going-broken : i ≤ n → over_entry_at w p i n (f (child w p i) (Ok m)) ≡ broken → Walks w p h low t broken
    going-broken l e =
        walks-broken
        (sym g.rest ∙ turn_step w p f n i (Ok m) is l ∙ ap (in_turn w f (drop (i + 1) (cs w p)) (drop (i + 1) (os w p))) e
        ∙ turn-stop w f (λ c. over-stop w h c least) (drop (i + 1) (cs w p)) (drop (i + 1) (os w p)))

    child-broken : i ≤ n → f (child w p i) (Ok m) ≡ broken → Walks w p h low t broken
    child-broken l e = going-broken l (ap (over_entry_at w p i n) e ∙ entry-stop w p i n)

    -- the child's page lies outside the pool
    pub below-broken : i ≤ n → n ≤ most → 0 < h → Err unsound ≡ below_of w p i → Walks w p h low t broken
    unfolding below_of over_tree
    below-broken l many z e = child-broken l (outside h z)
      where
        out : ltb (child w p i) (pages_in today (length w)) ≡ false
        out =
            let e₁ = rw (le-leb i most (omega arith)) at e in
            either (ltb (child w p i) (pages_in today (length w)))
            (λ y. let e₂ = rw y at e₁ in never (cc))
            (λ y. y)

        outside : (h : ℕ) → 0 < h → over_tree w h (child w p i) least (Ok m) ≡ broken
        outside zero z = absurd (omega arith)
        outside (suc h) z = rw out

    pub walk-broken : (c : ℕ) → i ≤ n → 0 < h → Ok c ≡ below_of w p i → Walks w c (h - 1) least m broken → Walks w p h low t broken
    walk-broken c l z e x = child-broken l (child-exact i c m broken z (below-found i c e).0 x)

    pub entry-broken : (m₁ : Tally) → i ≤ n → Child i m m₁ → broken ≡ over_entry_at w p i n (Ok m₁) → Walks w p h low t broken
    entry-broken m₁ l c e = going-broken l (ap (over_entry_at w p i n) c.walked ∙ sym e)

    pub going_end : n ≤ most → n < i → Walks w p h low t (Ok m)
    going_end many l =
        let few = g.few in
        let in_all = g.in_all in
        record { few = (omega arith, omega arith); exact = sym (turn_end w p f n i (Ok m) is l) ∙ g.rest }
