-- An entry and the child behind it put into one page: what the callees say of the page, the map and the other pages,
-- said of the pool before and after.
-- Assumes nothing.
use mathlib.Core.Path.{◌≡◌, refl, sym, ◌∙◌}
use mathlib.Core.Bool.{true}
use mathlib.Core.Logic.{◌≢◌}
use mathlib.Core.List.{List}
use Prim.Native.Nat.{ℕ, suc, ◌+◌, ◌≤◌, ◌<◌}
use native.Mathlib.Numerals.{add-one}
use native.Mathlib.Omega.{arith}
use lib.ListN.{length}
use borrow.Author.Tests.{ne_eqb}
use Rattle.std.specs.Prelude.{None, Result, Some, Ok}
use Rattle.model.specs.Layout.{pages_in, today}
use Rattle.model.specs.Tree.{entry, Entry}
use Rattle.model.specs.Page.{count_of}
use Rattle.pagemap.specs.Lowest.{lowest_of, took}
use Rattle.page.specs.Node.{more, wider}
use Rattle.page.specs.Page.{room_at, refused}
use Rattle.lend.specs.Pages.{most, Inside, node_in, ChangesIn, can_split, SplitsIn, page_in, map_in}
use Rattle.lend.specs.Touches.{Sized, MapBecomes}
use Rattle.tree.specs.Insert.{hands_up, frees_in, Puts}
use Rattle.model.proofs.Cases.{never}
use Rattle.pagemap.proofs.Taking.{lowest-is}
use Rattle.page.proofs.Pages.{room-at, full_at_lem}
use Rattle.lend.proofs.Touching.{only-touches, only-map}
use Rattle.page.specs.declared.Unsound.{Unsound}

module _ (w : List ℕ) (p slot : ℕ) (e : Entry) (child : ℕ) where
  -- the page has room
  pub puts-room : {w' : List ℕ} {r : Result (Unit {0}) Unsound} → count_of (page_in w p) < most
      → ChangesIn p (room_at most (page_in w p) slot (slot + 1)) (more slot e (slot + 1) child (node_in w p)) w w' r → Puts p slot e child w w' None
  puts-room {w'} {r} few c =
      let c' : ChangesIn p (room_at most (page_in w p) slot (suc slot)) (wider slot e child (node_in w p)) w w' r = rw (add-one slot) at c in
      record {
        long = c'.only.long;
        head = (only-touches c'.only).head;
        fits = λ some few' low. record { answer = refl; holds = c'.holds (room-at most (page_in w p) slot (suc slot) some few low (omega arith)); only = c'.only };
        parts = λ q full low free apart. absurd (omega arith);
      }

  -- the page is full, and no page is free
  pub puts_none : {w' : List ℕ} → most ≤ count_of (page_in w p) → lowest_of (frees_in w) ≡ None → MapBecomes (map_in w) w w' → Puts p slot e child w w' None
  puts_none full none c = record {
    long = c.keeps.long;
    head = c.keeps.head;
    fits = λ some few low. absurd (omega arith);
    parts = λ q full low free apart. never (cc);
  }

  -- the page is full, and page q is taken
  module _ {w₁ : List ℕ} (q : ℕ) (full : most ≤ count_of (page_in w p)) (free : lowest_of (frees_in w) ≡ Some q)
      (c : MapBecomes (took (map_in w) (Some q)) w w₁) where
    pub puts-inside : Sized w → Inside q w₁
    puts-inside z =
        let is = lowest-is (map_in w) (pages_in today (length w)) q free in
        omega (arith, is.0, c.keeps.long)

    kept : page_in w₁ p ≡ page_in w p
    kept = c.keeps.others p tt

    can-split : p ≢ q → count_of (page_in w p) ≡ most → slot ≤ most → can_split w₁ p q slot ≡ true
    unfolding can_split
    can-split apart count low = rw (ne_eqb p q apart, kept, full_at_lem most (page_in w p) slot count low)

    pub puts-split : {w₂ : List ℕ} (k v : ℕ) → SplitsIn p q (can_split w₁ p q slot) (wider slot e child (node_in w₁ p)) w₁ w₂ (Ok record { key = k; value = v }) → Puts p slot e child w w₂ (hands_up (entry k v) q)
    puts-split {w₂} k v d = record {
      long = d.only.long ∙ c.keeps.long;
      head = (only-touches d.only).head ∙ c.keeps.head;
      fits = λ some few low. absurd (omega arith);
      parts = λ q' count low free' apart.
          let same : q' ≡ q = cc in
          let d' : SplitsIn p q true (wider slot e child (node_in w p)) w₁ w₂ (Ok record { key = k; value = v }) =
          rw (can-split (λ i. apart (i ∙ sym same)) count low, kept) at d in
          let a = d'.answer in
          rw same (record {
            answer = cc;
            left = rw kept at (d'.left refl);
            right = rw kept at (d'.right refl);
            map = only-map d.only ∙ c.map;
            touches = record {
              long = d.only.long ∙ c.keeps.long;
              head = (only-touches d.only).head ∙ c.keeps.head;
              others = λ i away. d.only.others i away ∙ c.keeps.others i tt;
            };
          });
    }

    pub puts-unsound : {w₂ : List ℕ} → SplitsIn p q (can_split w₁ p q slot) (wider slot e child (node_in w₁ p)) w₁ w₂ refused → Puts p slot e child w w₂ None
    puts-unsound d = record {
      long = d.only.long ∙ c.keeps.long;
      head = (only-touches d.only).head ∙ c.keeps.head;
      fits = λ some few low. absurd (omega arith);
      parts = λ q' count low free' apart.
          let same : q' ≡ q = cc in
          let can = can-split (λ i. apart (i ∙ sym same)) count low in
          let a = rw can at d.answer in
          never (cc);
    }
