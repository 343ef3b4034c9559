-- A page filled entry by entry from its front: what both loops keep, that the page holds the first n entries of the
-- node it is to hold, with the children around them, and that no other page has changed.
-- Assumes nothing.
use mathlib.Core.Path.{◌≡◌, refl, sym, ap, ap₂, ◌∙◌}
use mathlib.Core.Bool.{true}
use mathlib.Core.Logic.{◌≢◌}
use mathlib.Core.List.{List, [], ◌∷◌, ◌++◌}
use Prim.Native.Nat.{ℕ, suc, ◌+◌, ◌≤◌, ◌<◌}
use native.Mathlib.Omega.{arith}
use lib.ListN.{length, drop, get_or, length-append, length-drop}
use lib.Seq.{length-take-le, take_at, drop-cons, get_or-drop}
use Rattle.model.specs.Basics.{ins}
use Rattle.model.specs.Tree.{Entry, Node, no_entry}
use Rattle.model.specs.Page.{count_of, height_of, entry_in, child_in, entries_of, children_of}
use Rattle.model.specs.Standing.{Holds}
use Rattle.model.specs.Insert.{cut_left, cut_right}
use Rattle.model.specs.Mend.{glue}
use Rattle.std.specs.Prelude.{Result}
use Rattle.page.specs.declared.Unsound.{Unsound}
use Rattle.page.specs.Node.{alone, more, wider}
use Rattle.page.specs.Page.{room_at, full_at}
use Rattle.lend.specs.Pages.{most, keeps, OnlyPages, node_in, Becomes, ChangesIn, page_in}
use Rattle.model.proofs.Basics.{length-ins}
use Rattle.model.proofs.Read.{length-own, length-children}
use Rattle.page.proofs.Pages.{room-at, full-facts, holds-count, holds_more}
use Rattle.lend.proofs.Lent.{only_none, only-again, own_at, child-at, holds_as}
use Rattle.lend.proofs.Nodes.{at-behind, ins-behind, cut-one, cut-grows, cut_all}

pub record Copied (p h : ℕ) (y : Node ℕ) (n : ℕ) (w₀ w : List ℕ) : Type 0 where
  pub holds : Holds most h (cut_left n y) (page_in w p)
  pub only : OnlyPages (p ∷ []) w₀ w

module _ {p h : ℕ} {w₀ w : List ℕ} (y : Node ℕ) (forks : length y.children ≡ suc (length y.own)) where
  pub copied-one : (e : Entry) (a b : ℕ) → 1 ≤ length y.own → e ≡ get_or y.own 0 no_entry → a ≡ get_or y.children 0 0 → b ≡ get_or y.children 1 0
      → Holds most h (alone e a b) (page_in w p) → OnlyPages (p ∷ []) w₀ w → Copied p h y 1 w₀ w
  copied-one e a b some ee ea eb c o =
      let one = cut-one 0 y forks some in
      record { holds = holds_as (cut_left 1 y) (rw ee one.0) (rw (ea, eb) one.1) c; only = o }

  -- there is room for the next
  pub copied-room : {n : ℕ} → n < length y.own → 1 ≤ n → n < most → Copied p h y n w₀ w → (slot at : ℕ) → slot ≡ n → at ≡ suc n → room_at most (page_in w p) slot at ≡ true
  copied-room {n} inside some few k slot at es ea =
      let many : count_of (page_in w p) ≡ n = holds-count k.holds ∙ length-take-le n y.own (omega arith) in
      room-at most (page_in w p) slot at (omega arith) (omega arith) (omega arith) (omega arith)

  -- one turn
  pub copied_more : {w' : List ℕ} {r : Result (Unit {0}) Unsound} (n slot at : ℕ) (e : Entry) (c : ℕ) → n < length y.own → 1 ≤ n → n < most → slot ≡ n → at ≡ suc n
      → e ≡ get_or y.own n no_entry → c ≡ get_or y.children (suc n) 0 → Copied p h y n w₀ w
      → ChangesIn p (room_at most (page_in w p) slot at) (more slot e at c (node_in w p)) w w' r → Copied p h y (suc n) w₀ w'
  copied_more {w'} n slot at e c inside some few es ea ee ec k d =
      let room : room_at most (page_in w p) slot at ≡ true = copied-room inside some few k slot at es ea in
      let after : Holds most h (more n e (suc n) c (node_in w p)) (page_in w' p) = rw (k.holds.height, es, ea) at (d.holds room) in
      record {
        holds = rw (cut-grows 0 y forks n inside, ← ee, ← ec) (holds_more most h n (suc n) c p e (cut_left n y) (page_in w p) (page_in w' p) k.holds after);
        only = only-again k.only d.only;
      }

  pub copied_all : (n : ℕ) → length y.own ≤ n → Copied p h y n w₀ w → Holds most h y (page_in w p)
  copied_all n past k = rw (cut_all 0 y forks n past) at k.holds

-- ---- a neighbour's entries behind a page

-- what page l is to hold once the entry between has been put behind it: page r's first child came with that entry
abbrev pub chained : List ℕ → ℕ → ℕ → Node ℕ
chained w l r = record {
  page = l;
  own = entries_of most (page_in w l) ++ entries_of most (page_in w r);
  children = children_of most (page_in w l) ++ drop 1 (children_of most (page_in w r));
}

abbrev pub Joining : ℕ → ℕ → ℕ → List ℕ → List ℕ → Type 0
Joining l r n w w' = Copied l (height_of (page_in w l)) (chained w l r) n w w'

module _ (w : List ℕ) (l r n : ℕ) (many : count_of (page_in w l) ≡ n + 1) where
  chained-own : length (chained w l r).own ≡ n + 1 + count_of (page_in w r)
  chained-own = simp (length-append, length-own) (omega arith)

  chained-forks : length (chained w l r).children ≡ suc (length (chained w l r).own)
  chained-forks = simp (length-append, length-drop, length-own, length-children) (omega arith)

  pub joining-none : Joining l r (n + 1 + 0) w w
  joining-none =
      let own : length (entries_of most (page_in w l)) ≡ n + 1 + 0 = length-own most (page_in w l) ∙ omega arith in
      let children : length (children_of most (page_in w l)) ≡ suc (n + 1 + 0) = length-children most (page_in w l) ∙ omega arith in
      record {
        holds = record { height = refl; own = sym (take_at _ _ (n + 1 + 0) own); children = λ _. sym (take_at _ _ (suc (n + 1 + 0)) children) };
        only = only_none (l ∷ []) refl;
      }

  pub joining-room : {w₁ : List ℕ} (j : ℕ) → j < count_of (page_in w r) → n + 1 + j < most → Joining l r (n + 1 + j) w w₁
      → room_at most (page_in w₁ l) (n + 1 + j) (n + 2 + j) ≡ true
  joining-room j inside room k =
      copied-room (chained w l r) chained-forks (omega (arith, chained-own)) (omega arith) room k (n + 1 + j) (n + 2 + j) refl (omega arith)

  pub joining-more : {w₁ w₂ : List ℕ} {a : Result (Unit {0}) Unsound} (j : ℕ) (x : Entry) (c : ℕ) → l ≢ r → j < count_of (page_in w r) → n + 1 + j < most
      → x ≡ entry_in most (page_in w₁ r) j → c ≡ child_in most (page_in w₁ r) (j + 1) → Joining l r (n + 1 + j) w w₁
      → ChangesIn l (room_at most (page_in w₁ l) (n + 1 + j) (n + 2 + j)) (more (n + 1 + j) x (n + 2 + j) c (node_in w₁ l)) w₁ w₂ a → Joining l r (n + 1 + (j + 1)) w w₂
  joining-more {w₁} {w₂} j x c apart inside room ex ec k d =
      let step : n + 1 + (j + 1) ≡ suc (n + 1 + j) = omega arith in
      let next : j + 1 ≡ 1 + j = omega arith in
      let same : page_in w₁ r ≡ page_in w r = k.only.others r ((λ q. apart (sym q)), tt) in
      let own : x ≡ get_or (chained w l r).own (n + 1 + j) no_entry =
      rw same at ex ∙ own_at (page_in w r) j inside
      ∙ sym (at-behind (entries_of most (page_in w l)) (entries_of most (page_in w r)) j (n + 1 + j) no_entry (omega (arith, length-own most (page_in w l)))) in
      let child : c ≡ get_or (chained w l r).children (suc (n + 1 + j)) 0 =
      rw (same, next) at ec ∙ child-at (page_in w r) (1 + j) (omega arith) ∙ sym (get_or-drop 1 (children_of most (page_in w r)) j 0)
      ∙ sym (at-behind (children_of most (page_in w l)) _ j (suc (n + 1 + j)) 0 (omega (arith, length-children most (page_in w l)))) in
      rw step (copied_more (chained w l r) chained-forks (n + 1 + j) (n + 1 + j) (n + 2 + j) x c (omega (arith, chained-own)) (omega arith) room refl (omega arith) own child k d)

  joining-all : {w₁ : List ℕ} (j : ℕ) → count_of (page_in w r) ≤ j → Joining l r (n + 1 + j) w w₁ → Becomes l (chained w l r) w w₁
  joining-all j past k = copied_all (chained w l r) chained-forks (n + 1 + j) (omega (arith, chained-own)) k

-- the entry e between them and page r's first child have been put behind page l: what the loop starts with, and what
-- its end will be
pub record Begun (l r n m : ℕ) (e : Entry) (w w₁ : List ℕ) : Type 0 where
  pub apart : l ≢ r
  pub fits : n + m < most
  pub many : count_of (page_in w₁ l) ≡ n + 1
  pub rest : count_of (page_in w₁ r) ≡ m
  pub end : (w₂ : List ℕ) (j : ℕ) → m ≤ j → Joining l r (n + 1 + j) w₁ w₂
      → Becomes l (glue (node_in w l) e (node_in w r)) w w₂ × OnlyPages (l ∷ []) w w₂

pub begins : (w : List ℕ) (l r n m : ℕ) (e : Entry) (c : ℕ) {w₁ : List ℕ} {a : Result (Unit {0}) Unsound} → l ≢ r → n ≡ count_of (page_in w l) → m ≡ count_of (page_in w r) → 1 ≤ n → n + m < most
    → c ≡ child_in most (page_in w r) 0 → ChangesIn l (room_at most (page_in w l) n (n + 1)) (more n e (n + 1) c (node_in w l)) w w₁ a → Begun l r n m e w w₁
begins w l r n m e c {w₁} apart en em some few first d =
    let es : List Entry = entries_of most (page_in w l) in
    let cs : List ℕ = children_of most (page_in w l) in
    let ds : List ℕ = children_of most (page_in w r) in
    let own : length es ≡ n = length-own most (page_in w l) ∙ sym en in
    let children : length cs ≡ n + 1 = length-children most (page_in w l) ∙ omega arith in
    let held : Becomes l (more n e (n + 1) c (node_in w l)) w w₁ = d.holds (room-at most (page_in w l) n (n + 1) (omega arith) (omega arith) (omega arith) (omega arith)) in
    let count : count_of (page_in w₁ l) ≡ n + 1 = holds-count held ∙ length-ins n e es (omega arith) ∙ omega arith in
    let same : page_in w₁ r ≡ page_in w r = d.only.others r ((λ q. apart (sym q)), tt) in
    let head : c ∷ drop 1 ds ≡ ds =
    ap (λ (x : ℕ). x ∷ drop 1 ds) (first ∙ child-at (page_in w r) 0 (omega arith)) ∙ sym (drop-cons ds 0 0 (omega (arith, length-children most (page_in w r)))) in
    record {
      apart = apart;
      fits = few;
      many = count;
      rest = rw same (sym em);
      end = λ w₂ j past k.
          let all : Becomes l (chained w₁ l r) w₁ w₂ = joining-all w₁ l r n count j (rw (same, ← em) past) k in (
            record {
              height = all.height ∙ held.height;
              own = all.own ∙ ap₂ ◌++◌ held.own (ap (entries_of most) same) ∙ ins-behind n e es (entries_of most (page_in w r)) own;
              children = λ t.
                  all.children (rw held.height t) ∙ ap₂ (λ (x y : List ℕ). x ++ drop 1 y) (held.children t) (ap (children_of most) same)
                  ∙ ins-behind (n + 1) c cs (drop 1 ds) children ∙ ap (λ (x : List ℕ). cs ++ x) head;
            },
            only-again d.only k.only,
          );
    }

-- ---- the last four of ten

abbrev pub half : List ℕ → ℕ → ℕ → ℕ → Entry → ℕ → Node ℕ
half w p q slot e child = cut_right q keeps (wider slot e child (node_in w p))

abbrev pub Giving : ℕ → ℕ → ℕ → Entry → ℕ → ℕ → List ℕ → List ℕ → Type 0
Giving p q slot e child n w w' = Copied q (height_of (page_in w p)) (half w p q slot e child) n w w'

module _ (w : List ℕ) (p q slot : ℕ) (e : Entry) (child : ℕ) (full : full_at most (page_in w p) slot ≡ true) where
  abbrev es : List Entry
  es = ins slot e (entries_of most (page_in w p))

  abbrev cs : List ℕ
  cs = ins (suc slot) child (children_of most (page_in w p))

  half-own : length (half w p q slot e child).own ≡ 4
  half-own =
      let f = full-facts most (page_in w p) slot full in
      let long : length (entries_of most (page_in w p)) ≡ 9 = length-own most (page_in w p) ∙ f.0 in
      length-drop 6 es ∙ omega (arith, length-ins slot e (entries_of most (page_in w p)) (omega arith))

  half-forks : length (half w p q slot e child).children ≡ suc (length (half w p q slot e child).own)
  half-forks =
      let f = full-facts most (page_in w p) slot full in
      let long : length (children_of most (page_in w p)) ≡ 10 = length-children most (page_in w p) ∙ ap suc f.0 in
      length-drop 6 cs ∙ omega (arith, half-own, length-ins (suc slot) child (children_of most (page_in w p)) (omega arith))

  pub giving-room : {w₁ : List ℕ} (j : ℕ) → 1 ≤ j → j < 4 → Giving p q slot e child j w w₁ → room_at most (page_in w₁ q) j (j + 1) ≡ true
  giving-room j some inside k =
      copied-room (half w p q slot e child) half-forks (omega (arith, half-own)) some (omega arith) k j (j + 1) refl (omega arith)

  pub giving-more : {w₁ w₂ : List ℕ} {a : Result (Unit {0}) Unsound} (j : ℕ) (x : Entry) (c : ℕ) → p ≢ q → 1 ≤ j → j < 4
      → x ≡ get_or (ins slot e (entries_of most (page_in w₁ p))) (6 + j) no_entry → c ≡ get_or (ins (suc slot) child (children_of most (page_in w₁ p))) (7 + j) 0
      → Giving p q slot e child j w w₁
      → ChangesIn q (room_at most (page_in w₁ q) j (j + 1)) (more j x (j + 1) c (node_in w₁ q)) w₁ w₂ a → Giving p q slot e child (j + 1) w w₂
  giving-more {w₁} {w₂} j x c apart some inside ex ec k d =
      let step : j + 1 ≡ suc j = omega arith in
      let past : 7 + j ≡ 6 + suc j = omega arith in
      let same : page_in w₁ p ≡ page_in w p = k.only.others p (apart, tt) in
      rw step (copied_more (half w p q slot e child) half-forks j j (j + 1) x c (omega (arith, half-own)) some (omega arith) refl step
      (rw same at ex ∙ sym (get_or-drop 6 es j no_entry)) (rw (same, past) at ec ∙ sym (get_or-drop 6 cs (suc j) 0)) k d)

-- page q has the first of them: what the loop starts with, and what its end will be
pub record Given (p q slot : ℕ) (e : Entry) (child : ℕ) (w w₁ : List ℕ) : Type 0 where
  pub apart : p ≢ q
  pub long : length w₁ ≡ length w
  pub full : full_at most (page_in w₁ p) slot ≡ true
  pub one : Giving p q slot e child 1 w₁ w₁
  pub end : (w₂ : List ℕ) (j : ℕ) → 4 ≤ j → Giving p q slot e child j w₁ w₂
      → Holds most (height_of (page_in w p)) (half w p q slot e child) (page_in w₂ q) × OnlyPages (q ∷ []) w w₂

pub gives : (w : List ℕ) (p q slot : ℕ) (e : Entry) (child h : ℕ) (x : Entry) (a b : ℕ) {w₁ : List ℕ} → p ≢ q → full_at most (page_in w p) slot ≡ true
    → h ≡ height_of (page_in w p) → x ≡ get_or (ins slot e (entries_of most (page_in w p))) 6 no_entry
    → a ≡ get_or (ins (suc slot) child (children_of most (page_in w p))) 6 0 → b ≡ get_or (ins (suc slot) child (children_of most (page_in w p))) 7 0
    → Holds most h (alone x a b) (page_in w₁ q) → OnlyPages (q ∷ []) w w₁ → Given p q slot e child w w₁
gives w p q slot e child h x a b {w₁} apart full eh ex ea eb c o =
    let same : page_in w₁ p ≡ page_in w p = o.others p (apart, tt) in
    let full' : full_at most (page_in w₁ p) slot ≡ true = rw same full in
    let y : Node ℕ = half w p q slot e child in
    let first : Copied q (height_of (page_in w p)) y 1 w₁ w₁ =
    copied-one y (half-forks w p q slot e child full) x a b (omega (arith, half-own w p q slot e child full)) (ex ∙ sym (get_or-drop 6 (es w p q slot e child full) 0 no_entry))
    (ea ∙ sym (get_or-drop 6 (cs w p q slot e child full) 0 0)) (eb ∙ sym (get_or-drop 6 (cs w p q slot e child full) 1 0)) (rw eh at c) (only_none (q ∷ []) refl) in
    record {
      apart = apart;
      long = o.long;
      full = full';
      one = rw same first;
      end = λ w₂ j past k.
          let all : Holds most (height_of (page_in w₁ p)) (half w₁ p q slot e child) (page_in w₂ q) =
          copied_all (half w₁ p q slot e child) (half-forks w₁ p q slot e child full') j (omega (arith, half-own w₁ p q slot e child full')) k in
          (rw same at all, only-again o k.only);
    }
