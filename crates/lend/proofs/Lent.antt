-- The law of a lent page: from the law of a lent part (`page`'s `Parts`), at a page's start and size. What a callee
-- says of the page that it was lent is said of the pool; and pages lent one after the other are one change.
-- Assumes nothing.
use mathlib.Core.Path.{◌≡◌, refl, sym, ap, ◌∙◌, subst₂}
use mathlib.Core.Bool.{Bool, true}
use mathlib.Core.Logic.{◌≢◌}
use mathlib.Core.List.{List, [], ◌∷◌, ◌++◌}
use Prim.Native.Nat.{ℕ, suc, ◌+◌, ◌-◌, ◌≤◌, ◌<◌}
use native.Mathlib.Omega.{arith}
use lib.ListN.{length, take, drop, get_or, take-append-drop}
use lib.Seq.{take-take}
use Rattle.model.specs.Basics.{All}
use Rattle.model.specs.Layout.{page_words, first_word, pages_in, today}
use Rattle.model.specs.Tree.{Entry, Node, no_entry}
use Rattle.model.specs.Page.{count_of, entry_in, child_in, entries_of, children_of, page_at}
use Rattle.model.specs.Standing.{Holds}
use Rattle.model.specs.Insert.{cut_left}
use Rattle.std.specs.Prelude.{Result, IsOk}
use Rattle.page.specs.declared.Entry as lent
use Rattle.page.specs.declared.Unsound.{Unsound}
use Rattle.page.specs.Runs.{part, with_run, Changed}
use Rattle.page.specs.Page.{did, Changes, Splits, parted}
use Rattle.lend.specs.Pages.{most, keeps, Inside, OnlyPages, ChangesIn, KeepsIn, page_in}
use Rattle.model.proofs.Cases.{either_lt}
use Rattle.model.proofs.Basics.{all_left, all_right, get_or-tab}
use Rattle.page.proofs.Parts.{changed, part_low, part-high, length_part}

-- a page of the pool lies inside its words
pub page-inside : (w : List ℕ) (p : ℕ) → p < pages_in today (length w) → Inside p w
page-inside w p h = omega arith

pub page-long : (w : List ℕ) (p : ℕ) → Inside p w → length (page_in w p) ≡ page_words today
unfolding page_at
page-long w p h = length_part (first_word today p) (page_words today) w (omega arith)

-- what stands at a place of a page
pub own_at : (page : List ℕ) (i : ℕ) → i < count_of page → entry_in most page i ≡ get_or (entries_of most page) i no_entry
unfolding entries_of
own_at page i h = sym (get_or-tab (count_of page) (entry_in most page) i no_entry h)

pub child-at : (page : List ℕ) (i : ℕ) → i ≤ count_of page → child_in most page i ≡ get_or (children_of most page) i 0
unfolding children_of
child-at page i h = sym (get_or-tab (suc (count_of page)) (child_in most page) i 0 (omega arith))

-- ---- pages that may have changed

pub only_none : (ps : List ℕ) {w w' : List ℕ} → w' ≡ w → OnlyPages ps w w'
only_none ps e = record { long = ap length e; front = ap (take (first_word today 0)) e; others = λ q h. ap (λ (l : List ℕ). page_in l q) e }

pub only_then : {ps qs w w₁ w₂ : List ℕ} → OnlyPages ps w w₁ → OnlyPages qs w₁ w₂ → OnlyPages (ps ++ qs) w w₂
only_then {ps} {qs} c d = record {
  long = d.long ∙ c.long;
  front = d.front ∙ c.front;
  others = λ q h. d.others q (all_right (λ p. q ≢ p) ps qs h) ∙ c.others q (all_left (λ p. q ≢ p) ps qs h);
}

pub only_wider : {ps w w' : List ℕ} (qs : List ℕ) → OnlyPages ps w w' → ((q : ℕ) → All (λ p. q ≢ p) qs → All (λ p. q ≢ p) ps) → OnlyPages qs w w'
only_wider qs c f = record { long = c.long; front = c.front; others = λ q h. c.others q (f q h) }

-- the same page twice
pub only-again : {p : ℕ} {w w₁ w₂ : List ℕ} → OnlyPages (p ∷ []) w w₁ → OnlyPages (p ∷ []) w₁ w₂ → OnlyPages (p ∷ []) w w₂
only-again {p} c d = only_wider (p ∷ []) (only_then c d) (λ q h. (h.0, h))

-- ---- what a function that tests its page answers

pub went : {ok : Bool} {r : Result (Unit {0}) Unsound} → r ≡ did ok → ok ≡ true → IsOk r
went e done = rw (e, done) refl

-- ---- a page lent

-- the borrow checker has a part's size as the difference of its end and its start
abbrev pub span : ℕ → ℕ
span p = first_word today p + page_words today - first_word today p

pub span-words : (p : ℕ) → span p ≡ page_words today
span-words p = omega arith

-- page p as it is lent, and the pool with ys in its place
abbrev pub lent_part : List ℕ → ℕ → List ℕ
lent_part w p = part (first_word today p) (span p) w

abbrev pub lent_back : List ℕ → ℕ → List ℕ → List ℕ
lent_back w p ys = with_run (first_word today p) (span p) ys w

pub lent-page : (w : List ℕ) (p : ℕ) → lent_part w p ≡ page_in w p
unfolding page_at
lent-page w p = ap (λ (k : ℕ). part (first_word today p) k w) (span-words p)

only_part : {ys w w' : List ℕ} (p : ℕ) → Changed (first_word today p) (page_words today) ys w w' → OnlyPages (p ∷ []) w w'
unfolding page_at
only_part {ys} {w} {w'} p c = record {
  long = c.long;
  front =
      sym (take-take (first_word today 0) (first_word today p) w' (omega arith)) ∙ ap (take (first_word today 0)) c.low ∙ take-take (first_word today 0) (first_word today p) w (omega arith);
  others = λ q n. let o : q ≢ p = n.0 in
      either_lt q p (λ h. part_low c (first_word today q) (page_words today) (omega arith)) (λ h. part-high c (first_word today q) (page_words today) (omega arith));
}

module _ (w : List ℕ) (p : ℕ) (ys : List ℕ) (inside : Inside p w) (sized : length ys ≡ length (lent_part w p)) where
  back-part : Changed (first_word today p) (page_words today) ys w (lent_back w p ys)
  back-part =
      let long : length ys ≡ page_words today = sized ∙ length_part (first_word today p) (span p) w (omega arith) ∙ span-words p in
      changed (ap (λ (k : ℕ). with_run (first_word today p) k ys w) (span-words p)) long (omega arith)

  pub lent-only : OnlyPages (p ∷ []) w (lent_back w p ys)
  lent-only = only_part p back-part

  -- what was put there is the page
  pub lent_back_lem : page_in (lent_back w p ys) p ≡ ys
  unfolding page_at
  lent_back_lem = back-part.here

  -- what a callee says of the page before and after, R, said of the pool
  pub lent-said : (R : List ℕ → List ℕ → Type 0) → R (lent_part w p) ys → R (page_in w p) (page_in (lent_back w p ys) p)
  lent-said R r = subst₂ R (lent-page w p) (sym lent_back_lem) r

-- a page that comes back as it was leaves the pool as it was
pub lent_same : (w : List ℕ) (p : ℕ) {ys : List ℕ} → ys ≡ lent_part w p → lent_back w p ys ≡ w
lent_same w p e =
    let a : ℕ = first_word today p in
    ap (lent_back w p) e ∙ ap (λ (l : List ℕ). take a w ++ l) (take-append-drop (span p) (drop a w)) ∙ take-append-drop a w

-- Holds does not look at the number of a node's page
pub holds_as : {h : ℕ} {x : Node ℕ} {page : List ℕ} (y : Node ℕ) → y.own ≡ x.own → y.children ≡ x.children → Holds most h x page → Holds most h y page
holds_as y own children c = record { height = c.height; own = c.own ∙ sym own; children = λ h. c.children h ∙ sym children }

-- `ok` and `x` are what the callee tests and leaves, of the page's words
module _ (w : List ℕ) (p : ℕ) (ys : List ℕ) (inside : Inside p w) (sized : length ys ≡ length (lent_part w p)) (ok : List ℕ → Bool) (x : List ℕ → Node ℕ) (y : Node ℕ)
    (own : y.own ≡ (x (page_in w p)).own) (children : y.children ≡ (x (page_in w p)).children) where
  pub lent-changes : {r : Result (Unit {0}) Unsound} → Changes most (ok (lent_part w p)) (x (lent_part w p)) (lent_part w p) ys r → ChangesIn p (ok (page_in w p)) y w (lent_back w p ys) r
  lent-changes {r} c =
      let s : Changes most (ok (page_in w p)) (x (page_in w p)) (page_in w p) (page_in (lent_back w p ys) p) r =
      lent-said w p ys inside sized (λ u v. Changes most (ok u) (x u) u v r) c in
      record {
        answer = s.answer;
        kept = λ no. lent_same w p (c.kept (ap ok (lent-page w p) ∙ no));
        holds = λ yes. holds_as y own children (s.holds yes);
        only = lent-only w p ys inside sized;
      }

  pub lent-splits : {r : Result lent.Entry Unsound} → Splits most keeps (ok (lent_part w p)) (x (lent_part w p)) (lent_part w p) ys r → KeepsIn p (ok (page_in w p)) y w (lent_back w p ys) r
  lent-splits {r} c =
      let s : Splits most keeps (ok (page_in w p)) (x (page_in w p)) (page_in w p) (page_in (lent_back w p ys) p) r =
      lent-said w p ys inside sized (λ u v. Splits most keeps (ok u) (x u) u v r) c in
      record {
        answer = s.answer ∙ ap (λ (l : List Entry). parted (ok (page_in w p)) (get_or l keeps no_entry)) (sym own);
        kept = λ no. lent_same w p (c.kept (ap ok (lent-page w p) ∙ no));
        left = λ yes. holds_as (cut_left keeps y) (ap (take keeps) own) (ap (take (suc keeps)) children) (s.holds yes);
        only = lent-only w p ys inside sized;
      }
