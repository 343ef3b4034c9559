-- Pages changed one after the other: what each callee says of its page at its time, said of the pool before and after.
-- A page that a callee was not lent is as it was, so the callees' words are of the first pool's pages.
-- Assumes nothing.
use mathlib.Core.Path.{◌≡◌, refl, sym, ◌∙◌}
use mathlib.Core.Bool.{Bool, true, false}
use mathlib.Core.Logic.{◌≢◌}
use mathlib.Core.List.{List, [], ◌∷◌}
use Prim.Native.Nat.{ℕ, suc, ◌+◌, ◌-◌, ◌≤◌, ◌<◌}
use native.Mathlib.Omega.{arith}
use lib.Dec.{leb, ltb, eqb}
use lib.ListN.{length, get_or}
use borrow.Author.Tests.{not-true, leb-true, ltb-true, eqb-false, lt-ltb, le-ltb, eq-eqb, ne_eqb}
use Rattle.model.specs.Basics.{every}
use Rattle.model.specs.Tree.{Entry, Node, no_entry}
use Rattle.model.specs.Page.{count_of, height_of, entry_in, child_in, entries_of, children_of}
use Rattle.model.specs.Standing.{Holds}
use Rattle.model.specs.Insert.{cut_right}
use Rattle.model.specs.Mend.{glue}
use Rattle.std.specs.Prelude.{Result}
use Rattle.page.specs.declared.Entry as lent
use Rattle.page.specs.declared.Unsound.{Unsound}
use Rattle.page.specs.Node.{more, wider, less, instead}
use Rattle.page.specs.Page.{refused, room_at, holds_at, full_at}
use Rattle.lend.specs.Pages.{most, keeps, OnlyPages, node_in, Becomes, ChangesIn, KeepsIn, can_split, SplitsIn, are_apart, can_pass, PassesIn, MovesIn, can_join, JoinsIn, page_in}
use Rattle.model.proofs.Cases.{contrary, either, either_lt}
use Rattle.model.proofs.Basics.{every_true}
use Rattle.model.proofs.Read.{length-own, length-children}
use Rattle.page.proofs.Pages.{room-facts, holds-facts, told}
use Rattle.lend.proofs.Lent.{own_at, child-at, only_none, only_then, only_wider}
use Rattle.lend.proofs.Nodes.{give-left, give-up, give-right, get_left, get-up, get-right}

-- ---- a split

module _ (w : List ℕ) (p q slot : ℕ) where
  can-split : p ≢ q → full_at most (page_in w p) slot ≡ true → can_split w p q slot ≡ true
  unfolding can_split
  can-split n full = simp (ne_eqb p q n, full)

  pub split-same : p ≡ q → can_split w p q slot ≡ false
  unfolding can_split
  split-same e = rw (eq-eqb p q e)

  pub split-room : p ≢ q → full_at most (page_in w p) slot ≡ false → can_split w p q slot ≡ false
  unfolding can_split
  split-room n room = simp (ne_eqb p q n, room)

  pub split-none : {r : Result lent.Entry Unsound} (x : Node ℕ) → can_split w p q slot ≡ false → r ≡ refused → SplitsIn p q (can_split w p q slot) x w w r
  split-none x cannot e = record {
    answer = rw cannot e;
    kept = λ _. refl;
    left = λ can. contrary can cannot;
    right = λ can. contrary can cannot;
    only = only_none (p ∷ q ∷ []) refl;
  }

  pub split_done : {w₁ w₂ : List ℕ} {r : Result lent.Entry Unsound} (e : Entry) (child : ℕ) → p ≢ q → full_at most (page_in w p) slot ≡ true
      → Holds most (height_of (page_in w p)) (cut_right q keeps (wider slot e child (node_in w p))) (page_in w₁ q) → OnlyPages (q ∷ []) w w₁
      → KeepsIn p (full_at most (page_in w₁ p) slot) (wider slot e child (node_in w₁ p)) w₁ w₂ r
      → SplitsIn p q (can_split w p q slot) (wider slot e child (node_in w p)) w w₂ r
  split_done {w₁} {w₂} {r} e child n full right o k =
      let same : page_in w₁ p ≡ page_in w p = o.others p (n, tt) in
      let can : can_split w p q slot ≡ true = can-split n full in
      let k' : KeepsIn p true (wider slot e child (node_in w p)) w₁ w₂ r = rw (same, full) at k in
      record {
        answer = rw can k'.answer;
        kept = λ cannot. contrary can cannot;
        left = λ _. rw same at (k'.left refl);
        right = λ _. rw (k'.only.others q ((λ i. n (sym i)), tt)) right;
        only = only_wider (p ∷ q ∷ []) (only_then o k'.only) (λ z h. (h.1.0, (h.0, tt)));
      }

-- ---- one entry through the parent

pub apart-facts : (u l r : ℕ) → every (are_apart u l r) ≡ true → (u ≢ l) × (u ≢ r) × (l ≢ r)
apart-facts u l r e =
    let h = every_true (are_apart u l r) e in
    (eqb-false u l (not-true (eqb u l) h.0), eqb-false u r (not-true (eqb u r) h.1.0), eqb-false l r (not-true (eqb l r) h.1.1.0))

pub pass-facts : (w : List ℕ) (u i from fs fa to ts ta : ℕ) → can_pass w u i from fs fa to ts ta ≡ true
    → (every (are_apart u from to) ≡ true) × (holds_at most (page_in w u) i 0 ≡ true) × (holds_at most (page_in w from) fs fa ≡ true) × (room_at most (page_in w to) ts ta ≡ true)
unfolding can_pass
pass-facts w u i from fs fa to ts ta e =
    let h = every_true (every (are_apart u from to) ∷ holds_at most (page_in w u) i 0 ∷ holds_at most (page_in w from) fs fa ∷ room_at most (page_in w to) ts ta ∷ []) e in
    (h.0, h.1.0, h.1.1.0, h.1.1.1.0)

module _ (w : List ℕ) (u i from fs fa to ts ta : ℕ) where
  pub pass-done : {w₁ w₂ w₃ : List ℕ} {a b r : Result (Unit {0}) Unsound} (between moved : Entry) (child : ℕ) → can_pass w u i from fs fa to ts ta ≡ true
      → between ≡ entry_in most (page_in w u) i → moved ≡ entry_in most (page_in w from) fs → child ≡ child_in most (page_in w from) fa
      → ChangesIn to (room_at most (page_in w to) ts ta) (more ts between ta child (node_in w to)) w w₁ a
      → ChangesIn u (holds_at most (page_in w₁ u) i 0) (instead i moved (node_in w₁ u)) w₁ w₂ b
      → ChangesIn from (holds_at most (page_in w₂ from) fs fa) (less fs fa (node_in w₂ from)) w₂ w₃ r
      → PassesIn u i from fs fa to ts ta (can_pass w u i from fs fa to ts ta) w w₃ r
  pass-done {w₁} {w₂} {w₃} {a} {b} {r} between moved child can eb em ec got above gave =
      let f = pass-facts w u i from fs fa to ts ta can in
      let n = apart-facts u from to f.0 in
      let hu = holds-facts most (page_in w u) i 0 f.1 in
      let hf = holds-facts most (page_in w from) fs fa f.2 in
      let u₁ : page_in w₁ u ≡ page_in w u = got.only.others u (n.1, tt) in
      let u₃ : page_in w₃ u ≡ page_in w₂ u = gave.only.others u (n.0, tt) in
      let f₂ : page_in w₂ from ≡ page_in w from = above.only.others from ((λ e. n.0 (sym e)), tt) ∙ got.only.others from (n.2, tt) in
      let t₃ : page_in w₃ to ≡ page_in w₁ to = gave.only.others to ((λ e. n.2 (sym e)), tt) ∙ above.only.others to ((λ e. n.1 (sym e)), tt) in
      let above' : ChangesIn u true (instead i moved (node_in w u)) w₁ w₂ b = rw (u₁, f.1) at above in
      let gave' : ChangesIn from true (less fs fa (node_in w from)) w₂ w₃ r = rw (f₂, f.2) at gave in
      record {
        answer = rw can gave'.answer;
        kept = λ cannot. contrary can cannot;
        above = λ _. rw (u₃, ← own_at (page_in w from) fs hf.1, ← em) (rw u₁ at (above'.holds refl));
        gave = λ _. rw f₂ at (gave'.holds refl);
        got = λ _. rw (t₃, ← own_at (page_in w u) i hu.1, ← eb, ← child-at (page_in w from) fa hf.2, ← ec) (got.holds f.3);
        only = only_wider (u ∷ from ∷ to ∷ []) (only_then got.only (only_then above.only gave.only)) (λ z h. (h.1.1.0, (h.0, (h.1.0, tt))));
      }

  -- a page of none gives none
  pub pass-empty : count_of (page_in w from) ≡ 0 → can_pass w u i from fs fa to ts ta ≡ false
  pass-empty none = either (can_pass w u i from fs fa to ts ta)
      (λ can. absurd (omega (arith, holds-facts most (page_in w from) fs fa (pass-facts w u i from fs fa to ts ta can).2))) (λ cannot. cannot)

  -- and a page that can't be takes none
  pub pass-over : most < count_of (page_in w to) → can_pass w u i from fs fa to ts ta ≡ false
  pass-over over = either (can_pass w u i from fs fa to ts ta)
      (λ can. absurd (omega (arith, room-facts most (page_in w to) ts ta (pass-facts w u i from fs fa to ts ta can).3))) (λ cannot. cannot)

pub move-none : (w : List ℕ) (u i l r n : ℕ) {ok : Bool} {a : Result (Unit {0}) Unsound} → ok ≡ false → a ≡ refused → MovesIn u i l r n ok w w a
move-none w u i l r n cannot e = record {
  answer = rw cannot e;
  kept = λ _. refl;
  above = λ can. contrary can cannot;
  left = λ can. contrary can cannot;
  right = λ can. contrary can cannot;
  only = only_none (u ∷ l ∷ r ∷ []) refl;
}

module _ (w : List ℕ) (u i l r : ℕ) where
  forks : length (children_of most (page_in w l)) ≡ suc (length (entries_of most (page_in w l)))
  forks = simp (length-own, length-children)

  abbrev between : Entry
  between = get_or (entries_of most (page_in w u)) i no_entry

  -- the left page has n + 1 entries, and gives its last
  pub give-moves : {w' : List ℕ} {a : Result (Unit {0}) Unsound} (n fa : ℕ) → count_of (page_in w l) ≡ suc n → fa ≡ suc n → PassesIn u i l n fa r 0 0 (can_pass w u i l n fa r 0 0) w w' a
      → MovesIn u i l r n (can_pass w u i l n fa r 0 0) w w' a
  give-moves n fa many ef c =
      let long : length (entries_of most (page_in w l)) ≡ suc n = length-own most (page_in w l) ∙ many in
      record {
        answer = c.answer;
        kept = c.kept;
        above = λ can. rw (give-up 0 (node_in w l) between (node_in w r) forks n long) (c.above can);
        left = λ can. rw (give-left 0 (node_in w l) between (node_in w r) forks n long) (rw ef at (c.gave can));
        right = λ can. rw (give-right 0 (node_in w l) between (node_in w r) forks n long) (rw ef at (c.got can));
        only = c.only;
      }

  -- the left page has n, and gets the right page's first
  pub get-moves : {w' : List ℕ} {a : Result (Unit {0}) Unsound} (n : ℕ) → count_of (page_in w l) ≡ n → PassesIn u i r 0 0 l n (suc n) (can_pass w u i r 0 0 l n (suc n)) w w' a
      → MovesIn u i l r (suc n) (can_pass w u i r 0 0 l n (suc n)) w w' a
  get-moves n many c =
      let long : length (entries_of most (page_in w l)) ≡ n = length-own most (page_in w l) ∙ many in
      record {
        answer = c.answer;
        kept = c.kept;
        above = λ can. rw (get-up 0 (node_in w l) between (node_in w r) forks n long) (c.above can);
        left = λ can. rw (get_left 0 (node_in w l) between (node_in w r) forks n long (omega (arith, length-children most (page_in w r)))) (c.got can);
        right = λ can. rw (get-right 0 (node_in w l) between (node_in w r) forks n long) (c.gave can);
        only = only_wider (u ∷ l ∷ r ∷ []) c.only (λ z h. (h.0, (h.1.1.0, (h.1.0, tt))));
      }

-- ---- a join

pub record Joinable (w : List ℕ) (u i l r : ℕ) : Type 0 where
  pub apart : every (are_apart u l r) ≡ true
  pub above : holds_at most (page_in w u) i (suc i) ≡ true
  pub left : 1 ≤ count_of (page_in w l)
  pub right : 1 ≤ count_of (page_in w r)
  pub fits : count_of (page_in w l) + count_of (page_in w r) < most

-- the last test, with no sum that might not fit a word
pub fits-test : (n m : ℕ) → n < most → ltb m (most - n) ≡ every (ltb (n + m) most ∷ [])
fits-test n m h = either_lt (n + m) most (λ b. rw (lt-ltb (n + m) most b, lt-ltb m (most - n) (omega arith))) (λ b. rw (le-ltb (n + m) most b, le-ltb m (most - n) (omega arith)))

module _ (w : List ℕ) (u i l r : ℕ) where
  pub join-facts : can_join w u i l r ≡ true → Joinable w u i l r
  unfolding can_join
  join-facts e =
      let h = every_true (every (are_apart u l r) ∷ holds_at most (page_in w u) i (suc i) ∷ leb 1 (count_of (page_in w l)) ∷ leb 1 (count_of (page_in w r))
      ∷ ltb (count_of (page_in w l) + count_of (page_in w r)) most ∷ []) e in
      record { apart = h.0; above = h.1.0; left = leb-true _ _ h.1.1.0; right = leb-true _ _ h.1.1.1.0; fits = ltb-true _ _ h.1.1.1.1.0 }

  pub join-done : {w₁ w₂ : List ℕ} {a : Result (Unit {0}) Unsound} (e : Entry) → can_join w u i l r ≡ true → e ≡ entry_in most (page_in w u) i
      → Becomes l (glue (node_in w l) e (node_in w r)) w w₁ → OnlyPages (l ∷ []) w w₁
      → ChangesIn u (holds_at most (page_in w₁ u) i (i + 1)) (less i (i + 1) (node_in w₁ u)) w₁ w₂ a → JoinsIn u i l r (can_join w u i l r) w w₂ a
  join-done {w₁} {w₂} {a} e can ee left o c =
      let f = join-facts can in
      let n = apart-facts u l r f.apart in
      let u₁ : page_in w₁ u ≡ page_in w u = o.others u (n.0, tt) in
      let next : i + 1 ≡ suc i = omega arith in
      let c' : ChangesIn u true (less i (suc i) (node_in w u)) w₁ w₂ a = rw (next, u₁, f.above) at c in
      record {
        answer = rw can c'.answer;
        kept = λ cannot. contrary can cannot;
        above = λ _. rw u₁ at (c'.holds refl);
        left = λ _. rw (← own_at (page_in w u) i (holds-facts most (page_in w u) i (suc i) f.above).1, ← ee, c.only.others l ((λ q. n.0 (sym q)), tt)) left;
        only = only_wider (u ∷ l ∷ []) (only_then o c.only) (λ z h. (h.1.0, (h.0, tt)));
      }

-- what the tests say, where they hold
pub ruleset tests = (told, apart-facts, pass-facts, join-facts)
