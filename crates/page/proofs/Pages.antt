-- What the runs of one page make of its entries and children when they were changed one after the other, and what the
-- tests of a page say. A page is known by its count, its height and three runs: keys, values and, above the leaves,
-- children.
-- Assumes nothing.
use mathlib.Core.Path.{◌≡◌, refl, sym, ap, ◌∙◌}
use mathlib.Core.Bool.{Bool, true, false, ◌&&◌}
use mathlib.Core.List.{List, [], ◌∷◌}
use Prim.Native.Nat.{ℕ, zero, suc, ◌+◌, ◌-◌, ◌*◌, ◌≤◌, ◌<◌}
use native.Mathlib.Numerals.{add-one}
use native.Mathlib.Omega.{arith}
use lib.Dec.{leb, ltb, eqb}
use lib.ListN.{length, take, drop, set, length-set}
use lib.Seq.{get_or-set_same, take-take}
use borrow.Author.Tests.{leb-true, ltb-true, eqb-true, le-leb, eq-eqb}
use Rattle.model.specs.Basics.{ins, del, tab, every}
use Rattle.model.specs.Tree.{Entry, Node, entry}
use Rattle.model.specs.Page.{count_of, height_of, entry_in, child_in, entries_of, children_of}
use Rattle.model.specs.Standing.{node_of, Holds}
use Rattle.std.specs.Prelude.{Ok}
use Rattle.page.specs.Runs.{part, Changed}
use Rattle.page.specs.Node.{alone, more, less, instead}
use Rattle.page.specs.Page.{Long, said, firsts, room_at, holds_at, full_at, did, Changes}
use Rattle.model.proofs.Cases.{contrary}
use Rattle.model.proofs.Basics.{map-set, every_true, map-tab, map-ins, map-del}
use Rattle.model.proofs.Read.{length-own}
use Rattle.page.proofs.Running.{take-ins, take-del}
use Rattle.page.proofs.Parts.{stored, then_next, part-here, part_low, part-high, part-set, at_low, at_high}
use Rattle.page.proofs.Tables.{part-tab, keys_of, values_of, entries_by}

-- ---- the tests

pub room-facts : (most : ℕ) (page : List ℕ) (slot place : ℕ) → room_at most page slot place ≡ true
    → (1 ≤ count_of page) × (count_of page < most) × (slot ≤ count_of page) × (place ≤ suc (count_of page))
unfolding room_at
room-facts most page slot place e =
    let h = every_true (leb 1 (count_of page) ∷ ltb (count_of page) most ∷ leb slot (count_of page) ∷ leb place (suc (count_of page)) ∷ []) e in
    omega (arith, leb-true, ltb-true)

pub room-at : (most : ℕ) (page : List ℕ) (slot place : ℕ) → 1 ≤ count_of page → count_of page < most → slot ≤ count_of page → place ≤ suc (count_of page)
    → room_at most page slot place ≡ true
unfolding room_at
room-at most page slot place a b c d = simp le-leb

pub holds-facts : (most : ℕ) (page : List ℕ) (slot place : ℕ) → holds_at most page slot place ≡ true
    → (count_of page ≤ most) × (slot < count_of page) × (place ≤ count_of page)
unfolding holds_at
holds-facts most page slot place e =
    let h = every_true (leb (count_of page) most ∷ ltb slot (count_of page) ∷ leb place (count_of page) ∷ []) e in
    omega (arith, leb-true, ltb-true)

pub holds_at_lem : (most : ℕ) (page : List ℕ) (slot place : ℕ) → count_of page ≤ most → slot < count_of page → place ≤ count_of page → holds_at most page slot place ≡ true
unfolding holds_at
holds_at_lem most page slot place a b c = simp le-leb

pub full-facts : (most : ℕ) (page : List ℕ) (slot : ℕ) → full_at most page slot ≡ true → (count_of page ≡ most) × (slot ≤ most)
unfolding full_at
full-facts most page slot e =
    let h = every_true (eqb (count_of page) most ∷ leb slot most ∷ []) e in
    omega (arith, leb-true, eqb-true)

pub full_at_lem : (most : ℕ) (page : List ℕ) (slot : ℕ) → count_of page ≡ most → slot ≤ most → full_at most page slot ≡ true
unfolding full_at
full_at_lem most page slot a b = simp (eq-eqb, le-leb)

-- what the tests say, where they hold
pub ruleset told = (room-facts, holds-facts, full-facts)

-- behind the last entry, and behind the last child
pub behind-facts : (n slot place : ℕ) → (eqb slot n && eqb place (n + 1)) ≡ true → (slot ≡ n) × (place ≡ suc n)
behind-facts n slot place e =
    let h = every_true (eqb slot n ∷ eqb place (n + 1) ∷ []) (both (eqb slot n) (eqb place (n + 1)) e) in
    omega (arith, eqb-true)
  where
    both : (a b : Bool) → (a && b) ≡ true → every (a ∷ b ∷ []) ≡ true
    both true true e = refl
    both true false e = e
    both false b e = e

-- the last of the tests decides
pub last-test : (t : Bool) → t ≡ every (t ∷ [])
last-test true = refl
last-test false = refl

-- ---- what a function that tests its page answers, where the test holds

pub changes-done : {most : ℕ} {ok : Bool} {x : Node ℕ} {page page' : List ℕ} → ok ≡ true → Holds most (height_of page) x page' → Changes most ok x page page' (Ok tt)
changes-done t w = record { answer = sym (ap did t); kept = contrary t; holds = λ t'. w }

-- ---- a page and what it holds

pub holds-count : {most h : ℕ} {x : Node ℕ} {page : List ℕ} → Holds most h x page → count_of page ≡ length x.own
holds-count {most} {page = page} w = sym (length-own most page) ∙ ap length w.own

-- a page known to hold x, with one more, holds x with one more
pub holds_more : (most h s a c p : ℕ) (e : Entry) (x : Node ℕ) (page page' : List ℕ) → Holds most h x page
    → Holds most h (more s e a c (node_of most p page)) page' → Holds most h (more s e a c x) page'
holds_more most h s a c p e x page page' w w' = record {
  height = w'.height;
  own = w'.own ∙ ap (λ (l : List Entry). ins s e l) w.own;
  children = λ t. w'.children t ∙ ap (λ (l : List ℕ). ins a c l) (w.children t);
}

module _ (most : ℕ) (page : List ℕ) (long : Long most page) where
  pub keys-part : (n : ℕ) → n ≤ most → keys_of (tab n (entry_in most page)) ≡ part 2 n page
  keys-part n few = map-tab (λ (e : Entry). e.key) n (entry_in most page) ∙ sym (part-tab 2 n page 0 (omega arith))

  pub values-part : (n : ℕ) → n ≤ most → values_of (tab n (entry_in most page)) ≡ part (2 + most) n page
  values-part n few = map-tab (λ (e : Entry). e.value) n (entry_in most page) ∙ sym (part-tab (2 + most) n page 0 (omega arith))

  pub children-part : (n : ℕ) → n ≤ suc most → tab n (child_in most page) ≡ part (2 + 2 * most) n page
  children-part n few = sym (part-tab (2 + 2 * most) n page 0 (omega arith))

  -- what a page holds, by its runs
  pub holds_by : (n h : ℕ) (x : Node ℕ) → n ≤ most → count_of page ≡ n → height_of page ≡ h → part 2 n page ≡ keys_of x.own → part (2 + most) n page ≡ values_of x.own
      → (0 < h → part (2 + 2 * most) (suc n) page ≡ x.children) → Holds most h x page
  unfolding entries_of children_of
  holds_by n h x few count height ks vs cs = record {
    height = height;
    own = rw count (entries_by (tab n (entry_in most page)) x.own (keys-part n few ∙ ks) (values-part n few ∙ vs));
    children = λ t. rw count (children-part (suc n) (omega arith) ∙ cs t);
  }

-- ---- a page whose keys, values, children and count were changed in turn

unchanged : {a n : ℕ} {xs : List ℕ} → Changed a n (part a n xs) xs xs
unchanged = record { low = refl; here = refl; high = refl; long = refl }

-- a run that is changed above the leaves only
pub record Above (a n : ℕ) (ys xs xs' : List ℕ) : Type 0 where
  pub run : List ℕ
  pub changed : Changed a n run xs xs'
  pub tall : 0 < height_of xs → run ≡ ys

pub above-done : {a n : ℕ} {ys xs xs₁ xs' : List ℕ} → Changed a n ys xs xs₁ → xs' ≡ xs₁ → Above a n ys xs xs'
above-done {ys = ys} c e = record { run = ys; changed = rw e c; tall = λ t. refl }

pub leaf-left : {a n : ℕ} {ys xs xs' : List ℕ} → height_of xs ≡ 0 → xs' ≡ xs → Above a n ys xs xs'
leaf-left {a} {n} {ys} {xs} z e = record {
  run = part a n xs;
  changed = rw e unchanged;
  tall = λ t. absurd (omega arith);
}

-- the runs may be longer than what the page holds: its first n words count, and n + 1 of the children
module _ {most n m l : ℕ} {ks vs cs zs p₀ p₁ p₂ p₃ page : List ℕ} (long : Long most p₀) (sizes : (n ≤ m) × (m ≤ most) × (suc n ≤ l))
    (k : Changed 2 m ks p₀ p₁) (v : Changed (2 + most) m vs p₁ p₂) (c : Above (2 + 2 * most) l cs p₂ p₃) (s : Changed 0 1 zs p₃ page) where
  height-kept : height_of p₂ ≡ height_of p₀
  height-kept = at_low v 1 0 (omega arith) ∙ at_low k 1 0 (omega arith)

  written : count_of page ≡ n → (x : Node ℕ) → take n ks ≡ keys_of x.own → take n vs ≡ values_of x.own → (0 < height_of p₀ → take (suc n) cs ≡ x.children)
      → Holds most (height_of p₀) x page
  written count x ke ve ce = holds_by most page (omega (arith, s.long, c.changed.long, v.long, k.long)) n (height_of p₀) x (omega arith) count
      (at_high s 1 0 (omega arith) ∙ at_low c.changed 1 0 (omega arith) ∙ height-kept)
      (part-high s 2 n (omega arith) ∙ part_low c.changed 2 n (omega arith) ∙ part_low v 2 n (omega arith) ∙ part-here k n (omega arith) ∙ ke)
      (part-high s (2 + most) n (omega arith) ∙ part_low c.changed (2 + most) n (omega arith) ∙ part-here v n (omega arith) ∙ ve)
      (λ t. part-high s (2 + 2 * most) (suc n) (omega arith) ∙ part-here c.changed (suc n) (omega arith) ∙ ap (take (suc n)) (c.tall (omega (arith, height-kept))) ∙ ce t)

-- one more or one less: `es` does to entries what `ks` does to their keys and `vs` to their values, and the first n
-- give the first m of what is made
module _ (ks vs cs : List ℕ → List ℕ) (es : List Entry → List Entry) (keys : (l : List Entry) → keys_of (es l) ≡ ks (keys_of l)) (values : (l : List Entry) → values_of (es l) ≡ vs (values_of l))
    (n m : ℕ) (first-k : (l : List ℕ) → take m (ks l) ≡ ks (take n l)) (first-v : (l : List ℕ) → take m (vs l) ≡ vs (take n l)) (first-c : (l : List ℕ) → take (suc m) (cs l) ≡ cs (take (suc n) l)) where
  -- of the runs' words i give j, and of the children's a give b
  shifted : {p₀ p₁ p₂ p₃ : List ℕ} (most i j a b : ℕ) → Long most p₀ → (n ≤ i) × (i ≤ most) × (suc n ≤ a) → (m ≤ j) × (j ≤ most) × (suc m ≤ b)
      → Changed 2 j (ks (part 2 i p₀)) p₀ p₁
      → Changed (2 + most) j (vs (part (2 + most) i p₁)) p₁ p₂
      → Above (2 + 2 * most) b (cs (part (2 + 2 * most) a p₂)) p₂ p₃
      → Holds most (height_of p₀) record { page = 0; own = es (tab n (entry_in most p₀)); children = cs (tab (suc n) (child_in most p₀)) } (set p₃ 0 m)
  shifted {p₀} {p₁} {p₂} {p₃} most i j a b long had has k v c =
      let some : 0 < length p₃ = omega (arith, c.changed.long, v.long, k.long) in
      written long has k v c (stored refl some) (get_or-set_same p₃ 0 m 0 some) _
      (first-k _ ∙ ap ks (take-take n i (drop 2 p₀) (omega arith)) ∙ sym (keys _ ∙ ap ks (keys-part most p₀ long n (omega arith))))
      (first-v _ ∙ ap vs (take-take n i (drop (2 + most) p₁) (omega arith) ∙ part-high k (2 + most) n (omega arith)) ∙ sym (values _ ∙ ap vs (values-part most p₀ long n (omega arith))))
      (λ t. first-c _ ∙ ap cs (take-take (suc n) a (drop (2 + 2 * most) p₂) (omega arith) ∙ part-high v (2 + 2 * most) (suc n) (omega arith)
      ∙ part-high k (2 + 2 * most) (suc n) (omega arith) ∙ sym (children-part most p₀ long (suc n) (omega arith))))

-- the runs moved may be longer than what the page holds: i words of keys and of values, j of children
pub widened : {p₀ p₁ p₂ p₃ : List ℕ} (most i j n slot key value place child : ℕ) → Long most p₀ → (n ≤ i) × (i < most) × (n < j) × (j ≤ most) → slot ≤ n → place ≤ suc n
    → Changed 2 (suc i) (ins slot key (part 2 i p₀)) p₀ p₁
    → Changed (2 + most) (suc i) (ins slot value (part (2 + most) i p₁)) p₁ p₂
    → Above (2 + 2 * most) (suc j) (ins place child (part (2 + 2 * most) j p₂)) p₂ p₃
    → Holds most (height_of p₀) (more slot (entry key value) place child (firsts most n p₀)) (set p₃ 0 (n + 1))
widened most i j n slot key value place child long few inside among k v c =
    let one : n + 1 ≡ suc n = add-one n in
    rw one (shifted (ins slot key) (ins slot value) (ins place child) (ins slot (entry key value)) (map-ins _ slot (entry key value)) (map-ins _ slot (entry key value)) n (suc n)
    (λ l. take-ins n l slot key inside) (λ l. take-ins n l slot value inside) (λ l. take-ins (suc n) l place child among) most i (suc i) j (suc j) long (omega arith) (omega arith) k v c)

pub narrowed : {p₀ p₁ p₂ p₃ : List ℕ} (most n slot place : ℕ) → Long most p₀ → n ≤ most → slot < n → place ≤ n
    → Changed 2 (most - 1) (del slot (part 2 most p₀)) p₀ p₁
    → Changed (2 + most) (most - 1) (del slot (part (2 + most) most p₁)) p₁ p₂
    → Above (2 + 2 * most) (most + 1 - 1) (del place (part (2 + 2 * most) (most + 1) p₂)) p₂ p₃
    → Holds most (height_of p₀) (less slot place (firsts most n p₀)) (set p₃ 0 (n - 1))
narrowed most zero slot place long few inside among k v c = absurd (omega arith)
narrowed most (suc n) slot place long few inside among k v c =
    let one : suc n - 1 ≡ n = omega arith in
    rw one (shifted (del slot) (del slot) (del place) (del slot) (map-del _ slot) (map-del _ slot) (suc n) n
    (λ l. take-del n l slot (omega arith)) (λ l. take-del n l slot (omega arith)) (λ l. take-del (suc n) l place among) most most (most - 1) (most + 1) (most + 1 - 1) long (omega arith) (omega arith) k v c)

pub alone-holds : (most h key value left right : ℕ) (page : List ℕ) → Long most page → 1 ≤ most
    → Holds most h (alone (entry key value) left right) (set (set (set (set (set (set page 0 1) 1 h) 2 key) (2 + most) value) (2 + 2 * most) left) (3 + 2 * most) right)
alone-holds most h key value left right page long few =
    let p : List ℕ = set page 0 1 in
    let lp : length p ≡ length page = length-set page 0 1 in
    let p₀ : List ℕ = set p 1 h in
    let t : Changed 1 1 (h ∷ []) p p₀ = stored refl (omega arith) in
    let p₁ : List ℕ = set p₀ 2 key in
    let k : Changed 2 1 (key ∷ []) p₀ p₁ = stored refl (omega (arith, t.long)) in
    let p₂ : List ℕ = set p₁ (2 + most) value in
    let v : Changed (2 + most) 1 (value ∷ []) p₁ p₂ = stored refl (omega (arith, t.long, k.long)) in
    let p₃ : List ℕ = set p₂ (2 + 2 * most) left in
    let l : Changed (2 + 2 * most) 1 (left ∷ []) p₂ p₃ = stored refl (omega (arith, t.long, k.long, v.long)) in
    let next : 3 + 2 * most ≡ 2 + 2 * most + 1 = omega arith in
    let r : Changed (2 + 2 * most + 1) 1 (right ∷ []) p₃ (set p₃ (3 + 2 * most) right) = rw next (stored refl (omega (arith, t.long, k.long, v.long, l.long))) in
    let c = then_next (2 + 2 * most) 1 l r in
    let height : height_of p₀ ≡ h = get_or-set_same p 1 h 0 (omega arith) in
    rw height at (written (omega (arith, t.long)) (omega arith) k v (above-done c refl) unchanged
    (at_low c 0 0 (omega arith) ∙ at_low v 0 0 (omega arith) ∙ at_low k 0 0 (omega arith) ∙ at_low t 0 0 (omega arith) ∙ get_or-set_same page 0 1 0 (omega arith))
    (alone (entry key value) left right) refl refl (λ a. refl))

pub instead-holds : (most slot key value : ℕ) (page : List ℕ) → Long most page → count_of page ≤ most → slot < count_of page
    → Holds most (height_of page) (instead slot (entry key value) (said most page)) (set (set page (2 + slot) key) (2 + most + slot) value)
unfolding entries_of children_of
instead-holds most slot key value page long few inside =
    let n : ℕ = count_of page in
    let p₁ : List ℕ = set page (2 + slot) key in
    let p₂ : List ℕ = set p₁ (2 + most + slot) value in
    let k : Changed (2 + slot) 1 (key ∷ []) page p₁ = stored refl (omega arith) in
    let v : Changed (2 + most + slot) 1 (value ∷ []) p₁ p₂ = stored refl (omega (arith, k.long)) in
    holds_by most p₂ (omega (arith, k.long, v.long)) n (height_of page) (instead slot (entry key value) (said most page)) few
    (at_low v 0 0 (omega arith) ∙ at_low k 0 0 (omega arith))
    (at_low v 1 0 (omega arith) ∙ at_low k 1 0 (omega arith))
    (part_low v 2 n (omega arith) ∙ part-set 2 n page slot key inside
    ∙ sym (map-set _ (tab n (entry_in most page)) slot (entry key value) ∙ ap (λ (r : List ℕ). set r slot key) (keys-part most page long n few)))
    (part-set (2 + most) n p₁ slot value inside
    ∙ ap (λ (r : List ℕ). set r slot value) (part-high k (2 + most) n (omega arith))
    ∙ sym (map-set _ (tab n (entry_in most page)) slot (entry key value) ∙ ap (λ (r : List ℕ). set r slot value) (values-part most page long n few)))
    (λ t. part-high v (2 + 2 * most) (suc n) (omega arith) ∙ part-high k (2 + 2 * most) (suc n) (omega arith) ∙ sym (children-part most page long (suc n) (omega arith)))
