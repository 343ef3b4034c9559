-- A child's count by the words, and the plan by which a page left with three is mended: it asks few counts, and acts on
-- child i and a neighbour.
-- Assumes nothing.
use mathlib.Core.Path.{◌≡◌, refl, sym, ap, subst}
use mathlib.Core.List.{List}
use Prim.Native.Nat.{ℕ, zero, suc, ◌-◌, ◌≤◌, ◌<◌}
use native.Mathlib.Omega.{arith}
use borrow.Author.Tests.{lt-ltb, le-ltb, le-leb, lt-leb}
use Rattle.std.specs.Prelude.{Ok, Err}
use Rattle.model.specs.Page.{count_of}
use Rattle.model.specs.Mend.{Plan, keep, move, join, from_right, repair, plan}
use Rattle.lend.specs.Pages.{least, page_in}
use Rattle.tree.specs.Search.{unsound, below_of}
use Rattle.tree.specs.Remove.{count_by, count_below}
use Rattle.model.proofs.Cases.{either-le, either_lt}

pub count-found : (w : List ℕ) (u at c : ℕ) → below_of w u at ≡ Ok c → count_below w u at ≡ count_of (page_in w c)
count-found w u at c e = ap (count_by w) e

pub count-lost : (w : List ℕ) (u at : ℕ) → below_of w u at ≡ Err unsound → count_below w u at ≡ 0
count-lost w u at e = ap (count_by w) e

-- ---- what the plan comes to

module _ (m n : ℕ) (count : ℕ → ℕ) (i : ℕ) where
  -- neither neighbour has one to give
  abbrev pub PoorLeft : Type 0
  PoorLeft = (j : ℕ) → suc j ≡ i → count j ≤ m

  abbrev pub PoorRight : Type 0
  PoorRight = i < n → count (suc i) ≤ m

  pub repair-left : (j : ℕ) → suc j ≡ i → m < count j → move j (count j - 1) ≡ repair m n count i
  unfolding repair
  repair-left j e rich = subst (λ (k : ℕ). move j (count j - 1) ≡ repair m n count k) e (rw (lt-ltb m (count j) rich))

  from-right : (other : Plan) → i < n → m < count (suc i) → move i (suc (count i)) ≡ from_right m n count i other
  unfolding from_right
  from-right other h rich = rw (lt-ltb i n h, lt-ltb m (count (suc i)) rich)

  from-none : (other : Plan) → PoorRight → other ≡ from_right m n count i other
  unfolding from_right
  from-none other poor = either_lt i n (λ h. rw (lt-ltb i n h, le-ltb m (count (suc i)) (poor h))) (λ h. rw (le-ltb i n h))

  pub plan-keep : m ≤ count i → keep ≡ plan m n count i
  unfolding plan
  plan-keep h = rw (le-leb m (count i) h)

  pub plan-repair : count i < m → repair m n count i ≡ plan m n count i
  unfolding plan
  plan-repair h = rw (lt-leb m (count i) h)

pub repair-right : (m n : ℕ) (count : ℕ → ℕ) (i : ℕ) → PoorLeft m n count i → i < n → m < count (suc i) → move i (suc (count i)) ≡ repair m n count i
unfolding repair
repair-right m n count zero poor h rich = from-right m n count zero (join zero) h rich
repair-right m n count (suc j) poor h rich = rw (le-ltb m (count j) (poor j refl)) (from-right m n count (suc j) (join j) h rich)

pub repair-last : (m n : ℕ) (count : ℕ → ℕ) (i j : ℕ) → j ≡ i - 1 → PoorLeft m n count i → PoorRight m n count i → join j ≡ repair m n count i
unfolding repair
repair-last m n count zero j e left right = let none : j ≡ 0 = omega arith in rw none (from-none m n count zero (join zero) right)
repair-last m n count (suc k) j e left right =
    let same : j ≡ k = omega arith in
    rw (le-ltb m (count k) (left k refl), same) (from-none m n count (suc k) (join k) right)

-- ---- it asks the counts of the page's own children only

module _ (m n : ℕ) (f g : ℕ → ℕ) (same : (j : ℕ) → j ≤ n → f j ≡ g j) where
  right-same : (i : ℕ) (other : Plan) → i ≤ n → from_right m n f i other ≡ from_right m n g i other
  unfolding from_right
  right-same i other h = either_lt i n (λ l. rw (lt-ltb i n l, same (suc i) l, same i h)) (λ l. rw (le-ltb i n l))

  repair-same : (i : ℕ) → i ≤ n → repair m n f i ≡ repair m n g i
  unfolding repair
  repair-same zero h = right-same zero (join zero) h
  repair-same (suc j) h = rw (same j (omega arith), right-same (suc j) (join j) h)

  pub plan-same : (i : ℕ) → i ≤ n → plan m n f i ≡ plan m n g i
  unfolding plan
  plan-same i h = rw (same i h, repair-same i h)

-- ---- it acts on child i and a neighbour

abbrev pub Acts : ℕ → Plan → Type 0
Acts i keep = Unit {0}
Acts i (move j n) = (j ≤ i) × (i ≤ suc j)
Acts i (join j) = (j ≤ i) × (i ≤ suc j)

module _ (m n : ℕ) (count : ℕ → ℕ) where
  right-acts : (i : ℕ) (other : Plan) → Acts i other → Acts i (from_right m n count i other)
  unfolding from_right
  right-acts i other a =
      either_lt i n
      (λ h. rw (lt-ltb i n h) (either_lt m (count (suc i))
      (λ rich. rw (lt-ltb m (count (suc i)) rich) (omega arith, omega arith))
      (λ poor. rw (le-ltb m (count (suc i)) poor) a)))
      (λ h. rw (le-ltb i n h) a)

  repair-acts : (i : ℕ) → Acts i (repair m n count i)
  unfolding repair
  repair-acts zero = right-acts zero (join zero) (omega arith, omega arith)
  repair-acts (suc j) =
      either_lt m (count j)
      (λ rich. rw (lt-ltb m (count j) rich) (omega arith, omega arith))
      (λ poor. rw (le-ltb m (count j) poor) (right-acts (suc j) (join j) (omega arith, omega arith)))

  pub plan-acts : (i : ℕ) → Acts i (plan m n count i)
  unfolding plan
  plan-acts i =
      either-le m (count i) (λ h. rw (le-leb m (count i) h) tt) (λ h. rw (lt-leb m (count i) h) (repair-acts i))

-- the place of the two, on any words
pub plans-place : (w : List ℕ) (u i : ℕ) (p : Plan) → p ≡ plan least (count_of (page_in w u)) (count_below w u) i → Acts i p
plans-place w u i p e = subst (Acts i) (sym e) (plan-acts least (count_of (page_in w u)) (count_below w u) i)
