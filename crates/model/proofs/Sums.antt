-- Laws of sums: of a number for each element of a list (`sum`), and of a number for each place below n (`sum_to`).
-- Assumes nothing.
use mathlib.Core.Path.{◌≡◌, refl, sym, ap, ap₂, ◌∙◌}
use mathlib.Core.Logic.{◌≢◌}
use mathlib.Core.List.{List, [], ◌∷◌, ◌++◌}
use Prim.Native.Nat.{ℕ, zero, suc, ◌+◌, ◌*◌, ◌≤◌, ◌<◌}
use native.Mathlib.Nat.{zero-add, add-zero, add-suc, zero-mul, mul-zero}
use native.Mathlib.Omega.{arith}
use lib.ListN.{length, take, drop, get_or, set, take-append-drop, drop_of_length-le}
use lib.Seq.{split_at, set_split}
use Rattle.model.specs.Basics.{splice, tab, sum, same, All}
use Rattle.model.specs.Sums.{sum_to}
use Rattle.model.proofs.Cases.{either-eq, same-eq, same-other, same-le, same-zero, either_lt}

-- ---- over a list

module _ {A : Type 0} where
  pub sum-append : (f : A → ℕ) (xs ys : List A) → sum f (xs ++ ys) ≡ sum f xs + sum f ys
  sum-append f [] ys = sym (zero-add (sum f ys))
  sum-append f (x ∷ xs) ys = omega (arith, sum-append f xs ys)

  -- the sum as the parts before, at and after element i
  pub sum-at : (f : A → ℕ) (l : List A) (i : ℕ) (d : A) → i < length l → sum f l ≡ sum f (take i l) + (f (get_or l i d) + sum f (drop (suc i) l))
  sum-at f l i d h = ap (sum f) (split_at l i d h) ∙ sum-append f (take i l) (get_or l i d ∷ drop (suc i) l)

  pub sum-single : (f : A → ℕ) (l : List A) (d : A) → length l ≡ 1 → sum f l ≡ f (get_or l 0 d)
  sum-single f l d e =
      let none : drop 1 l ≡ [] = drop_of_length-le l {i = 1} (omega arith) in
      omega (arith, sum-at f l 0 d (omega arith), ap (sum f) none)

  pub sum-cut : (f : A → ℕ) (n : ℕ) (l : List A) → sum f (take n l) + sum f (drop n l) ≡ sum f l
  sum-cut f n l = sym (sum-append f (take n l) (drop n l)) ∙ ap (sum f) (take-append-drop n l)

  -- element i replaced by the list cs, or by one
  pub sum-splice : (f : A → ℕ) (i : ℕ) (cs l : List A) (d : A) → i < length l → sum f (splice i cs l) + f (get_or l i d) ≡ sum f l + sum f cs
  sum-splice f i cs l d h = simp sum-append (omega (arith, sum-at f l i d h))

  pub sum-set : (f : A → ℕ) (l : List A) (i : ℕ) (x d : A) → i < length l → sum f (set l i x) + f (get_or l i d) ≡ sum f l + f x
  sum-set f l i x d h = rw (set_split l i x h) (omega (arith, sum-splice f i (x ∷ []) l d h))

  -- an element in whose place one stands that counts the same
  pub sum-set-same : (f : A → ℕ) (l : List A) (i : ℕ) (x d : A) → f x ≡ f (get_or l i d) → sum f (set l i x) ≡ sum f l
  sum-set-same f [] i x d e = refl
  sum-set-same f (y ∷ l) zero x d e = omega arith
  sum-set-same f (y ∷ l) (suc i) x d e = omega (arith, sum-set-same f l i x d e)

  pub sum-le : (P : A → Type 0) (f g : A → ℕ) (l : List A) → ((x : A) → P x → f x ≤ g x) → All P l → sum f l ≤ sum g l
  sum-le P f g [] h a = omega arith
  sum-le P f g (x ∷ l) h a = omega (arith, h x a.0, sum-le P f g l h a.1)

  pub sum-times : (c : ℕ) (f : A → ℕ) (l : List A) → sum (λ x. c * f x) l ≡ c * sum f l
  sum-times c f [] = sym (mul-zero c)
  sum-times c f (x ∷ l) = omega (arith, sum-times c f l)

  pub sum-const : (b : ℕ) (l : List A) → sum (λ x. b) l ≡ length l * b
  sum-const b [] = sym (zero-mul b)
  sum-const b (x ∷ l) = omega (arith, sum-const b l)

  -- what one element has over, the sum has over
  pub sum-le-at : (P : A → Type 0) (f g : A → ℕ) (l : List A) (i : ℕ) (d : A) → ((x : A) → P x → f x ≤ g x) → i < length l → All P l
      → sum f l + g (get_or l i d) ≤ sum g l + f (get_or l i d)
  sum-le-at P f g [] i d h b a = absurd (omega arith)
  sum-le-at P f g (x ∷ l) zero d h b a = omega (arith, sum-le P f g l h a.1)
  sum-le-at P f g (x ∷ l) (suc i) d h b a = omega (arith, h x a.0, sum-le-at P f g l i d h (omega arith) a.1)

-- ---- over the places below n

pub sum_to-ext : (f g : ℕ → ℕ) (n : ℕ) → ((i : ℕ) → i < n → f i ≡ g i) → sum_to f n ≡ sum_to g n
unfolding sum_to
sum_to-ext f g zero h = refl
sum_to-ext f g (suc n) h = ap₂ (λ (x y : ℕ). x + y) (sum_to-ext f g n (λ i l. h i (omega arith))) (h n (omega arith))

pub sum_to-none : (f : ℕ → ℕ) (n : ℕ) → ((i : ℕ) → i < n → f i ≡ 0) → sum_to f n ≡ 0
unfolding sum_to
sum_to-none f zero h = refl
sum_to-none f (suc n) h = omega (arith, sum_to-none f n (λ i l. h i (omega arith)), h n (omega arith))

-- the first term apart
pub sum_to-front : (f : ℕ → ℕ) (n : ℕ) → sum_to f (suc n) ≡ f 0 + sum_to (λ i. f (suc i)) n
unfolding sum_to
sum_to-front f zero = omega arith
sum_to-front f (suc n) = omega (arith, sum_to-front f n)

-- the first m terms, then the n after them
pub sum_to-add : (f : ℕ → ℕ) (m n : ℕ) → sum_to f (m + n) ≡ sum_to f m + sum_to (λ i. f (m + i)) n
unfolding sum_to
sum_to-add f m zero = rw (add-zero m) (omega arith)
sum_to-add f m (suc n) = rw (add-suc m n) (omega (arith, sum_to-add f m n))

pub sum_to-plus : (f g : ℕ → ℕ) (n : ℕ) → sum_to (λ i. f i + g i) n ≡ sum_to f n + sum_to g n
unfolding sum_to
sum_to-plus f g zero = refl
sum_to-plus f g (suc n) = omega (arith, sum_to-plus f g n)

-- how often p is among numbers that rise: once at most
pub sum_to-once : (f : ℕ → ℕ) (n p : ℕ) → ((j k : ℕ) → j < k → k < n → f j < f k) → sum_to (λ i. same p (f i)) n ≤ 1
unfolding sum_to
sum_to-once f zero p rise = omega arith
sum_to-once f (suc n) p rise =
    either-eq p (f n)
    (λ e. omega (arith, same-le p (f n), sum_to-none (λ i. same p (f i)) n (λ i l. same-other p (f i) (omega (arith, rise i n l (omega arith))))))
    (λ ne. omega (arith, same-other p (f n) ne, sum_to-once f n p (λ j k l m. rise j k l (omega arith))))

-- of numbers in a table
pub sum-tab : (f g : ℕ → ℕ) (n : ℕ) → sum f (tab n g) ≡ sum_to (λ i. f (g i)) n
unfolding sum_to
sum-tab f g zero = refl
sum-tab f g (suc n) = omega (arith, sum-tab f (λ k. g (suc k)) n, sum_to-front (λ i. f (g i)) n)

-- not among them
pub all_apart : (q : ℕ) (ps : List ℕ) → sum (same q) ps ≡ 0 → All (λ p. q ≢ p) ps
all_apart q [] z = tt
all_apart q (p ∷ ps) z = (same-zero q p (omega arith), all_apart q ps (omega arith))

-- how often q is among the numbers below n
pub sum_to-apart : (q n : ℕ) → n ≤ q → sum_to (λ p. same p q) n ≡ 0
unfolding sum_to
sum_to-apart q zero h = refl
sum_to-apart q (suc n) h = omega (arith, sum_to-apart q n (omega arith), same-other n q (omega arith))

pub sum_to-same : (q n : ℕ) → q < n → sum_to (λ p. same p q) n ≡ 1
unfolding sum_to
sum_to-same q zero h = absurd (omega arith)
sum_to-same q (suc n) h =
    let ih : q < n → sum_to (λ p. same p q) n ≡ 1 = sum_to-same q n in
    either-eq n q (λ e. omega (arith, sum_to-apart q n (omega arith), same-eq n q e)) (λ d. omega (arith, ih (omega arith), same-other n q d))

-- numbers that are 0 or 1 are not more than their places
pub sum_to-le : (f : ℕ → ℕ) (n : ℕ) → ((i : ℕ) → f i ≤ 1) → sum_to f n ≤ n
unfolding sum_to
sum_to-le f zero h = omega arith
sum_to-le f (suc n) h = omega (arith, sum_to-le f n h, h n)

pub sum_to-mono : (f g : ℕ → ℕ) (n : ℕ) → ((i : ℕ) → f i ≤ g i) → sum_to f n ≤ sum_to g n
unfolding sum_to
sum_to-mono f g zero le = omega arith
sum_to-mono f g (suc n) le = omega (arith, sum_to-mono f g n le, le n)

-- terms that are at most others of the same sum are equal to them
pub sum_to-tight : (f g : ℕ → ℕ) (n : ℕ) → ((i : ℕ) → f i ≤ g i) → sum_to f n ≡ sum_to g n → (i : ℕ) → i < n → f i ≡ g i
unfolding sum_to
sum_to-tight f g zero le e i h = absurd (omega arith)
sum_to-tight f g (suc n) le e i h =
    let here : f n ≤ g n = le n in
    let rest : sum_to f n ≤ sum_to g n = sum_to-mono f g n le in
    let last : f n ≡ g n = omega arith in
    let before : i < n → f i ≡ g i = sum_to-tight f g n le (omega arith) i in
    either_lt i n before (λ l. let at : i ≡ n = omega arith in rw at last)
