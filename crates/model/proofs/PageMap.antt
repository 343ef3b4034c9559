-- The bits of the page map, and the free pages: they are inside the pool, free, distinct, and lowest first; once some
-- are taken the rest is left.
-- Assumes nothing.
use mathlib.Core.Path.{◌≡◌, refl, sym, ap, ap₂, subst, ◌∙◌}
use mathlib.Core.Logic.{◌≢◌}
use mathlib.Core.List.{List, ◌∷◌}
use Prim.Native.Nat.{ℕ, zero, suc, ◌+◌, ◌*◌, ◌/◌, ◌%◌, ◌^◌, ◌≤◌, ◌<◌}
use native.Mathlib.Nat.{div-one, zero-div, pow-suc, add-zero}
use native.Mathlib.Numerals.{one-add}
use native.Mathlib.Omega.{arith}
use lib.ListN.{length, drop, get_or, get_or-eq_default}
use lib.Pow.{shr-shr}
use lib.Seq.{ext_get_or}
use borrow.Author.Tests.{eq-eqb, ne_eqb}
use Rattle.model.specs.Basics.{same, All}
use Rattle.model.specs.Sums.{sum_to}
use Rattle.model.specs.Alike.{Words}
use Rattle.model.specs.PageMap.{bit, bit_at, free_from, free_pages}
use Rattle.model.proofs.Cases.{either-eq, same_self, same-other, never}
use Rattle.model.proofs.Basics.{all-at, all_map}
use Rattle.model.proofs.Sums.{sum_to-ext, sum_to-none, sum_to-once, sum_to-front}

-- ---- bits

pub bit-lt : (x b : ℕ) → bit x b < 2
unfolding bit
bit-lt x b = omega arith

pub bit-low : (x : ℕ) → bit x 0 ≡ x % 2
unfolding bit
bit-low x = ap (λ (y : ℕ). y % 2) (div-one x)

pub bit-suc : (x b : ℕ) → bit x (suc b) ≡ bit (x / 2) b
unfolding bit
bit-suc x b = sym (rw (shr-shr x 1 b, one-add b))

pub bit-zero : (b : ℕ) → bit 0 b ≡ 0
unfolding bit
bit-zero b = ap (λ (y : ℕ). y % 2) (zero-div (2 ^ b))

-- two numbers of k bits with the same bits are equal
pub bits-ext : (k x y : ℕ) → x < 2 ^ k → y < 2 ^ k → ((b : ℕ) → b < k → bit x b ≡ bit y b) → x ≡ y
bits-ext zero x y h l e = omega arith
bits-ext (suc k) x y h l e =
    let half : x / 2 ≡ y / 2 =
    bits-ext k (x / 2) (y / 2) (omega (arith, pow-suc 2 k)) (omega (arith, pow-suc 2 k))
    (λ b m. sym (bit-suc x b) ∙ e (suc b) (omega arith) ∙ bit-suc y b) in
    omega (arith, bit-low x, bit-low y, e 0 (omega arith))

pub bit_at_lt : (words : List ℕ) (p : ℕ) → bit_at words p < 2
unfolding bit_at
bit_at_lt words p = bit-lt (get_or words (p / 64) 0) (p % 64)

-- bit b of word i is page 64i + b's
pub bit_at-word : (words : List ℕ) (i b : ℕ) → b < 64 → bit_at words (64 * i + b) ≡ bit (get_or words i 0) b
unfolding bit_at
bit_at-word words i b h =
    let d : (64 * i + b) / 64 ≡ i = omega arith in
    let m : (64 * i + b) % 64 ≡ b = omega arith in
    rw (d, m)

-- past the words no bit is set
pub bit_at-past : (words : List ℕ) (p : ℕ) → 64 * length words ≤ p → bit_at words p ≡ 0
unfolding bit_at
bit_at-past words p h = rw (get_or-eq_default words 0 {n = p / 64} (omega arith)) (bit-zero (p % 64))

-- two maps of one length with the same bits are equal
pub map-ext : (v w : List ℕ) → length v ≡ length w → Words v → Words w → ((q : ℕ) → bit_at v q ≡ bit_at w q) → v ≡ w
map-ext v w n hv hw e =
    ext_get_or 0 v w n
    (λ i l. bits-ext 64 (get_or v i 0) (get_or w i 0) (hv i) (hw i)
    (λ b m. sym (bit_at-word v i b m) ∙ e (64 * i + b) ∙ bit_at-word w i b m))

-- ---- the free ones of the n pages from p on

abbrev Rises : List ℕ → Type 0
Rises l = (j k : ℕ) → j < k → k < length l → get_or l j 0 < get_or l k 0

rises-cons : (x : ℕ) (l : List ℕ) → All (λ y. x < y) l → Rises l → Rises (x ∷ l)
rises-cons x l a r zero zero h b = omega arith
rises-cons x l a r zero (suc k) h b = all-at (λ y. x < y) l k 0 (omega arith) a
rises-cons x l a r (suc j) zero h b = omega arith
rises-cons x l a r (suc j) (suc k) h b = r j k (omega arith) (omega arith)

module _ (taken : ℕ → ℕ) where
  from-count : (n p : ℕ) → ((q : ℕ) → taken q ≤ 1) → length (free_from taken p n) + sum_to (λ i. taken (p + i)) n ≡ n
  unfolding free_from sum_to
  from-count zero p h = refl
  from-count (suc n) p h =
      let shift : sum_to (λ i. taken (p + suc i)) n ≡ sum_to (λ i. taken (suc p + i)) n =
      sum_to-ext (λ i. taken (p + suc i)) (λ i. taken (suc p + i)) n (λ i l. ap taken (omega arith)) in
      let ih : length (free_from taken (suc p) n) + sum_to (λ i. taken (suc p + i)) n ≡ n = from-count n (suc p) h in
      let total : sum_to (λ i. taken (p + i)) (suc n) ≡ taken p + sum_to (λ i. taken (suc p + i)) n =
      sum_to-front (λ i. taken (p + i)) n ∙ ap₂ (λ (x y : ℕ). x + y) (ap taken (add-zero p)) shift in
      either-eq (taken p) 0
      (λ e. rw (eq-eqb (taken p) 0 e) (omega arith))
      (λ ne. rw (ne_eqb (taken p) 0 ne) (omega (arith, h p)))

  from_all : (n p : ℕ) → All (λ q. (p ≤ q) × (q < p + n) × (taken q ≡ 0)) (free_from taken p n)
  unfolding free_from
  from_all zero p = tt
  from_all (suc n) p =
      let later = all_map (λ q. (suc p ≤ q) × (q < suc p + n) × (taken q ≡ 0)) (λ q. (p ≤ q) × (q < p + suc n) × (taken q ≡ 0)) (free_from taken (suc p) n)
      (λ q h. (omega arith, omega arith, h.2)) (from_all n (suc p)) in
      either-eq (taken p) 0
      (λ e. rw (eq-eqb (taken p) 0 e) ((omega arith, omega arith, e), later))
      (λ ne. rw (ne_eqb (taken p) 0 ne) later)

  from-rise : (n p : ℕ) → Rises (free_from taken p n)
  unfolding free_from
  from-rise zero p = λ j k l h. omega arith
  from-rise (suc n) p =
      either-eq (taken p) 0
      (λ e. rw (eq-eqb (taken p) 0 e) (rises-cons p (free_from taken (suc p) n)
      (all_map (λ q. (suc p ≤ q) × (q < suc p + n) × (taken q ≡ 0)) (λ q. p < q) (free_from taken (suc p) n) (λ q h. h.0) (from_all n (suc p)))
      (from-rise n (suc p))))
      (λ ne. rw (ne_eqb (taken p) 0 ne) (from-rise n (suc p)))

from-same : (f g : ℕ → ℕ) (n p : ℕ) → ((q : ℕ) → p ≤ q → q < p + n → f q ≡ g q) → free_from f p n ≡ free_from g p n
unfolding free_from
from-same f g zero p h = refl
from-same f g (suc n) p h = rw (h p (omega arith) (omega arith), from-same f g n (suc p) (λ q l m. h q (omega arith) (omega arith)))

-- ---- the free ones of P pages

pub free-count : (taken : ℕ → ℕ) (P : ℕ) → ((p : ℕ) → taken p ≤ 1) → length (free_pages taken P) + sum_to taken P ≡ P
unfolding free_pages
free-count taken P h =
    omega (arith, from-count taken P 0 h, sum_to-ext taken (λ i. taken (0 + i)) P (λ i l. ap taken (omega arith)))

pub free-same : (f g : ℕ → ℕ) (P : ℕ) → ((q : ℕ) → q < P → f q ≡ g q) → free_pages f P ≡ free_pages g P
unfolding free_pages
free-same f g P h = from-same f g P 0 (λ q l m. h q (omega arith))

module _ (taken : ℕ → ℕ) (P : ℕ) where
  pub free-is : (k : ℕ) → k < length (free_pages taken P) → (get_or (free_pages taken P) k 0 < P) × (taken (get_or (free_pages taken P) k 0) ≡ 0)
  unfolding free_pages
  free-is k h =
      let r = all-at (λ q. (0 ≤ q) × (q < 0 + P) × (taken q ≡ 0)) (free_from taken 0 P) k 0 h (from_all taken P 0) in
      (omega arith, r.2)

  pub free-rise : (j k : ℕ) → j < k → k < length (free_pages taken P) → get_or (free_pages taken P) j 0 < get_or (free_pages taken P) k 0
  unfolding free_pages
  free-rise = from-rise taken P 0

  -- how often page p is among the first k of them: once at most, and never where it is taken or outside
  pub free-once : (k p : ℕ) → k ≤ length (free_pages taken P) → sum_to (λ i. same p (get_or (free_pages taken P) i 0)) k ≤ 1
  free-once k p h = sum_to-once (λ i. get_or (free_pages taken P) i 0) k p (λ i j l m. free-rise i j l (omega arith))

  pub free-never : (k p : ℕ) → k ≤ length (free_pages taken P) → (taken p ≡ 0 → P ≤ p) → sum_to (λ i. same p (get_or (free_pages taken P) i 0)) k ≡ 0
  free-never k p h never =
      sum_to-none (λ i. same p (get_or (free_pages taken P) i 0)) k
      (λ i l. same-other p (get_or (free_pages taken P) i 0) (λ e. let r = free-is i (omega arith) in omega (arith, never (ap taken e ∙ r.1))))

  -- with the pages taken already: k fresh pages are taken once each, and no page past P is
  pub fresh-once : (k p : ℕ) → k ≤ length (free_pages taken P) → taken p ≤ 1 → taken p + sum_to (λ i. same p (get_or (free_pages taken P) i 0)) k ≤ 1
  fresh-once k p h t =
      either-eq (taken p) 0 (λ z. omega (arith, free-once k p h)) (λ n. omega (arith, free-never k p h (λ z. absurd (n z))))

  pub fresh-inside : (k p : ℕ) → k ≤ length (free_pages taken P) → P ≤ p → taken p ≡ 0
      → taken p + sum_to (λ i. same p (get_or (free_pages taken P) i 0)) k ≡ 0
  fresh-inside k p h past z = omega (arith, free-never k p h (λ z. past))

-- ---- the free pages once the first k of them are taken: those behind

-- taken, or among the first k of `l`
abbrev taken_after : (ℕ → ℕ) → List ℕ → ℕ → ℕ → ℕ
taken_after taken l k q = taken q + sum_to (λ i. same q (get_or l i 0)) k

after-cons : (taken : ℕ → ℕ) (p : ℕ) (l : List ℕ) (k q : ℕ) → taken_after taken (p ∷ l) (suc k) q ≡ taken_after taken l k q + same q p
after-cons taken p l k q = omega (arith, sum_to-front (λ i. same q (get_or (p ∷ l) i 0)) k)

free-here : (f : ℕ → ℕ) (p n : ℕ) → f p ≡ 0 → free_from f p (suc n) ≡ p ∷ free_from f (suc p) n
unfolding free_from
free-here f p n e = rw (eq-eqb (f p) 0 e)

free-past : (f : ℕ → ℕ) (p n : ℕ) → f p ≢ 0 → free_from f p (suc n) ≡ free_from f (suc p) n
unfolding free_from
free-past f p n ne = rw (ne_eqb (f p) 0 ne)

from-next : (taken : ℕ → ℕ) (n p k : ℕ)
    → ((j : ℕ) → j ≤ length (free_from taken (suc p) n)
    → free_from (taken_after taken (free_from taken (suc p) n) j) (suc p) n ≡ drop j (free_from taken (suc p) n))
    → suc k ≤ length (free_from taken p (suc n))
    → free_from (taken_after taken (free_from taken p (suc n)) (suc k)) p (suc n) ≡ drop (suc k) (free_from taken p (suc n))
from-next taken n p k ih h =
    let rest = free_from taken (suc p) n in
    either-eq (taken p) 0
    (λ e. let first = free-here taken p n e in
    let b : suc k ≤ suc (length rest) = rw first at h in
    subst (λ l. free_from (taken_after taken l (suc k)) p (suc n) ≡ drop (suc k) l) (sym first)
    (free-past (taken_after taken (p ∷ rest) (suc k)) p n (omega (arith, after-cons taken p rest k p, same_self p))
    ∙ from-same (taken_after taken (p ∷ rest) (suc k)) (taken_after taken rest k) n (suc p)
    (λ q l m. omega (arith, after-cons taken p rest k q, same-other q p (omega arith)))
    ∙ ih k (omega arith)))
    (λ ne. let past = free-past taken p n ne in
    let b : suc k ≤ length rest = rw past at h in
    subst (λ l. free_from (taken_after taken l (suc k)) p (suc n) ≡ drop (suc k) l) (sym past)
    (free-past (taken_after taken rest (suc k)) p n (omega arith) ∙ ih (suc k) b))

from-after : (taken : ℕ → ℕ) (n p k : ℕ) → k ≤ length (free_from taken p n)
    → free_from (taken_after taken (free_from taken p n) k) p n ≡ drop k (free_from taken p n)
unfolding free_from sum_to
from-after taken zero p zero h = refl
from-after taken zero p (suc k) h = absurd (omega arith)
from-after taken (suc n) p zero h = from-same (taken_after taken (free_from taken p (suc n)) 0) taken (suc n) p (λ q l m. add-zero (taken q))
from-after taken (suc n) p (suc k) h = from-next taken n p k (from-after taken n (suc p)) h

pub free-after : (taken : ℕ → ℕ) (P k : ℕ) → k ≤ length (free_pages taken P)
    → free_pages (λ q. taken q + sum_to (λ i. same q (get_or (free_pages taken P) i 0)) k) P ≡ drop k (free_pages taken P)
unfolding free_pages
free-after taken P = from-after taken P 0
