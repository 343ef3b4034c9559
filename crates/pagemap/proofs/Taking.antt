-- Taking the lowest free page and freeing a page, for callers who know the bits as numbers of their own: `f q` for page
-- q.
-- Assumes nothing.
use mathlib.Core.Path.{◌≡◌, refl, sym, ap, ap₂, ◌∙◌}
use mathlib.Core.List.{List, [], ◌∷◌}
use Prim.Native.Nat.{ℕ, zero, suc, ◌+◌, ◌-◌, ◌*◌, ◌/◌, ◌≤◌, ◌<◌}
use native.Mathlib.Nat.{zero-add, add-zero, add-suc, suc-add}
use native.Mathlib.Omega.{arith}
use lib.ListN.{length, get_or}
use lib.Seq.{drop-cons}
use borrow.Author.Tests.{eq-eqb, ne_eqb}
use Rattle.model.specs.Basics.{same}
use Rattle.model.specs.Sums.{sum_to}
use Rattle.model.specs.PageMap.{bit_at, free_from, free_pages}
use Rattle.std.specs.declared.option.Option.TheVariants.{Some, None}
use Rattle.pagemap.specs.Bits.{set_bit, clear_bit}
use Rattle.pagemap.specs.Lowest.{free_in, lowest_of}
use Rattle.model.proofs.Cases.{same_self, never}
use Rattle.model.proofs.PageMap.{free-same, free-is, free-after}
use Rattle.pagemap.proofs.Map.{set-bits, clear-bits}

-- ---- the first of some pages

first-page : (l : List ℕ) (p : ℕ) → lowest_of l ≡ Some p → (0 < length l) × (get_or l 0 0 ≡ p)
first-page [] p e = never (cc)
first-page (x ∷ l) p e = (omega arith, cc)

first-none : (l : List ℕ) → lowest_of l ≡ None → l ≡ []
first-none [] e = refl
first-none (x ∷ l) e = never (cc)

-- ---- which page is the lowest free one

-- pages that are taken are passed over
from-skip : (taken : ℕ → ℕ) (n p m : ℕ) → ((q : ℕ) → q < p + n → taken q ≡ 1) → free_from taken p (n + m) ≡ free_from taken (p + n) m
unfolding free_from
from-skip taken zero p m h = rw (zero-add m, add-zero p)
from-skip taken (suc n) p m h =
    rw (suc-add n m, ne_eqb (taken p) 0 (omega (arith, h p (omega arith))), add-suc p n, ← suc-add p n) (from-skip taken n (suc p) m (λ q l. h q (omega arith)))

module _ (words : List ℕ) (P : ℕ) where
  -- page p is free, and none below it
  pub lowest-page : (p : ℕ) → p < P → bit_at words p ≡ 0 → ((q : ℕ) → q < p → bit_at words q ≡ 1) → lowest_of (free_in words P) ≡ Some p
  unfolding free_pages free_from
  lowest-page p h z below =
      let e : P ≡ p + suc (P - suc p) = omega arith in
      ap lowest_of (ap (free_from (bit_at words) 0) e ∙ from-skip (bit_at words) p 0 (suc (P - suc p)) (λ q l. below q (omega arith)))
      ∙ rw (zero-add p, eq-eqb (bit_at words p) 0 z)

  pub lowest-none : ((q : ℕ) → q < P → bit_at words q ≡ 1) → lowest_of (free_in words P) ≡ None
  unfolding free_pages free_from
  lowest-none below = rw add-zero at (ap lowest_of (from-skip (bit_at words) P 0 0 (λ q l. below q (omega arith))))

  -- a page that is answered is one of P, and free; where none is answered, none is free
  pub lowest-is : (p : ℕ) → lowest_of (free_in words P) ≡ Some p → (p < P) × (bit_at words p ≡ 0)
  lowest-is p e =
      let first = first-page (free_in words P) p e in
      rw first.1 at (free-is (bit_at words) P 0 first.0)

  pub free-none : lowest_of (free_in words P) ≡ None → free_in words P ≡ []
  free-none = first-none (free_in words P)

-- ---- taken and freed

module _ (words : List ℕ) (f : ℕ → ℕ) where
  -- taking the lowest free page turns bits that are f into f and that page
  pub take-counts : (P p : ℕ) → P ≤ 64 * length words → ((q : ℕ) → bit_at words q ≡ f q) → lowest_of (free_in words P) ≡ Some p
      → (p < P) × (f p ≡ 0) × ((q : ℕ) → bit_at (set_bit words p) q ≡ f q + same q p)
  take-counts P p long bits e =
      let free = lowest-is words P p e in
      (free.0, sym (bits p) ∙ free.1, λ q. omega (arith, set-bits words p (omega arith) free.1 q, bits q))

  -- freeing a page turns bits that are f and that page into f
  pub free-counts : (p : ℕ) → p / 64 < length words → ((q : ℕ) → bit_at words q ≡ f q + same q p) → f p ≡ 0 → (q : ℕ) → bit_at (clear_bit words p) q ≡ f q
  free-counts p h bits z q = omega (arith, clear-bits words p h (omega (arith, bits p, same_self p)) q, bits q)

-- ---- one after the other

-- once the lowest is taken the rest is left
pub take_next : (words : List ℕ) (P p : ℕ) → P ≤ 64 * length words → lowest_of (free_in words P) ≡ Some p → free_in words P ≡ p ∷ free_in (set_bit words p) P
unfolding sum_to
take_next words P p long e =
    let first = first-page (free_in words P) p e in
    let free = lowest-is words P p e in
    drop-cons (free_in words P) 0 0 first.0
    ∙ ap₂ (λ (x : ℕ) (l : List ℕ). x ∷ l) first.1
    (sym (free-after (bit_at words) P 1 first.0)
    ∙ free-same (λ q. bit_at words q + sum_to (λ i. same q (get_or (free_in words P) i 0)) 1) (bit_at (set_bit words p)) P
    (λ q h. omega (arith, set-bits words p (omega arith) free.1 q, ap (same q) first.1)))

-- once the first k of the pages that are free are taken, the lowest is the next of them
pub lowest-kth : (words : List ℕ) (taken : ℕ → ℕ) (P k : ℕ) → ((q : ℕ) → bit_at words q ≡ taken q + sum_to (λ i. same q (get_or (free_pages taken P) i 0)) k)
    → k < length (free_pages taken P) → lowest_of (free_in words P) ≡ Some (get_or (free_pages taken P) k 0)
lowest-kth words taken P k bits h =
    ap lowest_of
    (free-same (bit_at words) (λ q. taken q + sum_to (λ i. same q (get_or (free_pages taken P) i 0)) k) P (λ q m. bits q)
    ∙ free-after taken P k (omega arith) ∙ drop-cons (free_pages taken P) k 0 h)
