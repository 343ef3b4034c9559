-- Laws of the list model: where the gap of a key or a bound lies among rising entries, which keys are there, and what
-- keeps entries rising. A test `before` that falls (true up to some key, false from there on) stands for keys and
-- bounds alike. No trees here.
-- Assumes nothing.
use mathlib.Core.Path.{◌≡◌, refl, sym, ap, ◌∙◌}
use mathlib.Core.Bool.{Bool, true, false, cond}
use mathlib.Core.Logic.{◌≢◌}
use mathlib.Core.Option.{Option, none, some}
use mathlib.Core.List.{List, [], ◌∷◌, ◌++◌}
use Prim.Native.Nat.{ℕ, zero, suc, ◌+◌, ◌≤◌, ◌<◌}
use native.Mathlib.Omega.{arith}
use lib.Dec.{leb, ltb, eqb, leb-suc-suc}
use lib.ListN.{length, take, drop, get_or, set, length-take, length-drop, take-append-drop}
use lib.Seq.{get_or-take, get_or-drop, drop-nil}
use borrow.Author.Tests.{le-leb, lt-leb, lt-ltb, le-ltb, eq-eqb, ne_eqb, leb-true, ltb-true, ltb-false, eqb-true}
use Rattle.model.specs.Basics.{ins, del, those, All}
use Rattle.model.specs.Tree.{Entry, no_entry, Rising}
use Rattle.model.specs.Bound.{Bound, included, excluded, unbounded, before_lower, before_upper}
use Rattle.model.specs.Entries.{has, lookup, gap_of, gap_before, gap_after, between, next, prev, above, under, key_fits}
use Rattle.model.specs.Search.{at}
use Rattle.model.proofs.Cases.{either, either_lt, either-eq, never, contrary}
use Rattle.model.proofs.Basics.{all_append, all_left, all_right, all_take, all_drop, all-at, all_map, all_of, next-some, next-none, every_true}

-- ---- what insert, replace and remove leave, on lists

unfoldable pub filed : Entry → List Entry → List Entry
filed e es =
    let g = gap_before e.key es in
    cond (has e.key es) (set es g e) (ins g e es)

unfoldable pub replaced : Entry → List Entry → List Entry
replaced e es = cond (has e.key es) (set es (gap_before e.key es) e) es

unfoldable pub removed : ℕ → List Entry → List Entry
removed k es = cond (has k es) (del (gap_before k es) es) es

-- ---- tests that fall

abbrev pub Falls : (ℕ → Bool) → Type 0
Falls before = (a b : ℕ) → a ≤ b → before b ≡ true → before a ≡ true

pub falls_below : (k : ℕ) → Falls (λ x. ltb x k)
falls_below k a b l h = lt-ltb a k (omega (arith, ltb-true b k h))

pub falls-up-to : (k : ℕ) → Falls (λ x. leb x k)
falls-up-to k a b l h = le-leb a k (omega (arith, leb-true b k h))

ruleset falls = (falls_below, falls-up-to)

pub falls-lower : (b : Bound) → Falls (before_lower b)
falls-lower (included k) = search falls
falls-lower (excluded k) = search falls
falls-lower unbounded = λ a b l h. h

pub falls-upper : (b : Bound) → Falls (before_upper b)
falls-upper (included k) = search falls
falls-upper (excluded k) = search falls
falls-upper unbounded = λ a b l h. refl

-- the same from the other side
pub falls-back : (before : ℕ → Bool) → Falls before → (a b : ℕ) → a ≤ b → before a ≡ false → before b ≡ false
falls-back before f a b l n = either (before b) (λ y. let z = f a b l y in cc) (λ n'. n')

-- ---- rising entries and their parts

abbrev pub key_at : List Entry → ℕ → ℕ
key_at es i = (get_or es i no_entry).key

pub rising-at : (es : List Entry) → Rising es → (i j : ℕ) → i < j → j < length es → key_at es i < key_at es j
rising-at [] r i j l b = absurd (omega arith)
rising-at (e ∷ es) r i zero l b = absurd (omega arith)
rising-at (e ∷ es) r zero (suc j) l b = all-at (λ x. e.key < x.key) es j no_entry (omega arith) r.0
rising-at (e ∷ es) r (suc i) (suc j) l b = rising-at es r.1 i j (omega arith) (omega arith)

pub rising-left : (xs ys : List Entry) → Rising (xs ++ ys) → Rising xs
rising-left [] ys r = tt
rising-left (x ∷ xs) ys r = (all_left (λ y. x.key < y.key) xs ys r.0, rising-left xs ys r.1)

pub rising-right : (xs ys : List Entry) → Rising (xs ++ ys) → Rising ys
rising-right [] ys r = r
rising-right (x ∷ xs) ys r = rising-right xs ys r.1

-- all in front of an entry is below it
pub rising-lo : (xs : List Entry) (e : Entry) (ys : List Entry) → Rising (xs ++ e ∷ ys) → All (λ x. x.key < e.key) xs
rising-lo [] e ys r = tt
rising-lo (x ∷ xs) e ys r = ((all_right (λ y. x.key < y.key) xs (e ∷ ys) r.0).0, rising-lo xs e ys r.1)

pub all_under : (a b : ℕ) (es : List Entry) → a ≤ b → All (λ x. x.key < a) es → All (λ x. x.key < b) es
all_under a b es l h = all_map (λ x. x.key < a) (λ x. x.key < b) es (λ x p. omega arith) h

pub all_above : (a b : ℕ) (es : List Entry) → a ≤ b → All (λ x. b < x.key) es → All (λ x. a < x.key) es
all_above a b es l h = all_map (λ x. b < x.key) (λ x. a < x.key) es (λ x p. omega arith) h

pub rising-around : (xs : List Entry) (e : Entry) (ys : List Entry) → Rising xs → All (λ x. x.key < e.key) xs → All (λ y. e.key < y.key) ys
    → Rising ys → Rising (xs ++ e ∷ ys)
rising-around [] e ys r lo hi s = (hi, s)
rising-around (x ∷ xs) e ys r lo hi s =
    let x<e : x.key < e.key = lo.0 in (
      all_append (λ y. x.key < y.key) xs (e ∷ ys) r.0 (x<e, all_above x.key e.key ys (omega arith) hi),
      rising-around xs e ys r.1 lo.1 hi s,
    )

-- ---- the gap of a test

pub gap-le : (before : ℕ → Bool) (es : List Entry) → gap_of before es ≤ length es
unfolding gap_of
gap-le before [] = omega arith
gap-le before (e ∷ es) = either (before e.key) (λ y. rw y (omega (arith, gap-le before es))) (λ n. rw n (omega arith))

pub gap-start : (es : List Entry) → gap_of (λ x. false) es ≡ 0
unfolding gap_of
gap-start [] = refl
gap-start (e ∷ es) = refl

pub gap-end : (es : List Entry) → gap_of (λ x. true) es ≡ length es
unfolding gap_of
gap-end [] = refl
gap-end (e ∷ es) = ap suc (gap-end es)

-- in front of the gap every entry is before
pub gap-front : (before : ℕ → Bool) (es : List Entry) (i : ℕ) → i < gap_of before es → before (key_at es i) ≡ true
unfolding gap_of
gap-front before [] i l = absurd (omega arith)
gap-front before (e ∷ es) zero l = either (before e.key) (λ y. y) (λ n. absurd (let z = rw n at l in omega arith))
gap-front before (e ∷ es) (suc i) l =
    either (before e.key) (λ y. gap-front before es i (let z = rw y at l in omega arith)) (λ n. absurd (let z = rw n at l in omega arith))

-- and from it on none is
pub gap_back : (before : ℕ → Bool) (es : List Entry) → Falls before → Rising es → (i : ℕ) → gap_of before es ≤ i → i < length es → before (key_at es i) ≡ false
unfolding gap_of
gap_back before [] f r i l b = absurd (omega arith)
gap_back before (e ∷ es) f r zero l b = either (before e.key) (λ y. absurd (let z = rw y at l in omega arith)) (λ n. n)
gap_back before (e ∷ es) f r (suc i) l b =
    let up = all-at (λ x. e.key < x.key) es i no_entry (omega arith) r.0 in
    either (before e.key)
    (λ y. gap_back before es f r.1 i (let z = rw y at l in omega arith) (omega arith))
    (falls-back before f e.key (key_at es i) (omega arith))

-- which makes the gap what it is
pub gap-unique : (before : ℕ → Bool) (es : List Entry) (g : ℕ) → g ≤ length es → ((i : ℕ) → i < g → before (key_at es i) ≡ true)
    → (g < length es → before (key_at es g) ≡ false) → gap_of before es ≡ g
unfolding gap_of
gap-unique before [] g b front back = omega arith
gap-unique before (e ∷ es) zero b front back = rw (back (omega arith))
gap-unique before (e ∷ es) (suc g) b front back =
    rw (front 0 (omega arith)) (ap suc (gap-unique before es g (omega arith) (λ i l. front (suc i) (omega arith)) (λ l. back (omega arith))))

-- an entry behind i of them that comes before is one more
pub gap_more : (before : ℕ → Bool) (es : List Entry) (i : ℕ) → i ≤ gap_of before es → i < length es → before (key_at es i) ≡ true → i < gap_of before es
unfolding gap_of
gap_more before [] i l b y = absurd (omega arith)
gap_more before (e ∷ es) zero l b y = rw y (omega arith)
gap_more before (e ∷ es) (suc i) l b y =
    either (before e.key)
    (λ t. let z = rw t at l in rw t (omega (arith, gap_more before es i (omega arith) (omega arith) y)))
    (λ n. absurd (let z = rw n at l in omega arith))

-- where there is none, or one that does not, these are all
pub gap_ends : (before : ℕ → Bool) (es : List Entry) (i : ℕ) → i ≤ gap_of before es → (i < length es → before (key_at es i) ≡ false) → gap_of before es ≡ i
gap_ends before es i l n = gap-unique before es i (omega (arith, gap-le before es)) (λ j m. gap-front before es j (omega arith)) n

-- ---- which keys are there

-- below the first entry there is no key
pub lookup-none : (k : ℕ) (es : List Entry) → All (λ x. k < x.key) es → lookup k es ≡ none
unfolding lookup
lookup-none k [] a = refl
lookup-none k (e ∷ es) a = let l : k < e.key = a.0 in rw (ne_eqb e.key k (λ q. omega arith)) (lookup-none k es a.1)

-- a key is there where it has a value
abbrev pub there : Option ℕ → Bool
there none = false
there (some v) = true

pub has-lookup : (k : ℕ) (es : List Entry) → has k es ≡ there (lookup k es)
unfolding has lookup
has-lookup k [] = refl
has-lookup k (e ∷ es) = either (eqb e.key k) (λ y. rw y) (λ n. rw n (has-lookup k es))

-- the entry at the key's gap tells
pub lookup-gap : (k : ℕ) (es : List Entry) → Rising es → lookup k es ≡ cond (at k es (gap_before k es)) (some (get_or es (gap_before k es) no_entry).value) none
unfolding lookup gap_of
lookup-gap k [] r = refl
lookup-gap k (e ∷ es) r =
    either_lt e.key k
    (λ l. rw (lt-ltb e.key k l, ne_eqb e.key k (λ q. omega arith), leb-suc-suc) (lookup-gap k es r.1))
    (λ l. rw (le-ltb e.key k l, lt-ltb 0 (suc (length es)) (omega arith))
    (either-eq e.key k
    (λ q. rw (eq-eqb e.key k q))
    (λ n. rw (ne_eqb e.key k n) (lookup-none k es (all_above k e.key es l r.0)))))

pub has-at : (k : ℕ) (es : List Entry) → Rising es → has k es ≡ at k es (gap_before k es)
has-at k es r = has-lookup k es ∙ rw (lookup-gap k es r) (either (at k es (gap_before k es)) (λ y. rw y) (λ n. rw n))

pub lookup-at : (k : ℕ) (es : List Entry) → Rising es → lookup k es ≡ cond (has k es) (some (get_or es (gap_before k es) no_entry).value) none
lookup-at k es r = rw (has-at k es r) (lookup-gap k es r)

pub at_true : (k : ℕ) (es : List Entry) (i : ℕ) → at k es i ≡ true → (i < length es) × ((get_or es i no_entry).key ≡ k)
at_true k es i h =
    either_lt i (length es)
    (λ l. (l, eqb-true (key_at es i) k (rw (lt-ltb i (length es) l) at h)))
    (λ l. let z = rw (le-ltb i (length es) l) at h in never (cc))

-- an entry at a slot is one of the entries
has_in : (k : ℕ) (es : List Entry) (i : ℕ) → i < length es → (get_or es i no_entry).key ≡ k → has k es ≡ true
unfolding has
has_in k [] i b same = absurd (omega arith)
has_in k (e ∷ es) zero b same = rw (eq-eqb e.key k same)
has_in k (e ∷ es) (suc i) b same = either (eqb e.key k) (λ y. rw y) (λ n. rw n (has_in k es i (omega arith) same))

pub has-slot : (k : ℕ) (es : List Entry) (i : ℕ) → at k es i ≡ true → has k es ≡ true
has-slot k es i h = let a = at_true k es i h in has_in k es i a.0 a.1

pub has_key : (k : ℕ) (es : List Entry) → Rising es → has k es ≡ true → (gap_before k es < length es) × ((get_or es (gap_before k es) no_entry).key ≡ k)
has_key k es r h = at_true k es (gap_before k es) (sym (has-at k es r) ∙ h)

pub gap-after-has : (k : ℕ) (es : List Entry) → Rising es → has k es ≡ true → gap_after k es ≡ suc (gap_before k es)
gap-after-has k es r h =
    let g = gap_before k es in
    let here = has_key k es r h in
    let e = here.1 in
    gap-unique (λ x. leb x k) es (suc g) here.0
    (λ i l. either_lt i g
    (λ b. le-leb (key_at es i) k (omega (arith, ltb-true (key_at es i) k (gap-front (λ x. ltb x k) es i b))))
    (λ b. let q : i ≡ g = omega arith in rw q (le-leb (key_at es g) k (omega arith))))
    (λ b. lt-leb (key_at es (suc g)) k (omega (arith, rising-at es r g (suc g) (omega arith) b)))

pub gap-of-entry : (g : ℕ) (es : List Entry) → Rising es → g < length es → gap_before (get_or es g no_entry).key es ≡ g
gap-of-entry g es r b =
    gap-unique (λ x. ltb x (key_at es g)) es g (omega arith)
    (λ i l. lt-ltb (key_at es i) (key_at es g) (rising-at es r i g l b))
    (λ l. le-ltb (key_at es g) (key_at es g) (omega arith))

pub has-entry : (g : ℕ) (es : List Entry) → Rising es → g < length es → has (get_or es g no_entry).key es ≡ true
has-entry g es r b =
    has-at (key_at es g) es r ∙ rw (gap-of-entry g es r b, lt-ltb g (length es) b) (eq-eqb (key_at es g) (key_at es g) refl)

pub gap-after-entry : (g : ℕ) (es : List Entry) → Rising es → g < length es → gap_after (get_or es g no_entry).key es ≡ suc g
gap-after-entry g es r b = gap-after-has (key_at es g) es r (has-entry g es r b) ∙ ap suc (gap-of-entry g es r b)

pub has-absent : (k : ℕ) (es : List Entry) → Rising es → has k es ≡ false → (i : ℕ) → i < length es → key_at es i ≢ k
has-absent k es r n i b q = contrary (rw q at (has-entry i es r b)) n

-- an absent key has one gap
-- ---- lists in two parts

-- a part that is all before is passed; at an entry that is not, the count ends
pub gap-past : (before : ℕ → Bool) (xs ys : List Entry) → All (λ x. before x.key ≡ true) xs → gap_of before (xs ++ ys) ≡ length xs + gap_of before ys
unfolding gap_of
gap-past before [] ys a = omega arith
gap-past before (x ∷ xs) ys a = rw a.0 (omega (arith, gap-past before xs ys a.1))

pub gap_within : (before : ℕ → Bool) (xs : List Entry) (e : Entry) (ys : List Entry) → before e.key ≡ false → gap_of before (xs ++ e ∷ ys) ≡ gap_of before xs
unfolding gap_of
gap_within before [] e ys n = rw n
gap_within before (x ∷ xs) e ys n = rw (gap_within before xs e ys n)

pub lookup-past : (k : ℕ) (xs ys : List Entry) → All (λ x. x.key < k) xs → lookup k (xs ++ ys) ≡ lookup k ys
unfolding lookup
lookup-past k [] ys a = refl
lookup-past k (x ∷ xs) ys a = let l : x.key < k = a.0 in rw (ne_eqb x.key k (λ q. omega arith)) (lookup-past k xs ys a.1)

pub lookup-within : (k : ℕ) (xs ys : List Entry) → All (λ y. k < y.key) ys → lookup k (xs ++ ys) ≡ lookup k xs
unfolding lookup
lookup-within k [] ys a = lookup-none k ys a
lookup-within k (x ∷ xs) ys a = rw (lookup-within k xs ys a)

-- ---- a key that fits at a gap: above all in front of it, below all behind it

pub record Fits (k g : ℕ) (es : List Entry) : Type 0 where
  pub front : (i : ℕ) → i < g → key_at es i < k
  pub back : (i : ℕ) → g ≤ i → i < length es → k < key_at es i

-- the test asks the two neighbours alone
pub fits-true : (k g : ℕ) (es : List Entry) → g ≤ length es → Fits k g es → key_fits k g es ≡ true
unfolding key_fits
fits-true k g es b f =
    rw (above-prev g b f.front, under_next)
  where
    under_next : under (next g es) k ≡ true
    under_next =
        either_lt g (length es)
        (λ l. let h : k < key_at es g = f.back g (omega arith) l in rw (next-some es g no_entry l) (omega (arith, lt-ltb, le-leb)))
        (λ l. rw (next-none es g l))

    above-prev : (g : ℕ) → g ≤ length es → ((i : ℕ) → i < g → key_at es i < k) → above (prev g es) k ≡ true
    above-prev zero b f = refl
    above-prev (suc g) b f = let h : key_at es g < k = f g (omega arith) in rw (next-some es g no_entry b) (omega (arith, lt-ltb, le-leb))

pub true-fits : (k g : ℕ) (es : List Entry) → Rising es → g ≤ length es → key_fits k g es ≡ true → Fits k g es
unfolding key_fits
true-fits k g es r b h =
    let p = every_true (above (prev g es) k ∷ under (next g es) k ∷ []) h in
    record {
      front = front g b p.0;
      back = λ i l c.
          let q = rw (next-some es g no_entry (omega arith)) at p.1.0 in
          let k<g : k < key_at es g = omega (arith, ltb-true, leb-true) in
          either_lt g i (λ m. omega (arith, rising-at es r g i m c)) (λ m. let q : i ≡ g = omega arith in rw q k<g);
    }
  where
    front : (g : ℕ) → g ≤ length es → above (prev g es) k ≡ true → (i : ℕ) → i < g → key_at es i < k
    front zero b h i l = absurd (omega arith)
    front (suc g) b h i l =
        let q = rw (next-some es g no_entry b) at h in
        let g<k : key_at es g < k = omega (arith, ltb-true, leb-true) in
        either_lt i g (λ m. omega (arith, rising-at es r i g m b)) (λ m. let q : i ≡ g = omega arith in rw q g<k)

-- it fits at the gap of the key, where the key is not there yet, and nowhere else
pub absent-fits : (k : ℕ) (es : List Entry) → Rising es → has k es ≡ false → key_fits k (gap_before k es) es ≡ true
absent-fits k es r n =
    fits-true k (gap_before k es) es (gap-le (λ x. ltb x k) es) (record {
      front = λ i l. ltb-true (key_at es i) k (gap-front (λ x. ltb x k) es i l);
      back = λ i l b. let o = has-absent k es r n i b in omega (arith, ltb-false (key_at es i) k (gap_back (λ x. ltb x k) es (falls_below k) r i l b));
    })

pub fits-gap : (k g : ℕ) (es : List Entry) → Rising es → g ≤ length es → key_fits k g es ≡ true → gap_before k es ≡ g
fits-gap k g es r b h =
    let f = true-fits k g es r b h in
    gap-unique (λ x. ltb x k) es g b (λ i l. lt-ltb (key_at es i) k (f.front i l)) (λ l. le-ltb (key_at es g) k (omega (arith, f.back g (omega arith) l)))

pub fits-absent : (k g : ℕ) (es : List Entry) → Rising es → g ≤ length es → key_fits k g es ≡ true → has k es ≡ false
fits-absent k g es r b h =
    let f = true-fits k g es r b h in
    has-at k es r ∙ rw (fits-gap k g es r b h)
    (either_lt g (length es)
    (λ l. rw (lt-ltb g (length es) l) (ne_eqb (key_at es g) k (λ q. omega (arith, f.back g (omega arith) l))))
    (λ l. rw (le-ltb g (length es) l)))

-- ---- what keeps entries rising

pub rising-ins : (k v g : ℕ) (es : List Entry) → Rising es → g ≤ length es → key_fits k g es ≡ true → Rising (ins g (record { key = k; value = v }) es)
rising-ins k v g es r b h =
    let f = true-fits k g es r b h in
    let s : Rising (take g es ++ drop g es) = rw take-append-drop r in
    rising-around (take g es) (record { key = k; value = v }) (drop g es) (rising-left (take g es) (drop g es) s)
    (all_of (λ x. x.key < k) (take g es) no_entry (λ i l.
    let l' = simp length-take at l in rw (get_or-take g es i no_entry (omega arith)) (f.front i (omega arith))))
    (all_of (λ x. k < x.key) (drop g es) no_entry (λ i l.
    let l' = simp length-drop at l in rw (get_or-drop g es i no_entry) (f.back (g + i) (omega arith) (omega arith))))
    (rising-right (take g es) (drop g es) s)

pub rising-del : (g : ℕ) (es : List Entry) → Rising es → Rising (del g es)
rising-del zero [] r = tt
rising-del zero (e ∷ es) r = r.1
rising-del (suc g) [] r = tt
rising-del (suc g) (e ∷ es) r =
    let P : Entry → Type 0 = λ x. e.key < x.key in
    (all_append P (take g es) (drop (suc g) es) (all_take P g es r.0) (all_drop P (suc g) es r.0), rising-del g es r.1)

-- an entry replaced by one with its key; past the end nothing is
all-set-key : (P : ℕ → Type 0) (g : ℕ) (e : Entry) (es : List Entry) → e.key ≡ key_at es g → All (λ x. P x.key) es → All (λ x. P x.key) (set es g e)
all-set-key P g e [] q a = tt
all-set-key P zero e (x ∷ es) q a = (rw q a.0, a.1)
all-set-key P (suc g) e (x ∷ es) q a = (a.0, all-set-key P g e es q a.1)

pub rising-set : (g : ℕ) (e : Entry) (es : List Entry) → Rising es → e.key ≡ (get_or es g no_entry).key → Rising (set es g e)
rising-set g e [] r q = tt
rising-set zero e (x ∷ es) r q = rw q r
rising-set (suc g) e (x ∷ es) r q = (all-set-key (λ k. x.key < k) g e es q r.0, rising-set g e es r.1 q)

-- ---- the entries between two bounds are a slice

-- behind an entry that is not before, none is
pub gap-none : (before : ℕ → Bool) (e : Entry) (es : List Entry) → Falls before → All (λ x. e.key < x.key) es → before e.key ≡ false → gap_of before es ≡ 0
unfolding gap_of
gap-none before e [] f a n = refl
gap-none before e (x ∷ es) f a n = let l : e.key < x.key = a.0 in rw (falls-back before f e.key x.key (omega arith) n)

pub those-slice : (low high : ℕ → Bool) (es : List Entry) → Falls low → Falls high → Rising es
    → those (λ e. cond (low e.key) false (high e.key)) es ≡ drop (gap_of low es) (take (gap_of high es) es)
unfolding gap_of
those-slice low high [] fl fh r = refl
those-slice low high (e ∷ es) fl fh r =
    let ih = those-slice low high es fl fh r.1 in
    either (high e.key)
    (λ yh. either (low e.key) (λ yl. rw (yl, yh) ih) (λ nl. rw (nl, yh) (ap (λ (l : List Entry). e ∷ l) (ih ∙ rw (gap-none low e es fl r.0 nl)))))
    (λ nh.
    let z = ih ∙ rw (gap-none high e es fh r.0 nh) (drop-nil (gap_of low es)) in
    either (low e.key) (λ yl. rw (yl, nh) z) (λ nl. rw (nl, nh) z))

-- the entries behind gap g that come before
pub gap-slice : (before : ℕ → Bool) (g : ℕ) (es : List Entry) → Falls before → Rising es → take (gap_of before (drop g es)) (drop g es) ≡ drop g (take (gap_of before es) es)
unfolding gap_of
gap-slice before zero es f r = refl
gap-slice before (suc g) [] f r = refl
gap-slice before (suc g) (e ∷ es) f r =
    either (before e.key)
    (λ y. rw y (gap-slice before g es f r.1))
    (λ n. rw (n, gap-none before e (drop g es) f (all_drop (λ x. e.key < x.key) g es r.0) n))

pub inside-slice : (low high : Bound) (es : List Entry) → Rising es
    → between low high es ≡ drop (gap_of (before_lower low) es) (take (gap_of (before_upper high) es) es)
inside-slice low high es r = those-slice (before_lower low) (before_upper high) es (falls-lower low) (falls-upper high) r
