-- Laws of lists, in general. Nothing here knows of trees.
-- Assumes nothing.
use mathlib.Core.Path.{◌≡◌, refl, sym, ap, ◌∙◌, ap₂}
use mathlib.Core.Bool.{Bool, true, false, cond}
use mathlib.Core.Option.{none, some}
use mathlib.Core.List.{List, [], ◌∷◌, ◌++◌, map, append_assoc, map-append}
use Prim.Native.Nat.{ℕ, zero, suc, min, ◌+◌, ◌≤◌, ◌<◌}
use native.Mathlib.Nat.{zero-add, suc-add}
use native.Mathlib.Omega.{arith}
use lib.ListN.{length, take, drop, get_or, set, length-append, length-take, length-drop, get_elem?, get_or-append}
use lib.Seq.{take-append-le, drop-append-le, take-append-add, drop-append-add, split_at, drop-cons, set_split, set-append_left, set-append_seam, length-take-le, get_or_at, get_or-take, map-set_same, take-take, take_all}
use Rattle.model.specs.Basics.{ins, splice, tab, All, final, every, del}
use Rattle.model.proofs.Cases.{either_lt, never}
use Rattle.model.proofs.Cases.{contrary, either-le, never}

module _ {A : Type 0} where
  pub length-ins : (g : ℕ) (x : A) (l : List A) → g ≤ length l → length (ins g x l) ≡ suc (length l)
  length-ins g x l h = simp (length-append, length-take, length-drop) (omega arith)

  pub length-tab : (n : ℕ) (f : ℕ → A) → length (tab n f) ≡ n
  length-tab zero f = refl
  length-tab (suc n) f = ap suc (length-tab n (λ k. f (suc k)))

  -- what stands at each place of a list with one more
  pub ins-before : (g : ℕ) (x : A) (l : List A) (i : ℕ) (d : A) → i < g → g ≤ length l → get_or (ins g x l) i d ≡ get_or l i d
  ins-before g x l i d h b =
      let long : length (take g l) ≡ g = length-take-le g l b in
      get_or-append (take g l) (x ∷ drop g l) d i (omega arith) ∙ get_or-take g l i d h

  pub ins-here : (g : ℕ) (x : A) (l : List A) (d : A) → g ≤ length l → get_or (ins g x l) g d ≡ x
  ins-here g x l d b = get_or_at (take g l) x (drop g l) d g (length-take-le g l b)

  pub ins-after : (g : ℕ) (x : A) (l : List A) (i : ℕ) (d : A) → g ≤ i → g ≤ length l → get_or (ins g x l) (suc i) d ≡ get_or l i d
  ins-after zero x l i d h b = refl
  ins-after (suc g) x [] i d h b = absurd (omega arith)
  ins-after (suc g) x (y ∷ l) zero d h b = absurd (omega arith)
  ins-after (suc g) x (y ∷ l) (suc i) d h b = ins-after g x l i d (omega arith) (omega arith)

  -- and of a list with one less
  pub length-del : (g : ℕ) (l : List A) → g < length l → suc (length (del g l)) ≡ length l
  length-del g l h = simp (length-append, length-take, length-drop) (omega arith)

  pub del-before : (g : ℕ) (l : List A) (i : ℕ) (d : A) → i < g → g ≤ length l → get_or (del g l) i d ≡ get_or l i d
  del-before g l i d h b =
      let long : length (take g l) ≡ g = length-take-le g l b in
      get_or-append (take g l) (drop (suc g) l) d i (omega arith) ∙ get_or-take g l i d h

  -- a gap inside the middle part
  pub ins-inside : (l c r : List A) (g : ℕ) (x : A) → g ≤ length c → ins (length l + g) x (l ++ (c ++ r)) ≡ l ++ (ins g x c ++ r)
  ins-inside l c r g x h = simp (take-append-add, drop-append-add, take-append-le, drop-append-le, append_assoc)

  pub splice-one : (i : ℕ) (c : A) (l : List A) → i < length l → splice i (c ∷ []) l ≡ set l i c
  splice-one i c l h = sym (set_split l i c h)

  -- a list around two neighbours
  pub split-two : (l : List A) (j : ℕ) (d : A) → suc j < length l → l ≡ take j l ++ get_or l j d ∷ get_or l (suc j) d ∷ drop (suc (suc j)) l
  split-two l j d h = split_at l j d (omega arith) ∙ ap (λ (r : List A). take j l ++ get_or l j d ∷ r) (drop-cons l (suc j) d h)

  pub set-append-add : (l s : List A) (n : ℕ) (x : A) → set (l ++ s) (length l + n) x ≡ l ++ set s n x
  set-append-add [] s n x = rw zero-add
  set-append-add (y ∷ l) s n x = rw suc-add (ap (λ (r : List A). y ∷ r) (set-append-add l s n x))

  -- an element of the middle part
  pub set-inside : (l c r : List A) (g : ℕ) (x : A) → g < length c → set (l ++ (c ++ r)) (length l + g) x ≡ l ++ (set c g x ++ r)
  set-inside l c r g x h = set-append-add l (c ++ r) g x ∙ ap (λ (s : List A). l ++ s) (set-append_left c r g x h)

  -- the first behind the middle part
  pub set-seam : (l c : List A) (y : A) (r : List A) (x : A) → set (l ++ (c ++ y ∷ r)) (length l + length c) x ≡ l ++ (c ++ x ∷ r)
  set-seam l c y r x = set-append-add l (c ++ y ∷ r) (length c) x ∙ ap (λ (s : List A). l ++ s) (set-append_seam c y r x)

  -- the last stands at the last place
  pub final-at : (d : A) (l : List A) (n : ℕ) → length l ≡ suc n → final d l ≡ get_or l n d
  final-at d [] n h = absurd (omega arith)
  final-at d (x ∷ []) zero h = refl
  final-at d (x ∷ []) (suc n) h = absurd (omega arith)
  final-at d (x ∷ y ∷ l) zero h = absurd (omega arith)
  final-at d (x ∷ y ∷ l) (suc n) h = final-at d (y ∷ l) n (omega arith)

  -- where there is a last, it is not the default
  pub final-other : (d e : A) (l : List A) → 1 ≤ length l → final d l ≡ final e l
  final-other d e [] h = absurd (omega arith)
  final-other d e (x ∷ l) h = refl

  pub final-append : (d : A) (l : List A) (x : A) (r : List A) → final d (l ++ x ∷ r) ≡ final x r
  final-append d [] x r = refl
  final-append d (y ∷ l) x r = final-append y l x r

-- P stands first and explicit: antt reads no implicit argument off a type that computes
module _ {A : Type 0} (P : A → Type 0) where
  pub all_append : (xs ys : List A) → All P xs → All P ys → All P (xs ++ ys)
  all_append [] ys a b = b
  all_append (x ∷ xs) ys a b = (a.0, all_append xs ys a.1 b)

  pub all_left : (xs ys : List A) → All P (xs ++ ys) → All P xs
  all_left [] ys a = tt
  all_left (x ∷ xs) ys a = (a.0, all_left xs ys a.1)

  pub all_right : (xs ys : List A) → All P (xs ++ ys) → All P ys
  all_right [] ys a = a
  all_right (x ∷ xs) ys a = all_right xs ys a.1

  pub all_take : (n : ℕ) (l : List A) → All P l → All P (take n l)
  all_take zero l a = tt
  all_take (suc n) [] a = tt
  all_take (suc n) (x ∷ xs) a = (a.0, all_take n xs a.1)

  pub all_drop : (n : ℕ) (l : List A) → All P l → All P (drop n l)
  all_drop zero l a = a
  all_drop (suc n) [] a = tt
  all_drop (suc n) (x ∷ xs) a = all_drop n xs a.1

  pub all-at : (l : List A) (i : ℕ) (d : A) → i < length l → All P l → P (get_or l i d)
  all-at [] i d h a = absurd (omega arith)
  all-at (x ∷ xs) zero d h a = a.0
  all-at (x ∷ xs) (suc i) d h a = all-at xs i d (omega arith) a.1

  pub all_set : (l : List A) (i : ℕ) (x : A) → P x → All P l → All P (set l i x)
  all_set [] i x p a = tt
  all_set (y ∷ l) zero x p a = (p, a.1)
  all_set (y ∷ l) (suc i) x p a = (a.0, all_set l i x p a.1)

  pub all-splice : (i : ℕ) (cs l : List A) → All P cs → All P l → All P (splice i cs l)
  all-splice i cs l a b = all_append (take i l) (cs ++ drop (suc i) l) (all_take i l b) (all_append cs (drop (suc i) l) a (all_drop (suc i) l b))

  -- the parts around element n
  pub all-last : (n : ℕ) (l : List A) (d : A) → n < length l → All P (take (suc n) l) → All P (take n l) × P (get_or l n d)
  all-last n [] d b h = absurd (omega arith)
  all-last zero (x ∷ l) d b h = (tt, h.0)
  all-last (suc n) (x ∷ l) d b h = let r : All P (take n l) × P (get_or l n d) = all-last n l d (omega arith) h.1 in ((h.0, r.0), r.1)

  pub all_first : (n : ℕ) (l : List A) (d : A) → n < length l → All P (drop n l) → P (get_or l n d) × All P (drop (suc n) l)
  all_first n [] d b h = absurd (omega arith)
  all_first zero (x ∷ l) d b h = h
  all_first (suc n) (x ∷ l) d b h = all_first n l d (omega arith) h

  pub all-around : (n : ℕ) (l : List A) (d : A) → n < length l → All P (take n l) → P (get_or l n d) → All P (drop (suc n) l) → All P l
  all-around n [] d b before here after = tt
  all-around zero (x ∷ l) d b before here after = (here, after)
  all-around (suc n) (x ∷ l) d b before here after = (before.0, all-around n l d (omega arith) before.1 here after)

-- what holds at each place holds of all
pub all_of : {A : Type 0} (P : A → Type 0) (l : List A) (d : A) → ((i : ℕ) → i < length l → P (get_or l i d)) → All P l
all_of P [] d h = tt
all_of P (x ∷ xs) d h = (h 0 (omega arith), all_of P xs d (λ i b. h (suc i) (omega arith)))

pub next-some : {A : Type 0} (l : List A) (i : ℕ) (d : A) → i < length l → get_elem? l i ≡ some (get_or l i d)
next-some [] i d b = absurd (omega arith)
next-some (x ∷ xs) zero d b = refl
next-some (x ∷ xs) (suc i) d b = next-some xs i d (omega arith)

pub next-none : {A : Type 0} (l : List A) (i : ℕ) → length l ≤ i → get_elem? l i ≡ none
next-none [] i b = refl
next-none (x ∷ xs) zero b = absurd (omega arith)
next-none (x ∷ xs) (suc i) b = next-none xs i (omega arith)

-- and back
pub found_some : {A : Type 0} (l : List A) (i : ℕ) (d : A) {x : A} → some x ≡ get_elem? l i → (i < length l) × (x ≡ get_or l i d)
found_some l i d e = either_lt i (length l) (λ b. (b, cc (next-some l i d b))) (λ b. never (cc (next-none l i b)))

pub found_none : {A : Type 0} (l : List A) (i : ℕ) → none ≡ get_elem? l i → length l ≤ i
found_none [] i e = omega arith
found_none (x ∷ xs) zero e = never (cc)
found_none (x ∷ xs) (suc i) e = let b = found_none xs i e in omega arith

pub all_any : {A : Type 0} (P : A → Type 0) (l : List A) → ((x : A) → P x) → All P l
all_any P [] f = tt
all_any P (x ∷ xs) f = (f x, all_any P xs f)

pub all_both : {A : Type 0} (P Q R : A → Type 0) (l : List A) → ((x : A) → P x → Q x → R x) → All P l → All Q l → All R l
all_both P Q R [] f a b = tt
all_both P Q R (x ∷ xs) f a b = (f x a.0 b.0, all_both P Q R xs f a.1 b.1)

pub all_map : {A : Type 0} (P Q : A → Type 0) (l : List A) → ((x : A) → P x → Q x) → All P l → All Q l
all_map P Q [] f a = tt
all_map P Q (x ∷ xs) f a = (f x a.0, all_map P Q xs f a.1)

-- the numbers of two lists that are the same in front, one by one
pub front-word : (n : ℕ) (w v : List ℕ) → take n v ≡ take n w → (i : ℕ) → i < n → get_or v i 0 ≡ get_or w i 0
front-word n w v e i h = sym (get_or-take n v i 0 h) ∙ ap (λ (l : List ℕ). get_or l i 0) e ∙ get_or-take n w i 0 h

-- ---- map

module _ {S U : Type 0} (f : S → U) where
  pub map-take : (n : ℕ) (l : List S) → take n (map f l) ≡ map f (take n l)
  map-take zero l = refl
  map-take (suc n) [] = refl
  map-take (suc n) (x ∷ xs) = ap {B = List U} (λ r. f x ∷ r) (map-take n xs)

  pub map-drop : (n : ℕ) (l : List S) → drop n (map f l) ≡ map f (drop n l)
  map-drop zero l = refl
  map-drop (suc n) [] = refl
  map-drop (suc n) (x ∷ xs) = map-drop n xs

  pub map-set : (l : List S) (i : ℕ) (x : S) → map f (set l i x) ≡ set (map f l) i (f x)
  map-set [] i x = refl
  map-set (y ∷ l) zero x = refl
  map-set (y ∷ l) (suc i) x = ap {B = List U} (λ r. f y ∷ r) (map-set l i x)

  pub get_or_map : (l : List S) (i : ℕ) (d : S) (e : U) → i < length l → get_or (map f l) i e ≡ f (get_or l i d)
  get_or_map [] i d e h = absurd (omega arith)
  get_or_map (x ∷ xs) zero d e h = refl
  get_or_map (x ∷ xs) (suc i) d e h = get_or_map xs i d e (omega arith)

  pub map-tab : (n : ℕ) (g : ℕ → S) → map f (tab n g) ≡ tab n (λ i. f (g i))
  map-tab zero g = refl
  map-tab (suc n) g = ap (λ (r : List U). f (g zero) ∷ r) (map-tab n (λ i. g (suc i)))

  pub map-ins : (i : ℕ) (x : S) (l : List S) → map f (ins i x l) ≡ ins i (f x) (map f l)
  map-ins i x l = simp (map-append, map-take, map-drop)

  pub map-del : (i : ℕ) (l : List S) → map f (del i l) ≡ del i (map f l)
  map-del i l = simp (map-append, map-take, map-drop)

  -- one for one of the same image: the images stay. Two for one, the first of the same image: an image more
  pub splice-same : (l : List S) (i : ℕ) (x d : S) → i < length l → f x ≡ f (get_or l i d) → map f l ≡ map f (splice i (x ∷ []) l)
  splice-same l i x d h e = sym (ap (map f) (splice-one i x l h) ∙ map-set_same f l i x d e)

  pub splice-more : (l : List S) (i : ℕ) (x y d : S) → i < length l → f x ≡ f (get_or l i d) → ins (suc i) (f y) (map f l) ≡ map f (splice i (x ∷ y ∷ []) l)
  splice-more [] i x y d h e = absurd (omega arith)
  splice-more (z ∷ l) zero x y d h e = ap (λ (u : U). u ∷ f y ∷ map f l) (sym e)
  splice-more (z ∷ l) (suc i) x y d h e = ap (λ (r : List U). f z ∷ r) (splice-more l i x y d (omega arith) e)

pub get_or-tab : {A : Type 0} (n : ℕ) (f : ℕ → A) (i : ℕ) (d : A) → i < n → get_or (tab n f) i d ≡ f i
get_or-tab zero f i d h = absurd (omega arith)
get_or-tab (suc n) f zero d h = refl
get_or-tab (suc n) f (suc i) d h = get_or-tab n (λ k. f (suc k)) i d (omega arith)

module _ {A : Type 0} where
  pub take-tab : (n m : ℕ) (f : ℕ → A) → n ≤ m → take n (tab m f) ≡ tab n f
  take-tab zero m f h = refl
  take-tab (suc n) zero f h = absurd (omega arith)
  take-tab (suc n) (suc m) f h = ap (λ (r : List A). f 0 ∷ r) (take-tab n m (λ k. f (suc k)) (omega arith))

  pub tab-ext : (n : ℕ) (f g : ℕ → A) → ((i : ℕ) → f i ≡ g i) → tab n f ≡ tab n g
  tab-ext zero f g h = refl
  tab-ext (suc n) f g h = ap₂ (λ (x : A) (r : List A). x ∷ r) (h 0) (tab-ext n (λ k. f (suc k)) (λ k. g (suc k)) (λ i. h (suc i)))

-- P of each image
pub all-image : {S U : Type 0} (f : S → U) (P : U → Type 0) (l : List S) → All (λ x. P (f x)) l → All P (map f l)
all-image f P [] a = tt
all-image f P (x ∷ l) a = (a.0, all-image f P l a.1)

pub take_min : {A : Type 0} (n m : ℕ) (xs : List A) → take (min n m) xs ≡ take n (take m xs)
take_min n m xs =
    either-le n m
    (λ l. let e : min n m ≡ n = omega arith in rw e (sym (take-take n m xs l)))
    (λ l. let e : min n m ≡ m = omega arith in rw e (sym (take_all n (take m xs) (simp length-take (omega arith)))))

-- ---- tests

pub every_true : (bs : List Bool) → every bs ≡ true → All (λ b. b ≡ true) bs
every_true [] e = tt
every_true (true ∷ bs) e = (refl, every_true bs e)
every_true (false ∷ bs) e = never (cc)

pub every-all : (bs : List Bool) → All (λ b. b ≡ true) bs → every bs ≡ true
every-all [] a = refl
every-all (b ∷ bs) a = rw a.0 (every-all bs a.1)

pub every_append : (bs cs : List Bool) → every (bs ++ cs) ≡ cond (every bs) (every cs) false
every_append [] cs = refl
every_append (true ∷ bs) cs = every_append bs cs
every_append (false ∷ bs) cs = refl

-- the rest decides, or one that fails
pub every-then : (bs cs : List Bool) → every bs ≡ true → every (bs ++ cs) ≡ every cs
every-then bs cs e = every_append bs cs ∙ rw e

pub every-fails : (k : ℕ) (bs : List Bool) → get_or bs k true ≡ false → every bs ≡ false
every-fails k [] e = contrary refl e
every-fails zero (b ∷ bs) e = rw e
every-fails (suc k) (true ∷ bs) e = every-fails k bs e
every-fails (suc k) (false ∷ bs) e = refl

pub every_one : (b : Bool) → every (b ∷ []) ≡ b
every_one true = refl
every_one false = refl
