-- The law of a part that was lent and came back, once, over its start and its size: what stands before it and after it
-- is as it was, and it holds what was put there. A store at one place is the case of size 1.
-- Assumes nothing.
use mathlib.Core.Path.{◌≡◌, refl, sym, ap, ap₂, ◌∙◌}
use mathlib.Core.List.{List, [], ◌∷◌, ◌++◌, append_assoc}
use Prim.Native.Nat.{ℕ, zero, suc, ◌+◌, ◌-◌, ◌≤◌, ◌<◌}
use native.Mathlib.Nat.{add_assoc}
use native.Mathlib.Numerals.{add-one}
use native.Mathlib.Omega.{arith}
use lib.ListN.{length, take, drop, get_or, set, take-append-drop, length-append, length-take, length-drop, drop_of_length-le}
use lib.Seq.{take-take, take_all, drop-drop, take_at, drop_at, length-take-le, get_or-take, get_or-drop, set_split, take-add, drop-set-add, take-set-lt}
use Rattle.model.specs.Basics.{ins}
use Rattle.page.specs.Runs.{part, with_run, Changed}

module _ {A : Type 0} where
  pub length_part : (a n : ℕ) (xs : List A) → a + n ≤ length xs → length (part a n xs) ≡ n
  length_part a n xs h = simp (length-take, length-drop) (omega arith)

  part-take : (b m a : ℕ) (xs : List A) → b + m ≤ a → part b m (take a xs) ≡ part b m xs
  part-take zero m a xs h = take-take m a xs (omega arith)
  part-take (suc b) m zero xs h = absurd (omega arith)
  part-take (suc b) m (suc a) [] h = refl
  part-take (suc b) m (suc a) (x ∷ xs) h = part-take b m a xs (omega arith)

  pub part_at : (a n : ℕ) (xs : List A) (i : ℕ) (d : A) → i < n → get_or (part a n xs) i d ≡ get_or xs (a + i) d
  part_at a n xs i d h = get_or-take n (drop a xs) i d h ∙ get_or-drop a xs i d

  same_drop : (e b : ℕ) (xs ys : List A) → drop e xs ≡ drop e ys → e ≤ b → drop b xs ≡ drop b ys
  same_drop e b xs ys p h =
      let s : b ≡ e + (b - e) = omega arith in
      rw s (sym (drop-drop (b - e) e xs) ∙ ap (drop (b - e)) p ∙ drop-drop (b - e) e ys)

  -- ---- the size that the borrow checker gives, `e - a`, is n, and the part holds what the callee says

  pub lent : (a : ℕ) (xs : List A) {n k : ℕ} {ys zs : List A} → k ≡ n → ys ≡ zs → with_run a k ys xs ≡ with_run a n zs xs
  lent a xs p q = ap₂ (λ (i : ℕ) (l : List A). with_run a i l xs) p q

  -- all but the last of a part
  pub front : (a n k : ℕ) (xs : List A) → k ≡ suc n → a + k ≤ length xs → take (length (part a k xs) - 1) (part a k xs) ≡ part a n xs
  front a n k xs e h =
      let l : length (part a k xs) - 1 ≡ n = omega (arith, length_part a k xs h) in
      rw l (take-take n k (drop a xs) (omega arith))

  -- a part whose last words are as they were is a shorter part
  pub shorter : (a m n : ℕ) (ys xs : List A) → m ≤ n → with_run a n (ys ++ drop m (part a n xs)) xs ≡ with_run a m ys xs
  shorter a m n ys xs h = ap (λ (r : List A). take a xs ++ r) (append_assoc ys _ _ ∙ ap (λ (r : List A). ys ++ r) (go m n (drop a xs) h))
    where
      go : (m n : ℕ) (l : List A) → m ≤ n → drop m (take n l) ++ drop n l ≡ drop m l
      go zero n l h = take-append-drop n l
      go (suc m) zero l h = absurd (omega arith)
      go (suc m) (suc n) [] h = refl
      go (suc m) (suc n) (x ∷ l) h = go m n l (omega arith)

  -- ---- what a part that came back leaves

  pub changed : {a n : ℕ} {ys xs xs' : List A} → xs' ≡ with_run a n ys xs → length ys ≡ n → a + n ≤ length xs → Changed a n ys xs xs'
  changed {a} {n} {ys} {xs} {xs'} e l h =
      let rest : List A = drop n (drop a xs) in
      let la : length (take a xs) ≡ a = length-take-le a xs (omega arith) in
      let after : drop a xs' ≡ ys ++ rest = ap (drop a) e ∙ drop_at (take a xs) (ys ++ rest) a la in
      record {
        low = ap (take a) e ∙ take_at (take a xs) (ys ++ rest) a la;
        here = ap (take n) after ∙ take_at ys rest n l;
        high = sym (drop-drop n a xs') ∙ ap (drop n) after ∙ drop_at ys rest n l ∙ drop-drop n a xs;
        long = ap length e ∙ simp (length-append, length-take, length-drop) (omega arith);
      }

  pub stored : {i : ℕ} {v : A} {xs xs' : List A} → xs' ≡ set xs i v → i < length xs → Changed i 1 (v ∷ []) xs xs'
  stored {i} {v} {xs} {xs'} e h = changed (e ∙ set_split xs i v h ∙ ap (λ (r : List A). take i xs ++ v ∷ r) (ap (λ (k : ℕ). drop k xs) (sym (add-one i)) ∙ sym (drop-drop 1 i xs))) refl (omega arith)

  -- the same part changed again, and no less of it
  pub grown : {a n m : ℕ} {zs ys xs xs₁ xs₂ : List A} → n ≤ m → Changed a n zs xs xs₁ → Changed a m ys xs₁ xs₂ → Changed a m ys xs xs₂
  grown {a} {n} {m} {zs} {ys} {xs} {xs₁} {xs₂} h c d =
      record { low = d.low ∙ c.low; here = d.here; high = d.high ∙ same_drop (a + n) (a + m) xs₁ xs c.high (omega arith); long = d.long ∙ c.long }

  module _ {a n : ℕ} {ys xs xs' : List A} (c : Changed a n ys xs xs') where
    pub part-here : (m : ℕ) → m ≤ n → part a m xs' ≡ take m ys
    part-here m h = sym (take-take m n (drop a xs') h) ∙ ap (take m) c.here

    pub part_low : (b m : ℕ) → b + m ≤ a → part b m xs' ≡ part b m xs
    part_low b m h = sym (part-take b m a xs' h) ∙ ap (part b m) c.low ∙ part-take b m a xs h

    pub part-high : (b m : ℕ) → a + n ≤ b → part b m xs' ≡ part b m xs
    part-high b m h = ap (take m) (same_drop (a + n) b xs' xs c.high h)

    pub at_low : (i : ℕ) (d : A) → i < a → get_or xs' i d ≡ get_or xs i d
    at_low i d h = sym (get_or-take a xs' i d h) ∙ ap (λ (l : List A). get_or l i d) c.low ∙ get_or-take a xs i d h

    pub at_high : (i : ℕ) (d : A) → a + n ≤ i → get_or xs' i d ≡ get_or xs i d
    at_high i d h =
        let z : i + 0 ≡ i = omega arith in
        sym (get_or-drop i xs' 0 d ∙ ap (λ (k : ℕ). get_or xs' k d) z) ∙ ap (λ (l : List A). get_or l 0 d) (same_drop (a + n) i xs' xs c.high h)
        ∙ get_or-drop i xs 0 d ∙ ap (λ (k : ℕ). get_or xs k d) z

  -- a change that starts further up, as one that starts at a: what stands between is as it was
  pub from-lower : (a i : ℕ) {n : ℕ} {ys xs xs' : List A} → Changed (a + i) n ys xs xs' → Changed a (i + n) (part a i xs ++ ys) xs xs'
  from-lower a i {n} {ys} {xs} {xs'} c = record {
    low = sym (take-take a (a + i) xs' (omega arith)) ∙ ap (take a) c.low ∙ take-take a (a + i) xs (omega arith);
    here = take-add i n (drop a xs') ∙ ap₂ ◌++◌ (part_low c a i (omega arith)) (ap (take n) (drop-drop i a xs') ∙ c.here);
    high = ap (λ (k : ℕ). drop k xs') (sym (add_assoc a i n)) ∙ c.high ∙ ap (λ (k : ℕ). drop k xs) (add_assoc a i n);
    long = c.long;
  }

  -- two changes, the second where the first ended, as one
  pub then_next : (a n : ℕ) {m : ℕ} {ys zs xs xs₁ xs₂ : List A} → Changed a n ys xs xs₁ → Changed (a + n) m zs xs₁ xs₂ → Changed a (n + m) (ys ++ zs) xs xs₂
  then_next a n {m} {ys} {zs} c d = rw c.here at (grown (omega arith) c (from-lower a n d))

  -- a store behind a part: the part has one more
  pub put-behind : (a n : ℕ) (xs : List A) (v : A) → a + n < length xs → Changed a (suc n) (ins n v (part a n xs)) xs (set xs (a + n) v)
  put-behind a n xs v h =
      let l : length (part a n xs) ≡ n = length_part a n xs (omega arith) in
      let one : n + 1 ≡ suc n = add-one n in
      let made : part a n xs ++ v ∷ [] ≡ ins n v (part a n xs) = sym (ap₂ (λ (f r : List A). f ++ v ∷ r) (take_all n (part a n xs) (omega arith)) (drop_of_length-le (part a n xs) {i = n} (omega arith))) in
      rw (one, made) at (from-lower a n (stored {v = v} {xs = xs} refl h))

  -- a store in a part
  pub part-set : (a n : ℕ) (xs : List A) (i : ℕ) (v : A) → i < n → part a n (set xs (a + i) v) ≡ set (part a n xs) i v
  part-set a n xs i v h = ap (take n) (drop-set-add a xs i v) ∙ take-set-lt n (drop a xs) i v h
