-- What check's walk meets, step by step: entries, and children whose walk is known. A step goes through exactly where
-- what is met can follow what was met before, and steps that go through one after another go through as one.
-- Assumes nothing.
use mathlib.Core.Path.{◌≡◌, refl, sym, ap, subst}
use mathlib.Core.Bool.{true}
use mathlib.Core.List.{List, [], ◌∷◌, ◌++◌, append_assoc}
use Prim.Native.Nat.{ℕ, suc, ◌+◌, ◌≤◌, ◌<◌}
use native.Mathlib.Nat.{add-zero}
use native.Mathlib.Omega.{arith}
use lib.ListN.{length, length-append}
use borrow.Author.Tests.{ltb-true, eqb-true, lt-ltb, le-ltb, eq-eqb, ne_eqb}
use Rattle.model.specs.Basics.{All, final, sum, every}
use Rattle.model.specs.Layout.{pages_in, today}
use Rattle.model.specs.Head.{kind_word}
use Rattle.model.specs.Tree.{Entry, no_entry, weave, Rising}
use Rattle.std.specs.Prelude.{Ok, Err}
use Rattle.tree.specs.Check.{key_rises, value_fits, entry_tests, Said, told, broken, over_entry, in_turn}
use Rattle.model.proofs.Cases.{either, either_lt, either-eq, contrary}
use Rattle.model.proofs.Basics.{all_append, all_left, all_right, all-at, every_true, every-all, final-at, final-append}
use Rattle.model.proofs.Entries.{rising-left, rising-lo, rising-around}

-- the entries met: their number, and the last key
pub record Met (es : List Entry) (n k : ℕ) : Type 0 where
  pub rising : Rising es
  pub count : n ≡ length es
  pub last : k ≡ (final no_entry es).key

-- n pages and the entries xs can follow, `pages` pages and the entries es having been met
pub record Follows (w : List ℕ) (pages : ℕ) (es : List Entry) (n : ℕ) (xs : List Entry) : Type 0 where
  pub few : pages + n ≤ pages_in today (length w)
  pub rising : Rising (es ++ xs)
  pub zeros : kind_word w ≡ 1 → All (λ e. e.value ≡ 0) xs

-- the walk goes through exactly where G holds, and has then met n pages and the entries es
abbrev pub Goes : Type 0 → ℕ → List Entry → Said → Type 0
Goes G n es (Ok t) = G × (t.pages ≡ n) × Met es t.entries t.last
Goes G n es (Err u) = G → ⊥

pub goes_map : (G H : Type 0) (n : ℕ) (es : List Entry) (r : Said) → (G → H) → (H → G) → Goes G n es r → Goes H n es r
goes_map G H n es (Ok t) f g x = (f x.0, x.1, x.2)
goes_map G H n es (Err u) f g x = λ y. x (g y)

pub goes-as : (G : Type 0) (n n' : ℕ) (es es' : List Entry) (r : Said) → n ≡ n' → es ≡ es' → Goes G n es r → Goes G n' es' r
goes-as G n n' es es' r p q x = subst (λ (z : ℕ). Goes G z es' r) p (subst (λ (z : List Entry). Goes G n z r) q x)

-- one step after another
goes_then : (G₁ G₂ G : Type 0) (n₁ n₂ : ℕ) (es₁ es₂ : List Entry) (step : Said → Said) → step broken ≡ broken → (r : Said) → Goes G₁ n₁ es₁ r
    → ((b k : ℕ) → G₁ → Met es₁ b k → Goes G₂ n₂ es₂ (step (told n₁ b k))) → (G → G₁ × G₂) → (G₁ → G₂ → G) → Goes G n₂ es₂ (step r)
goes_then G₁ G₂ G n₁ n₂ es₁ es₂ step stop (Ok t) x after split join =
    goes_map G₂ G n₂ es₂ (step (Ok t)) (join x.0) (λ g. (split g).1)
    (subst (λ (z : ℕ). Goes G₂ n₂ es₂ (step (told z t.entries t.last))) (sym x.1) (after t.entries t.last x.0 x.2))
goes_then G₁ G₂ G n₁ n₂ es₁ es₂ step stop (Err u) x after split join = subst (Goes G n₂ es₂) (sym stop) (λ (g : G). x (split g).0)

-- ---- keys that rise to the last

rising-final : (es : List Entry) (k : ℕ) → Rising es → (0 < length es → (final no_entry es).key < k) → All (λ x. x.key < k) es
rising-final [] k r h = tt
rising-final (x ∷ []) k r h = (h (omega arith), tt)
rising-final (x ∷ y ∷ es) k r h =
    let l : x.key < y.key = r.0.0 in
    let rest : All (λ x. x.key < k) (y ∷ es) = rising-final (y ∷ es) k r.1 (λ b. h (omega arith)) in
    let m : y.key < k = rest.0 in
    (omega arith, rest)

final-of : (P : Entry → Type 0) (es : List Entry) → All P es → 0 < length es → P (final no_entry es)
final-of P [] a h = absurd (omega arith)
final-of P (x ∷ es) a h = rw (final-at no_entry (x ∷ es) (length es) refl) (all-at P (x ∷ es) (length es) no_entry (omega arith) a)

module _ (w : List ℕ) where
  -- ---- what can follow

  follows-split : (a a' m n t : ℕ) (es xs ys : List Entry) → t ≡ m + n → a' ≡ a + m → Follows w a es t (xs ++ ys)
      → Follows w a es m xs × Follows w a' (es ++ xs) n ys
  follows-split a a' m n t es xs ys p q f =
      let few = f.few in (
        record {
          few = omega arith;
          rising = rising-left (es ++ xs) ys (rw append_assoc f.rising);
          zeros = λ s. all_left (λ e. e.value ≡ 0) xs ys (f.zeros s);
        },
        record {
          few = omega arith;
          rising = rw append_assoc f.rising;
          zeros = λ s. all_right (λ e. e.value ≡ 0) xs ys (f.zeros s);
        },
      )

  follows-join : (a a' m n t : ℕ) (es xs ys : List Entry) → t ≡ m + n → a' ≡ a + m → Follows w a es m xs → Follows w a' (es ++ xs) n ys
      → Follows w a es t (xs ++ ys)
  follows-join a a' m n t es xs ys p q f g =
      let few = g.few in
      record {
        few = omega arith;
        rising = rw append_assoc at g.rising;
        zeros = λ s. all_append (λ e. e.value ≡ 0) xs ys (f.zeros s) (g.zeros s);
      }

  pub follows-as : (a a' n n' : ℕ) (es xs xs' : List Entry) → a + n ≡ a' + n' → xs ≡ xs' → Follows w a es n xs → Follows w a' es n' xs'
  follows-as a a' n n' es xs xs' p q f =
      let few = f.few in
      record {
        few = omega arith;
        rising = subst (λ (z : List Entry). Rising (es ++ z)) q f.rising;
        zeros = λ s. subst (λ (z : List Entry). All (λ e. e.value ≡ 0) z) q (f.zeros s);
      }

  -- ---- one entry

  key-rises : (count last key : ℕ) → key_rises count last key ≡ true → 0 < count → last < key
  key-rises count last key e l = ltb-true last key (rw (lt-ltb 0 count l) at e)

  rises-key : (count last key : ℕ) → (0 < count → last < key) → key_rises count last key ≡ true
  rises-key count last key h = either_lt 0 count (λ l. rw (lt-ltb 0 count l) (lt-ltb last key (h l))) (λ l. rw (le-ltb 0 count l))

  value-fits : (v : ℕ) → value_fits w v ≡ true → kind_word w ≡ 1 → v ≡ 0
  value-fits v e s = eqb-true v 0 (rw (eq-eqb (kind_word w) 1 s) at e)

  fits-value : (v : ℕ) → (kind_word w ≡ 1 → v ≡ 0) → value_fits w v ≡ true
  fits-value v h =
      either-eq (kind_word w) 1 (λ s. rw (eq-eqb (kind_word w) 1 s) (eq-eqb v 0 (h s))) (λ n. rw (ne_eqb (kind_word w) 1 n))

  module _ (e : Entry) (a b k : ℕ) (es : List Entry) (l : a ≤ pages_in today (length w)) (m : Met es b k) where
    entry_follows : every (entry_tests w e b k) ≡ true → Follows w a es 0 (e ∷ [])
    entry_follows y =
        let t = every_true (entry_tests w e b k) y in
        let count = m.count in
        let last = m.last in
        record {
          few = omega arith;
          rising =
              rising-around es e [] m.rising
              (rising-final es e.key m.rising (λ h. omega (arith, key-rises b k e.key t.0 (omega arith)))) tt tt;
          zeros = λ s. (value-fits e.value t.1.0 s, tt);
        }

    follows-entry : Follows w a es 0 (e ∷ []) → every (entry_tests w e b k) ≡ true
    follows-entry f =
        let count = m.count in
        let last = m.last in
        every-all (entry_tests w e b k) (
          rises-key b k e.key (λ h. omega (arith, final-of (λ x. x.key < e.key) es (rising-lo es e [] f.rising) (omega arith))),
          (fits-value e.value (λ s. (f.zeros s).0), tt),
        )

    entry-goes : Goes (Follows w a es 0 (e ∷ [])) a (es ++ e ∷ []) (over_entry w e (told a b k))
    unfolding over_entry
    entry-goes =
        let count = m.count in
        either (every (entry_tests w e b k))
        (λ y. rw y (
          entry_follows y,
          refl,
          record {
            rising = (entry_follows y).rising;
            count = simp length-append (omega arith);
            last = ap (λ (x : Entry). x.key) (sym (final-append no_entry es e []));
          },
        ))
        (λ n. rw n (λ f. contrary (follows-entry f) n))

  -- ---- children and entries in turn. `f` says how a child is walked, `inside` what it holds, `size` its pages, `L`
  -- that it stands right

  module _ (f : ℕ → Said → Said) (stop : (c : ℕ) → f c broken ≡ broken) where
    pub turn-stop : (cs : List ℕ) (os : List Entry) → in_turn w f cs os broken ≡ broken
    unfolding in_turn over_entry
    turn-stop [] os = refl
    turn-stop (c ∷ cs) [] = stop c
    turn-stop (c ∷ cs) (e ∷ os) = rw (stop c) (turn-stop cs os)

    module _ (inside : ℕ → List Entry) (size : ℕ → ℕ) (L : ℕ → Type 0) (one : (c a b k : ℕ) (es : List Entry) → a ≤ pages_in today (length w) → Met es b k
        → Goes (L c × Follows w a es (size c) (inside c)) (a + size c) (es ++ inside c) (f c (told a b k))) where
      pub turn-goes : (cs : List ℕ) (os : List Entry) (a b k : ℕ) (es : List Entry) → length cs ≡ suc (length os) → a ≤ pages_in today (length w) → Met es b k
          → Goes (All L cs × Follows w a es (sum size cs) (weave inside cs os)) (a + sum size cs) (es ++ weave inside cs os)
          (in_turn w f cs os (told a b k))
      unfolding in_turn over_entry
      turn-goes [] os a b k es q l m = absurd (omega arith)
      turn-goes (c ∷ []) [] a b k es q l m =
          rw (add-zero (size c))
          (goes_map (L c × Follows w a es (size c) (inside c)) ((L c × Unit {0}) × Follows w a es (size c) (inside c)) (a + size c) (es ++ inside c)
          (f c (told a b k)) (λ x. ((x.0, tt), x.1)) (λ x. (x.0.0, x.1)) (one c a b k es l m))
      turn-goes (c ∷ c' ∷ cs) [] a b k es q l m = absurd (omega arith)
      turn-goes (c ∷ cs) (e ∷ os) a b k es q l m =
          let xs = inside c in
          let ys = weave inside cs os in
          let n = sum size cs in
          let a' = a + size c in
          let Child = L c × Follows w a es (size c) xs in
          let One = Follows w a' (es ++ xs) 0 (e ∷ []) in
          let Rest = All L cs × Follows w a' ((es ++ xs) ++ e ∷ []) n ys in
          goes_then Child (One × Rest) (All L (c ∷ cs) × Follows w a es (size c + n) (xs ++ e ∷ ys)) a' (a + (size c + n)) (es ++ xs) (es ++ (xs ++ e ∷ ys))
          (λ r. in_turn w f cs os (over_entry w e r)) (turn-stop cs os)
          (f c (told a b k)) (one c a b k es l m)
          (λ b₁ k₁ g₁ m₁.
          goes_then One Rest (One × Rest) a' (a + (size c + n)) ((es ++ xs) ++ e ∷ []) (es ++ (xs ++ e ∷ ys)) (λ r. in_turn w f cs os r) (turn-stop cs os)
          (over_entry w e (told a' b₁ k₁)) (entry-goes e a' b₁ k₁ (es ++ xs) g₁.1.few m₁)
          (λ b₂ k₂ g₂ m₂.
          goes-as Rest (a' + n) (a + (size c + n)) (((es ++ xs) ++ e ∷ []) ++ ys) (es ++ (xs ++ e ∷ ys)) (in_turn w f cs os (told a' b₂ k₂))
          (omega arith) (simp append_assoc) (turn-goes cs os a' b₂ k₂ ((es ++ xs) ++ e ∷ []) (omega arith) g₁.1.few m₂))
          (λ g. g) (λ x y. (x, y)))
          (λ g.
          let s = follows-split a a' (size c) n (size c + n) es xs (e ∷ ys) refl refl g.1 in
          let t = follows-split a' a' 0 n n (es ++ xs) (e ∷ []) ys (omega arith) (omega arith) s.1 in
          ((g.0.0, s.0), (t.0, (g.0.1, t.1))))
          (λ x y. (
            (x.0, y.1.0),
            follows-join a a' (size c) n (size c + n) es xs (e ∷ ys) refl refl x.1
                (follows-join a' a' 0 n n (es ++ xs) (e ∷ []) ys (omega arith) (omega arith) y.0 y.1.1),
          ))
