-- What a call that is exact on any words leaves: the new words where it answers, the old ones where it is refused. And
-- a pool just made, whatever the words were, in any lawful geometry: it is sound and has no entry.
-- Assumes nothing.
use mathlib.Core.Path.{◌≡◌, refl, sym, ap, ◌∙◌}
use mathlib.Core.Bool.{true, not}
use mathlib.Core.List.{List, ◌++◌}
use Prim.Native.Nat.{ℕ, zero, suc, ◌-◌, ◌+◌, ◌%◌, ◌≤◌, ◌<◌}
use native.Mathlib.Omega.{arith}
use lib.Dec.{leb}
use lib.ListN.{length, drop, get_or, length-append, length-drop, get_or-append}
use lib.Seq.{get_or-drop, take_at}
use borrow.Author.Tests.{not-false, leb-false}
use Rattle.model.specs.declared.Geometry.{Geometry}
use Rattle.model.specs.Basics.{zeros}
use Rattle.model.specs.Layout.{head_words, map_words, first_word, pages_in, allowed, word, today}
use Rattle.model.specs.Lawful.{Lawful}
use Rattle.model.specs.Head.{geometry_of, kind_word, headed}
use Rattle.model.specs.PageMap.{bit_at, map_at}
use Rattle.model.specs.Tree.{meets, times, held, entries}
use Rattle.model.specs.Standing.{Standing}
use Rattle.model.specs.Pool.{pool_of}
use Rattle.model.specs.HeadCalls.{made}
use Rattle.model.specs.Sound.{Sound}
use Rattle.model.specs.Written.{Written}
use Rattle.model.specs.Refusal.{Test, refusal}
use Rattle.model.specs.Call.{refused, answered, given, left, Exact}
use Rattle.model.specs.PoolCalls.{make_tests, clear_tests, fresh, Makes, Clears}
use Rattle.model.proofs.Basics.{length-tab}
use Rattle.model.proofs.PageMap.{bit-zero}
use Rattle.model.proofs.Lawful.{allowed-facts, geometry-lawful, geometry-same, today-lawful}
use Rattle.model.proofs.Head.{head-facts, headed-allowed}
use Rattle.model.proofs.Right.{right-made}
use Rattle.model.proofs.Keeps.{passed}
use Rattle.model.proofs.Written.{written-sound, written-pool}
use Rattle.model.proofs.Meets.{given-answered, given-refused}

-- ---- exact on any words

module _ {A : Type 0} {tests : List Test} {answer : A} {w new v : List ℕ} where
  pub exact-answered : {a : A} → Exact tests answer w new v (answered a) → (refusal tests ≡ 0) × (a ≡ answer) × (v ≡ new)
  exact-answered {a} m =
      let g = given-answered (refusal tests) answer a m.exact in
      (g.0, g.1, m.words ∙ ap (λ (n : ℕ). left n w new) g.0)

  pub exact-refused : {n : ℕ} → Exact tests answer w new v (refused n) → (refusal tests ≡ n) × (1 ≤ n) × (v ≡ w)
  exact-refused {n} m =
      let g = given-refused (refusal tests) n answer m.exact in
      (g.0, g.1, m.words ∙ ap (λ (n : ℕ). left n w new) g.0 ∙ old n g.1)
    where
      old : (n : ℕ) → 1 ≤ n → left n w new ≡ w
      old zero some = absurd (omega arith)
      old (suc n) some = refl

  pub exact-done : refusal tests ≡ 0 → v ≡ new → Exact tests answer w new v (answered answer)
  exact-done e laid = record { exact = ap (λ (n : ℕ). given n answer) (sym e); words = laid ∙ ap (λ (n : ℕ). left n w new) (sym e) }

  pub exact-stopped : (n : ℕ) → refusal tests ≡ n → 1 ≤ n → v ≡ w → Exact tests answer w new v (refused n)
  exact-stopped zero e some kept = absurd (omega arith)
  exact-stopped (suc n) e some kept = record {
    exact = ap (λ (n : ℕ). given n answer) (sym e);
    words = kept ∙ ap (λ (n : ℕ). left n w new) (sym e);
  }

-- ---- words that are 0

zeros-long : (n : ℕ) → length (zeros n) ≡ n
zeros-long n = length-tab {A = ℕ} n (λ i. 0)

pub zeros-word : (n i : ℕ) → get_or (zeros n) i 0 ≡ 0
zeros-word zero i = refl
zeros-word (suc n) zero = refl
zeros-word (suc n) (suc i) = zeros-word n i

zeros-bit : (n q : ℕ) → bit_at (zeros n) q ≡ 0
unfolding bit_at
zeros-bit n q = rw zeros-word (bit-zero (q % 64))

-- ---- a pool just made

module _ (γ : Geometry) (kind : ℕ) (w : List ℕ) (sized : allowed γ (length w) ≡ true) where
  abbrev P : ℕ
  P = pages_in γ (length w)

  -- behind the head's first nine words all are 0, up to the pages
  spare-zero : (i : ℕ) → 9 ≤ i → i < head_words → word (fresh γ kind w) i ≡ 0
  unfolding fresh
  spare-zero i l h =
      let e : 9 + (i - 9) ≡ i = omega arith in
      let n : ℕ = head_words - 9 in
      ap (word (fresh γ kind w)) (sym e) ∙ sym (get_or-drop 9 (fresh γ kind w) (i - 9) 0)
      ∙ get_or-append (zeros n) (zeros (map_words γ) ++ drop (first_word γ 0) w) 0 (i - 9) (omega (arith, zeros-long n)) ∙ zeros-word n (i - 9)

  pub fresh-long : length (fresh γ kind w) ≡ length w
  unfolding fresh
  fresh-long = simp (length-append, length-tab, length-drop) (omega (arith, allowed-facts γ (length w) sized))

  fresh-written : geometry_of (fresh γ kind w) ≡ γ → Written (fresh γ kind w) (made γ P kind)
  unfolding fresh map_at meets times held entries Standing
  fresh-written named =
      record {
        geometry = named;
        long = fresh-long ∙ (allowed-facts γ (length w) sized).2;
        head = refl;
        spare = spare-zero;
        bits = λ q. rw (named, take_at (zeros (map_words γ)) (drop (first_word γ 0) w) (map_words γ) (zeros-long (map_words γ))) (zeros-bit (map_words γ) q);
        stands = tt;
      }

  fresh-new : Lawful γ → kind ≤ 1 → geometry_of (fresh γ kind w) ≡ γ → Sound (fresh γ kind w) × (pool_of (fresh γ kind w) ≡ made γ P kind)
  fresh-new law known named =
      let facts = allowed-facts γ (length w) sized in
      let right = right-made γ law P kind facts.0 facts.1 known in
      let written = fresh-written named in
      (written-sound (fresh γ kind w) (made γ P kind) right written, written-pool (fresh γ kind w) (made γ P kind) right written)

-- ---- make and clear leave such a pool

module _ (kind : ℕ) (w : List ℕ) (e : refusal (make_tests kind w) ≡ 0) where
  made-passes : (allowed today (length w) ≡ true) × (kind ≤ 1)
  made-passes =
      let a = passed (not (allowed today (length w))) 1 _ (omega arith) e in
      let b = passed (leb 2 kind) 2 _ (omega arith) a.1 in
      (not-false _ a.0, omega (arith, leb-false 2 kind b.0))

  pub fresh-made : Sound (fresh today kind w) × (pool_of (fresh today kind w) ≡ made today (pages_in today (length w)) kind)
  unfolding geometry_of
  fresh-made = let a = made-passes in fresh-new today kind w a.0 today-lawful a.1 refl

module _ (kind : ℕ) {w v : List ℕ} (m : Makes kind w v (answered tt)) where
  pub makes-new : Sound v × (pool_of v ≡ made today (pages_in today (length w)) kind)
  makes-new = let e = exact-answered m in rw e.2 (fresh-made kind w e.0)

  pub makes-long : length v ≡ length w
  makes-long = let e = exact-answered m in ap length e.2 ∙ fresh-long today kind w (made-passes kind w e.0).0

module _ (w : List ℕ) (e : refusal (clear_tests w) ≡ 0) where
  fits : headed w ≡ true
  fits = not-false _ (passed (not (headed w)) 1 _ (omega arith) e).0

  -- the head names the geometry that it named
  named : geometry_of (fresh (geometry_of w) (kind_word w) w) ≡ geometry_of w
  unfolding fresh
  named =
      let facts = head-facts w fits in
      geometry-same (fresh (geometry_of w) (kind_word w) w) w (sym facts.form) (sym (facts.spare 9 (omega arith) (omega arith)))

  pub fresh-cleared : let v = fresh (geometry_of w) (kind_word w) w in
      Sound v × (pool_of v ≡ made (geometry_of w) (pages_in (geometry_of w) (length w)) (kind_word w))
  fresh-cleared = fresh-new (geometry_of w) (kind_word w) w (headed-allowed w fits) (geometry-lawful w) (head-facts w fits).kind named

module _ {w v : List ℕ} (m : Clears w v (answered tt)) where
  pub clears-new : Sound v × (pool_of v ≡ made (geometry_of w) (pages_in (geometry_of w) (length w)) (kind_word w))
  clears-new = let e = exact-answered m in rw e.2 (fresh-cleared w e.0)

  pub clears-long : length v ≡ length w
  clears-long = let e = exact-answered m in ap length e.2 ∙ fresh-long (geometry_of w) (kind_word w) w (headed-allowed w (fits w e.0))
