-- Where a key belongs in a page: the place in the run of key words is the gap in the page's entries. One law for each
-- answer of `find`.
-- Assumes nothing.
use mathlib.Core.Path.{◌≡◌, refl, sym, ap, ◌∙◌}
use mathlib.Core.Bool.{Bool, true, false, cond, ◌&&◌}
use mathlib.Core.List.{List}
use Prim.Native.Nat.{ℕ, zero, suc, ◌+◌, ◌-◌, ◌≤◌}
use native.Mathlib.Omega.{arith}
use lib.Dec.{ltb, eqb}
use lib.ListN.{get_or, take, drop}
use lib.Seq.{take-take}
use borrow.Author.Tests.{leb-true, lt-ltb, le-ltb, le-leb}
use Rattle.model.specs.Basics.{tab, every}
use Rattle.model.specs.Tree.{no_entry}
use Rattle.model.specs.Page.{count_of, entry_in, entries_of}
use Rattle.model.specs.Entries.{gap_of, gap_before}
use Rattle.model.specs.Search.{at}
use Rattle.std.specs.Prelude.{Result, Ok, Err}
use Rattle.page.specs.declared.Place.TheVariants.{Here, Gap}
use Rattle.page.specs.declared.Unsound.{Unsound}
use Rattle.page.specs.Runs.{part, leading, up_to}
use Rattle.page.specs.Page.{Long, counted, refused, count_in, gap_in, place_of}
use Rattle.model.proofs.Cases.{either, either_lt, never}
use Rattle.model.proofs.Basics.{length-tab, get_or-tab, every_true}
use Rattle.model.proofs.Entries.{gap-le}
use Rattle.model.proofs.Read.{length-own}
use Rattle.page.proofs.Tables.{part-tab}

leading-tab : (before : ℕ → Bool) (n : ℕ) (f g : ℕ → ℕ) → leading before (tab n f) ≡ gap_of before (tab n (λ i. record { key = f i; value = g i }))
unfolding leading gap_of
leading-tab before zero f g = refl
leading-tab before (suc n) f g = ap (λ (r : ℕ). cond (before (f 0)) (suc r) 0) (leading-tab before n (λ i. f (suc i)) (λ i. g (suc i)))

-- an answer is one of the two
pub no_slot : {C : Type 0} {u : Unsound} {i : ℕ} → Err u ≡ Ok i → C
no_slot e = never (cc)

pub one-slot : {i j : ℕ} → ◌≡◌ {A = Result ℕ Unsound} (Ok i) (Ok j) → i ≡ j
one-slot e = cc

-- ---- the count

module _ (most : ℕ) (page : List ℕ) where
  pub count-told : {n : ℕ} → count_in most page ≡ Ok n → (n ≡ count_of page) × (1 ≤ count_of page) × (count_of page ≤ most)
  unfolding count_in
  count-told e =
      either (every (counted most page)) (λ t. let tests = every_true (counted most page) t in (one-slot (sym (rw t at e)), leb-true _ _ tests.0, leb-true _ _ tests.1.0))
      (λ f. no_slot (rw f at e))

  pub gap-refused : {u : Unsound} (before : ℕ → Bool) → count_in most page ≡ Err u → refused ≡ gap_in most page before
  unfolding count_in gap_in
  gap-refused before e = either (every (counted most page)) (λ t. no_slot (sym (rw t at e))) (λ f. rw f refl)

-- ---- the gap

module _ (most : ℕ) (page : List ℕ) (before : ℕ → Bool) {m : ℕ} (long : Long most page) (told : count_in most page ≡ Ok m) where
  keys : leading before (part 2 (count_of page) page) ≡ gap_of before (entries_of most page)
  unfolding entries_of
  keys =
      ap (leading before) (part-tab 2 (count_of page) page 0 (omega (arith, count-told most page told)))
      ∙ leading-tab before (count_of page) (λ i. get_or page (2 + i) 0) (λ i. get_or page (2 + most + i) 0)

  found : {n : ℕ} → n ≡ gap_of before (entries_of most page) → Ok n ≡ gap_in most page before
  unfolding gap_in
  found e = let is = count-told most page told in rw (le-leb 1 (count_of page) is.1, le-leb (count_of page) most is.2, ← e) refl

  -- the sizes of the runs that are lent are 2 + m - 2, as the borrow checker gives it
  pub gap-walked : {n : ℕ} → n ≡ leading before (part 2 (2 + m - 2) page) → Ok n ≡ gap_in most page before
  gap-walked walked = let size : 2 + m - 2 ≡ count_of page = omega (arith, count-told most page told) in found ((rw size at walked) ∙ keys)

  pub gap-scanned : {n : ℕ} → n ≡ leading before (take m (part 2 (2 + most - 2) page)) → Ok n ≡ gap_in most page before
  gap-scanned scanned =
      let is = count-told most page told in
      let size : 2 + most - 2 ≡ most = omega arith in
      found ((rw (size, is.0) at scanned) ∙ ap (leading before) (take-take (count_of page) most (drop 2 page) is.2) ∙ keys)

-- ---- the place of a key, by the gap before it

pub place-lost : {u : Unsound} (most : ℕ) (page : List ℕ) (key : ℕ) → Err u ≡ gap_in most page (up_to key false) → refused ≡ place_of most page key
unfolding gap_in place_of
place-lost most page key e = either (every (counted most page)) (λ t. no_slot (rw t at e)) (λ f. rw f)

module _ (most : ℕ) (page : List ℕ) (key i : ℕ) (e : Ok i ≡ gap_in most page (up_to key false)) where
  -- the count was tested, and the i is the gap's
  held : (every (counted most page) ≡ true) × (i ≡ gap_before key (entries_of most page))
  unfolding gap_in
  held = either (every (counted most page)) (λ t. (t, one-slot (rw t at e))) (λ f. no_slot (sym (rw f at e)))

  pub gap-few : (i ≤ count_of page) × (count_of page ≤ most)
  gap-few =
      let tests = every_true (counted most page) held.0 in
      (omega (arith, held.1, gap-le (λ x. ltb x key) (entries_of most page), length-own most page), leb-true _ _ tests.1.0)

  -- what is tested of the page's words is asked of its entries
  same_at : at key (entries_of most page) i ≡ (ltb i (count_of page) && eqb (get_or page (2 + i) 0) key)
  unfolding entries_of
  same_at =
      rw (length-tab (count_of page) (entry_in most page)) (either_lt i (count_of page)
      (λ h. rw (lt-ltb i (count_of page) h, get_or-tab (count_of page) (entry_in most page) i no_entry h)) (λ h. rw (le-ltb i (count_of page) h)))

  pub place_here : (ltb i (count_of page) && eqb (get_or page (2 + i) 0) key) ≡ true → Ok (Here i) ≡ place_of most page key
  unfolding place_of
  place_here h = rw (held.0, ← held.1, same_at, h)

  pub place-gap : (ltb i (count_of page) && eqb (get_or page (2 + i) 0) key) ≡ false → Ok (Gap i) ≡ place_of most page key
  unfolding place_of
  place-gap h = rw (held.0, ← held.1, same_at, h)

-- what an answer says of the page's count
pub ruleset counts = (count-told, gap-few)
