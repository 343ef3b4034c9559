-- A full page with one entry more: what stands at each place of it, and what is left when its first n entries are kept.
-- Assumes nothing.
use mathlib.Core.Path.{◌≡◌, sym, ap, ap₂, ◌∙◌}
use mathlib.Core.Logic.{◌≢◌}
use mathlib.Core.List.{List, ◌∷◌}
use Prim.Native.Nat.{ℕ, suc, ◌+◌, ◌*◌, ◌-◌, ◌≤◌, ◌<◌}
use native.Mathlib.Omega.{arith}
use lib.ListN.{length, take, drop, get_or, set}
use lib.Seq.{length-take-le, take-append-le, take-take, get_or-set_same, get_or-set_other}
use Rattle.model.specs.Basics.{ins, tab}
use Rattle.model.specs.Tree.{Entry, entry}
use Rattle.model.specs.Page.{count_of, height_of, entry_in, child_in, entries_of, children_of}
use Rattle.model.specs.Standing.{Holds}
use Rattle.model.specs.Insert.{cut_left}
use Rattle.page.specs.Node.{wider}
use Rattle.page.specs.Page.{Long, said, firsts}
use Rattle.model.proofs.Basics.{length-tab, get_or-tab, tab-ext, ins-before, take-tab, ins-here, ins-after}
use Rattle.page.proofs.Running.{take-ins}

module _ {A : Type 0} where
  -- the same for a table, as the page's functions read it
  module _ (n : ℕ) (f : ℕ → A) (g : ℕ) (x : A) (d : A) (inside : g ≤ n) where
    long : g ≤ length (tab n f)
    long = omega (arith, length-tab n f)

    pub wider-before : (i : ℕ) → i < g → get_or (ins g x (tab n f)) i d ≡ f i
    wider-before i h = ins-before g x (tab n f) i d h long ∙ get_or-tab n f i d (omega arith)

    pub wider-here : (i : ℕ) → i ≡ g → get_or (ins g x (tab n f)) i d ≡ x
    wider-here i e = rw e (ins-here g x (tab n f) d long)

    pub wider-after : (i : ℕ) → g < i → i ≤ n → get_or (ins g x (tab n f)) i d ≡ f (i - 1)
    wider-after i h b =
        let step : suc (i - 1) ≡ i = omega arith in
        ap (λ (j : ℕ). get_or (ins g x (tab n f)) j d) (sym step) ∙ ins-after g x (tab n f) (i - 1) d (omega arith) long
        ∙ get_or-tab n f (i - 1) d (omega arith)

  -- ---- the first of a table with one more

  -- the one more is among them
  first-among : (k n m : ℕ) (f : ℕ → A) (g : ℕ) (x : A) → suc k ≡ n → g ≤ k → k ≤ m → ins g x (tab k f) ≡ take n (ins g x (tab m f))
  first-among k n m f g x e h b = rw (← e) (sym (take-ins k (tab m f) g x h ∙ ap (ins g x) (take-tab k m f b)))

  -- the one more stands after them
  first_below : (n m : ℕ) (f : ℕ → A) (g : ℕ) (x : A) → n ≤ g → g ≤ m → tab n f ≡ take n (ins g x (tab m f))
  first_below n m f g x h b =
      let long : length (take g (tab m f)) ≡ g = length-take-le g (tab m f) (omega (arith, length-tab m f)) in
      sym (take-append-le n (take g (tab m f)) (x ∷ drop g (tab m f)) (omega arith) ∙ take-take n g (tab m f) h ∙ take-tab n m f (omega arith))

-- ---- what a full page keeps

module _ (most n slot : ℕ) (e : Entry) (child : ℕ) (page : List ℕ) (full : count_of page ≡ most) where
  pub cut-among : {page' : List ℕ} → n ≤ most → slot < n → Holds most (height_of page) (wider slot e child (firsts most (n - 1) page)) page'
      → Holds most (height_of page) (cut_left n (wider slot e child (said most page))) page'
  unfolding entries_of children_of
  cut-among few h w =
      let step : suc (n - 1) ≡ n = omega arith in
      record {
        height = w.height;
        own = w.own ∙ first-among (n - 1) n (count_of page) (entry_in most page) slot e step (omega arith) (omega arith);
        children = λ high. w.children high
            ∙ first-among (suc (n - 1)) (suc n) (suc (count_of page)) (child_in most page) (suc slot) child (ap suc step) (omega arith) (omega arith);
      }

  pub cut_below : Long most page → n ≤ slot → slot ≤ most → Holds most (height_of page) (cut_left n (wider slot e child (said most page))) (set page 0 n)
  unfolding entries_of children_of
  cut_below long h b =
      let count : count_of (set page 0 n) ≡ n = get_or-set_same page 0 n 0 (omega arith) in
      let kept : (i : ℕ) → i ≢ 0 → get_or (set page 0 n) i 0 ≡ get_or page i 0 = λ i. get_or-set_other page 0 i n 0 in
      record {
        height = kept 1 (omega arith);
        own = rw count
            (tab-ext n (entry_in most (set page 0 n)) (entry_in most page) (λ i. ap₂ entry (kept (2 + i) (omega arith)) (kept (2 + most + i) (omega arith)))
            ∙ first_below n (count_of page) (entry_in most page) slot e h (omega arith));
        children = λ high. rw count
            (tab-ext (suc n) (child_in most (set page 0 n)) (child_in most page) (λ i. kept (2 + 2 * most + i) (omega arith))
            ∙ first_below (suc n) (suc (count_of page)) (child_in most page) (suc slot) child (omega arith) (omega arith));
      }
