-- The neighbours of a child in a tree that sits in the pool have 4 to 9 entries; so what a removal reads along a path
-- is sound.
-- Assumes nothing.
use mathlib.Core.Path.{◌≡◌, refl, sym, ap, ◌∙◌}
use mathlib.Core.Bool.{Bool, true, false}
use mathlib.Core.List.{List, [], ◌∷◌}
use Prim.Native.Nat.{ℕ, zero, suc, ◌≤◌, ◌<◌}
use native.Mathlib.Omega.{arith}
use lib.Dec.{leb}
use lib.ListN.{length, get_or}
use borrow.Author.Tests.{le-leb}
use Rattle.model.specs.Basics.{every}
use Rattle.model.specs.Tree.{Tree, size, Shaped}
use Rattle.model.specs.Gap.{slot_at, rest_at, child, child_at}
use Rattle.model.specs.Path.{gap_pages, gap_slots}
use Rattle.lend.specs.Pages.{least, most}
use Rattle.tree.specs.Sits.{Sits}
use Rattle.tree.specs.Remove.{count_below, Beside, CanRemove}
use Rattle.tree.proofs.Saying.{root-count}
use Rattle.tree.proofs.Sitting.{sits-most, sits-child, sits-below, sits-slot, sits-rest}
use Rattle.tree.proofs.Planning.{count-found}

-- what `neighbour` answers of child j of page u
abbrev pub sound : List ℕ → ℕ → ℕ → Bool
sound w u j = every (leb least (count_below w u j) ∷ leb (count_below w u j) most ∷ [])

pub sits-sound : (w : List ℕ) (low h : ℕ) (t : Tree (suc (suc h))) → Sits w low (suc (suc h)) t → (u j : ℕ) → t.page ≡ u → j ≤ length t.own → sound w u j ≡ true
unfolding Shaped
sits-sound w low h t s u j e b =
    let c : Tree (suc h) = child (suc h) t j in
    let sc : Sits w least (suc h) c = sits-child w low (suc h) t s j b in
    let counted : count_below w t.page j ≡ length c.own =
    count-found w t.page j c.page (sits-below w low (suc h) t s (omega arith) j b) ∙ root-count w h c sc.stands in
    rw (← e, counted, le-leb least (length c.own) sc.shaped.few, le-leb (length c.own) most (sits-most w least h c sc))

-- ---- along a path

-- page p, followed at slot s, is an upper page of a tree that sits in the pool
pub record Upper (w : List ℕ) (p s : ℕ) : Type 0 where
  pub low : ℕ
  pub height : ℕ
  pub tree : Tree (suc (suc height))
  pub sits : Sits w low (suc (suc height)) tree
  pub page : tree.page ≡ p
  pub slot : s ≤ length tree.own

gap-upper : (w : List ℕ) (low h : ℕ) (t : Tree h) (g : ℕ) → Sits w low h t → g ≤ size h t → (j : ℕ) → suc j < length (gap_pages h t g)
    → Upper w (get_or (gap_pages h t g) j 0) (get_or (gap_slots h t g) j 0)
unfolding gap_pages gap_slots
gap-upper w low zero t g s b j l = absurd (omega arith)
gap-upper w low (suc zero) t g s b j l = absurd (omega arith)
gap-upper w low (suc (suc h)) t g s b zero l = record {
  low = low;
  height = h;
  tree = t;
  sits = s;
  page = refl;
  slot = sits-slot w low (suc h) t s g b;
}
gap-upper w low (suc (suc h)) t g s b (suc j) l =
    gap-upper w least (suc h) (child_at (suc h) t g) (rest_at (suc h) t g)
    (sits-child w low (suc h) t s (slot_at (suc h) t g) (sits-slot w low (suc h) t s g b)) (sits-rest w low (suc h) t s g b) j (omega arith)

pub upper-beside : (w : List ℕ) (p s : ℕ) (r : Bool) → Upper w p s → Beside w p s r → r ≡ true
upper-beside w p s r a c = c a.low a.height a.tree a.sits a.page a.slot

module _ (w ps ss : List ℕ) where
  pub can-refuse : (j : ℕ) → suc j < length ps → Beside w (get_or ps j 0) (get_or ss j 0) false → CanRemove w ps ss false
  can-refuse j b c low h t g s fits p =
      let long : suc j < length (gap_pages h t g) = omega (arith, ap length p.pages) in
      let at-page : get_or (gap_pages h t g) j 0 ≡ get_or ps j 0 = ap (λ (l : List ℕ). get_or l j 0) (sym p.pages) in
      let at_slot : get_or (gap_slots h t g) j 0 ≡ get_or ss j 0 = ap (λ (l : List ℕ). get_or l j 0) (sym p.slots) in
      let upper : Upper w (get_or ps j 0) (get_or ss j 0) = rw (at-page, at_slot) at (gap-upper w low h t g s fits j long) in
      upper-beside w (get_or ps j 0) (get_or ss j 0) false upper c
