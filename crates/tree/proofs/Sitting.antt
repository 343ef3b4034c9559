-- A tree in the pool, page by page: what the words of its root's page say, and that each child sits there too. A sound
-- pool's tree sits in it.
-- Assumes nothing.
use mathlib.Core.Path.{◌≡◌, refl, ap}
use mathlib.Core.List.{List}
use Prim.Native.Nat.{ℕ, zero, suc, ◌≤◌, ◌<◌}
use native.Mathlib.Omega.{arith}
use lib.ListN.{length}
use Rattle.std.specs.Prelude.{Ok}
use Rattle.model.specs.Layout.{pages_in, today}
use Rattle.model.specs.Tree.{Tree, size, Formed, Shaped, meets, no_tree}
use Rattle.model.specs.Page.{height_of, entries_of}
use Rattle.model.specs.Standing.{page_number}
use Rattle.model.specs.Gap.{slot_at, rest_at, child, child_at}
use Rattle.model.specs.Path.{gap_pages, gap_slots}
use Rattle.model.specs.Pool.{pool_of}
use Rattle.model.specs.Sound.{Sound}
use Rattle.model.specs.Head.{geometry_of}
use Rattle.lend.specs.Pages.{least, most, Inside, page_in}
use Rattle.tree.specs.Sits.{PathIn, PathOf, Sits}
use Rattle.tree.specs.Search.{below_of}
use Rattle.model.proofs.Cases.{either_lt}
use Rattle.model.proofs.Basics.{all-at}
use Rattle.model.proofs.Gap.{way_down, slot-le, times-child}
use Rattle.model.proofs.Right.{sound-right}
use Rattle.model.proofs.Written.{sound-written}
use Rattle.lend.proofs.Lent.{page-inside}
use Rattle.tree.proofs.Saying.{root-met, root-holds, child-stands, child-found}

-- the root's page is one of the pool
pub root-inside : (w : List ℕ) (low h : ℕ) (t : Tree h) → 0 < h → Sits w low h t → page_number h t < pages_in today (length w)
root-inside w low h t l s = s.inside (page_number h t) (root-met h t l)

module _ (w : List ℕ) (low h : ℕ) (t : Tree (suc h)) (s : Sits w low (suc h) t) where
  pub sits-inside : Inside t.page w
  sits-inside = page-inside w t.page (root-inside w low (suc h) t (omega arith) s)

  pub sits-height : height_of (page_in w t.page) ≡ h
  sits-height = (root-holds w h t s.stands).height

  pub sits-own : entries_of most (page_in w t.page) ≡ t.own
  sits-own = (root-holds w h t s.stands).own

  pub sits-some : 1 ≤ length t.own
  unfolding Shaped
  sits-some = omega (arith, s.some, s.shaped.few)

  pub sits-most : length t.own ≤ most
  unfolding Shaped
  sits-most = s.shaped.many

  pub sits-forks : length t.children ≡ suc (length t.own)
  unfolding Shaped
  sits-forks = s.shaped.forks

  pub sits-child : (i : ℕ) → i ≤ length t.own → Sits w least h (child h t i)
  unfolding Shaped
  sits-child i b =
      let forks = sits-forks in
      let here : i < length t.children = omega arith in
      record {
        some = omega arith;
        stands = child-stands w h t s.stands forks i b;
        shaped = all-at (Shaped least least h) t.children i (no_tree h) here s.shaped.below;
        inside = λ q met. s.inside q (omega (arith, times-child q h t i here));
      }

  pub sits-below : 0 < h → (i : ℕ) → i ≤ length t.own → below_of w t.page i ≡ Ok (page_number h (child h t i))
  sits-below l i b = child-found w h t s.stands sits-forks i b l (omega (arith, sits-most)) s.inside

  -- the way of a gap
  pub sits-slot : (g : ℕ) → g ≤ size (suc h) t → slot_at h t g ≤ length t.own
  sits-slot g b = slot-le least low h t g s.shaped b

  pub sits-rest : (g : ℕ) → g ≤ size (suc h) t → rest_at h t g ≤ size h (child_at h t g)
  sits-rest g b = (way_down least low h t g s.shaped b).fits

-- the path of a gap lies inside the pool
pub path_inside : (w : List ℕ) (low h : ℕ) (t : Tree h) (g : ℕ) (ps ss : List ℕ) → Sits w low h t → g ≤ size h t → PathOf h t g ps ss → PathIn w ps ss
unfolding gap_pages gap_slots
path_inside w low zero t g ps ss s b p = rw (p.pages, p.slots) record { even = refl; inside = tt; slots = tt }
path_inside w low (suc h) t g ps ss s b p =
    let below = path_inside w least h (child_at h t g) (rest_at h t g) _ _ (sits-child w low h t s (slot_at h t g) (sits-slot w low h t s g b)) (sits-rest w low h t s g b)
    (record { pages = refl; slots = refl }) in
    rw (p.pages, p.slots) record {
      even = ap suc below.even;
      inside = (sits-inside w low h t s, below.inside);
      slots = (omega (arith, sits-slot w low h t s g b, sits-most w low h t s), below.slots);
    }

-- ---- a sound pool's

pub sound-sits : (w : List ℕ) → Sound w → Sits w 1 (pool_of w).whole.levels (pool_of w).whole.tree
unfolding Formed meets pool_of geometry_of
sound-sits w s =
    let r = sound-right w s in
    record {
      some = omega arith;
      stands = (sound-written w s).stands;
      shaped = r.formed;
      inside = λ q met. either_lt q (pages_in today (length w)) (λ l. l) (λ l. absurd (omega (arith, r.inside q l)));
    }
