-- Lengths and the page map, in any lawful geometry; the geometry that a head names; those known to be lawful.
-- Assumes nothing.
use mathlib.Core.Path.{◌≡◌, refl, ap, ◌∙◌}
use mathlib.Core.Bool.{true}
use mathlib.Core.List.{List}
use Prim.Native.Nat.{ℕ, ◌*◌, ◌-◌, ◌/◌, ◌≤◌}
use native.Mathlib.Nat.{mul-div_right}
use native.Mathlib.Omega.{arith}
use lib.ListN.{length, length-take, length-drop}
use borrow.Author.Tests.{leb-true, eqb-true}
use Rattle.model.specs.declared.Geometry.{Geometry}
use Rattle.model.specs.Layout.{today, page_words, most_pages, first_word, pages_in, length_tests, allowed, word}
use Rattle.model.specs.Lawful.{Lawful}
use Rattle.model.specs.Head.{geometry_of}
use Rattle.model.specs.PageMap.{map_at}
use Rattle.model.proofs.Basics.{every_true}

-- a length that is allowed
pub allowed-facts : (γ : Geometry) (n : ℕ) → allowed γ n ≡ true → (1 ≤ pages_in γ n) × (pages_in γ n ≤ most_pages γ) × (n ≡ first_word γ (pages_in γ n))
unfolding allowed
allowed-facts γ n e = let t = every_true (length_tests γ n) e in (leb-true _ _ t.0, leb-true _ _ t.1.0, eqb-true _ _ t.1.1.0)

module _ (γ : Geometry) (law : Lawful γ) where
  -- a length of P pages has P
  pub pages-of : (n P : ℕ) → n ≡ first_word γ P → pages_in γ n ≡ P
  pages-of n P e =
      let behind : n - first_word γ 0 ≡ page_words γ * P = omega arith in
      ap (λ (k : ℕ). k / page_words γ) behind ∙ mul-div_right P (omega (arith, law.roomy))

  -- the map has a bit for each page
  pub map-bits : (w : List ℕ) → first_word γ 0 ≤ length w → pages_in γ (length w) ≤ most_pages γ → pages_in γ (length w) ≤ 64 * length (map_at γ w)
  unfolding map_at
  map-bits w long most = simp (length-take, length-drop) (omega (arith, law.mapped))

-- ---- the geometry that a head names: model's laws know these two things of it, and not that there is one only

pub today-lawful : Lawful today
today-lawful = omega arith

pub geometry-lawful : (w : List ℕ) → Lawful (geometry_of w)
unfolding geometry_of
geometry-lawful w = today-lawful

-- words 0 and 9 tell it
pub geometry-same : (w v : List ℕ) → word w 0 ≡ word v 0 → word w 9 ≡ word v 9 → geometry_of w ≡ geometry_of v
unfolding geometry_of
geometry-same w v form size = refl

-- ---- the geometries ahead: pages of 64 words, 65,536 pages, and both

larger-lawful : Lawful (record { least = 9; words = 64; map = 64; pages = 4096; levels = 5 })
larger-lawful = omega arith

longer-lawful : Lawful (record { least = 4; words = 32; map = 1024; pages = 65536; levels = 8 })
longer-lawful = omega arith

larger-longer-lawful : Lawful (record { least = 9; words = 64; map = 1024; pages = 65536; levels = 6 })
larger-longer-lawful = omega arith
