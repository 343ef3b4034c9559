-- Two neighbours below a page, by the words: one entry moved through the page, or the two joined and the right one
-- freed. Where a child is not found nothing changes.
-- Assumes nothing.
use mathlib.Core.Path.{◌≡◌, refl, ap, subst₂, ◌∙◌}
use mathlib.Core.Bool.{Bool, true, false}
use mathlib.Core.List.{List}
use Prim.Native.Nat.{ℕ, suc}
use Rattle.std.specs.Prelude.{Ok, Err, Result}
use Rattle.pagemap.specs.Bits.{clear_bit}
use Rattle.page.specs.Page.{did, refused}
use Rattle.lend.specs.Pages.{MovesIn, can_join, JoinsIn, map_in}
use Rattle.lend.specs.Touches.{MapBecomes}
use Rattle.tree.specs.Search.{unsound, below_of}
use Rattle.tree.specs.Remove.{MovesBelow, Joined, JoinsBelow}
use Rattle.model.proofs.Cases.{contrary, never}
use Rattle.lend.proofs.Touching.{touches-then, only-touches, only-map}
use Rattle.tree.proofs.Searching.{no-page, one-page}
use Rattle.page.specs.declared.Unsound.{Unsound}

module _ (u j : ℕ) (n : ℕ → ℕ) (ok : ℕ → ℕ → Bool) (w : List ℕ) where
  pub moves-no-left : below_of w u j ≡ Err unsound → MovesBelow u j n ok w w
  moves-no-left lost = record { long = refl; front = refl; moves = λ l r el er can. no-page lost el }

  pub moves-no-right : below_of w u (suc j) ≡ Err unsound → MovesBelow u j n ok w w
  moves-no-right lost = record { long = refl; front = refl; moves = λ l r el er can. no-page lost er }

  pub moves-found : {w' : List ℕ} {a : Result (Unit {0}) Unsound} (l r : ℕ) → below_of w u j ≡ Ok l → below_of w u (suc j) ≡ Ok r
      → MovesIn u j l r (n l) (ok l r) w w' a → MovesBelow u j n ok w w'
  moves-found {w'} {a} l r el er c = record {
    long = c.only.long;
    front = c.only.front;
    moves = λ l' r' el' er' can.
        let can' : ok l r ≡ true = subst₂ (λ (x y : ℕ). ok x y ≡ true) (one-page el' el) (one-page er' er) can in
        let done : MovesIn u j l r (n l) true w w' (did true) = record {
          answer = refl;
          kept = λ fails. contrary refl fails;
          above = λ _. c.above can';
          left = λ _. c.left can';
          right = λ _. c.right can';
          only = c.only;
        } in
        subst₂ (λ (x y : ℕ). MovesIn u j x y (n x) true w w' (did true)) (one-page el el') (one-page er er') done;
  }

module _ (u j : ℕ) (w : List ℕ) where
  pub joins-no-left : below_of w u j ≡ Err unsound → JoinsBelow u j w w
  joins-no-left lost = record { long = refl; head = refl; joins = λ l r el er can. no-page lost el }

  pub joins-no-right : below_of w u (suc j) ≡ Err unsound → JoinsBelow u j w w
  joins-no-right lost = record { long = refl; head = refl; joins = λ l r el er can. no-page lost er }

  module _ (l r : ℕ) (el : below_of w u j ≡ Ok l) (er : below_of w u (suc j) ≡ Ok r) {w₁ : List ℕ} {a : Result (Unit {0}) Unsound}
      (c : JoinsIn u j l r (can_join w u j l r) w w₁ a) where
    pub joins-refused : a ≡ did false → JoinsBelow u j w w₁
    joins-refused refused = record {
      long = c.only.long;
      head = (only-touches c.only).head;
      joins = λ l' r' el' er' can.
          let can' : can_join w u j l r ≡ true = subst₂ (λ (x y : ℕ). can_join w u j x y ≡ true) (one-page el' el) (one-page er' er) can in
          let accepted : a ≡ did true = c.answer ∙ ap did can' in
          never (cc);
    }

    pub joins-freed : {w₂ : List ℕ} → a ≡ did true → MapBecomes (clear_bit (map_in w₁) r) w₁ w₂ → JoinsBelow u j w w₂
    joins-freed {w₂} done m =
        let touches = touches-then (only-touches c.only) m.keeps in
        record {
          long = touches.long;
          head = touches.head;
          joins = λ l' r' el' er' can.
              let can' : can_join w u j l r ≡ true = subst₂ (λ (x y : ℕ). can_join w u j x y ≡ true) (one-page el' el) (one-page er' er) can in
              let all : Joined u j l r w w₂ = record {
                above = rw (m.keeps.others u tt) (c.above can');
                left = rw (m.keeps.others l tt) (c.left can');
                map = m.map ∙ ap (λ (ws : List ℕ). clear_bit ws r) (only-map c.only);
                touches = touches;
              } in
              subst₂ (λ (x y : ℕ). Joined u j x y w w₂) (one-page el el') (one-page er er') all;
        }
