-- The promises of count, is-empty and close, exact on any words, imply what these calls are on a sound pool.
-- Assumes nothing.
use mathlib.Core.Path.{◌≡◌, refl, sym, ap, subst₂, ◌∙◌}
use mathlib.Core.Bool.{Bool}
use mathlib.Core.List.{List, [], ◌∷◌}
use Prim.Native.Nat.{ℕ, suc}
use native.Mathlib.Omega.{arith}
use lib.Dec.{eqb}
use lib.ListN.{length}
use Rattle.model.specs.Pool.{pool_of, held_by}
use Rattle.model.specs.Sound.{Sound}
use Rattle.model.specs.Refusal.{map_kind, unfit, refusal}
use Rattle.model.specs.Call.{Call, Outcome, given, left, Meets, Exact}
use Rattle.model.specs.PoolCalls.{Counts, TellsEmpty}
use Rattle.model.specs.CursorCalls.{Closes}
use Rattle.model.specs.HeadCalls.{pool_count, pool_is_empty, cursor_close}
use Rattle.model.proofs.Cases.{either-zero, contrary}
use Rattle.model.proofs.Head.{head-facts}
use Rattle.model.proofs.Keeps.{Keeps, of-kind, keeps-reads, keeps-close}
use Rattle.model.proofs.Written.{sound-written}
use Rattle.model.proofs.Meets.{Staged, Ends, meets-early, meets-answered}
use Rattle.model.proofs.Cursorless.{cursorless-length, cursorless-written}

exact-meets : {A : Type 0} (c : Call A) {answer : A} {w new v : List ℕ} {r : Outcome A} → Staged c → Keeps c → (refusal (c.early w) ≡ 0 → length new ≡ length w)
    → (Sound w → Ends c w new answer) → Exact (c.early w) answer w new v r → Meets c w v r
exact-meets c {answer} {w} {new} {v} {r} staged keeps long ends m =
    either-zero (refusal (c.early w))
    (λ z. at 0 z (meets-answered staged keeps (sym z) (long z) ends))
    (λ n e. at (suc n) e (meets-early c staged w (suc n) e (omega arith)))
  where
    at : (n : ℕ) → refusal (c.early w) ≡ n → Meets c w (left n w new) (given n answer) → Meets c w v r
    at n e = subst₂ (λ (u : List ℕ) (s : Outcome _). Meets c w u s) (ap (λ (n : ℕ). left n w new) (sym e) ∙ sym m.words) (ap (λ (n : ℕ). given n answer) (sym e) ∙ sym m.exact)

pub counts-meets : {w v : List ℕ} {r : Outcome ℕ} → Counts w v r → Meets pool_count w v r
unfolding pool_of
counts-meets {w} =
    exact-meets pool_count (λ w p. (refl, refl)) (keeps-reads (λ w. unfit w ∷ []) (λ p. length (held_by p))) (λ z. refl)
    (λ s. record { passes = refl; answers = sym s.count; holds = sound-written w s; still = λ z. refl })

pub empty-meets : {w v : List ℕ} {r : Outcome Bool} → TellsEmpty w v r → Meets pool_is_empty w v r
unfolding pool_of
empty-meets {w} =
    exact-meets pool_is_empty (λ w p. (refl, refl)) (keeps-reads (λ w. unfit w ∷ []) (λ p. eqb (length (held_by p)) 0)) (λ z. refl)
    (λ s. record { passes = refl; answers = ap (λ (n : ℕ). eqb n 0) (sym s.count); holds = sound-written w s; still = λ z. refl })

pub closes-meets : {w v : List ℕ} {r : Outcome (Unit {0})} → Closes w v r → Meets cursor_close w v r
closes-meets {w} =
    exact-meets cursor_close (λ w p. (refl, refl)) keeps-close
    (λ z. let fits = (of-kind w map_kind _ z).0 in cursorless-length w (omega (arith, (head-facts w fits).long)))
    (λ s. record { passes = refl; answers = refl; holds = cursorless-written w s; still = λ z. contrary z refl })
