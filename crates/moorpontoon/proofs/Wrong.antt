-- Wrong bodies of exported functions are refused: three for the promise that all thirty have.
-- Assumes nothing.
use mathlib.Core.Path.{◌≡◌}
use mathlib.Core.Logic.{◌≢◌}
use mathlib.Core.List.{List}
use Prim.Native.Nat.{ℕ, ◌<◌}
use lib.ListN.{length}
use Rattle.model.specs.Call.{Outcome, refused, answered}
use Rattle.model.specs.ListCalls.{fronted}
use Rattle.moorpontoon.specs.Exported.{out_words, too_short, Exported}
use Rattle.moorpontoon.proofs.Deciding.{exported-zero, exported-other}

module _ {A : Type 0} {words : A → List ℕ} {promise : Outcome A → Type 0} {kept : Type 0} {before after : List ℕ} where
  -- one that makes the call where `out` is short
  pub short-fails : {n : ℕ} → length before < out_words → n ≢ too_short → Exported words promise kept before after n → ⊥
  short-fails few other e = other (e.short few).0

  -- one that is refused and has written a word of `out`, or a lent one
  pub out-fails : {n : ℕ} → ((m : ℕ) → promise (refused m) → kept) → n ≢ 0 → ((after ≡ before) × kept → ⊥) → Exported words promise kept before after n → ⊥
  out-fails {n} still some wrote e = wrote (exported-other words promise kept before after n still e some)

  -- one that writes other words than those of an answer that the call may give
  pub words-fails : {n : ℕ} → (promise (refused 0) → ⊥) → n ≡ 0 → ((a : A) → promise (answered a) → after ≢ fronted (words a) before)
      → Exported words promise kept before after n → ⊥
  words-fails {n} numbered z other e =
      let t = exported-zero words promise kept before after n numbered e z in
      other t.0 t.1 t.2
