-- One page's part in a removal: the entry at a slot leaves a leaf's words, or the last does; and in an upper page the
-- one that was handed up stands for the one that goes.
-- Assumes nothing.
use mathlib.Core.Path.{◌≡◌, refl, sym, ap, subst, ◌∙◌}
use mathlib.Core.List.{List, [], ◌∷◌}
use Prim.Native.Nat.{ℕ, zero, suc, ◌≤◌, ◌<◌}
use native.Mathlib.Omega.{arith}
use lib.Dec.{ltb}
use lib.ListN.{length}
use borrow.Author.Tests.{le-leb, lt-leb, lt-ltb, le-ltb}
use Rattle.std.specs.Prelude.{Option, Some, None, Result}
use Rattle.model.specs.Basics.{final, del}
use Rattle.model.specs.Tree.{no_entry}
use Rattle.model.specs.Page.{count_of, entry_in, entries_of}
use Rattle.model.specs.Remove as removal
use Rattle.page.specs.declared.Entry as lent
use Rattle.page.specs.Node.{less, instead}
use Rattle.page.specs.Page.{holds_at, plain}
use Rattle.lend.specs.Pages.{most, node_in, Becomes, ChangesIn, page_in}
use Rattle.tree.specs.Remove.{TakesOut, Inherits}
use Rattle.model.proofs.Cases.{either, never}
use Rattle.model.proofs.Basics.{final-at}
use Rattle.model.proofs.Gone.{gone_at}
use Rattle.model.proofs.Read.{length-own}
use Rattle.page.proofs.Pages.{holds_at_lem}
use Rattle.lend.proofs.Lent.{own_at, only_none}
use Rattle.page.specs.declared.Unsound.{Unsound}

-- ---- a leaf loses an entry

-- past the end the last goes
gone-past : {A : Type 0} (n g : ℕ) (l : List A) → length l ≡ suc n → suc n ≤ g → removal.gone g l ≡ del n l
gone-past n g [] k b = absurd (omega arith)
gone-past zero g (x ∷ []) k b = refl
gone-past (suc n) g (x ∷ []) k b = absurd (omega arith)
gone-past zero g (x ∷ y ∷ l) k b = absurd (omega arith)
gone-past (suc n) zero (x ∷ y ∷ l) k b = absurd (omega arith)
gone-past {A} (suc n) (suc g) (x ∷ y ∷ l) k b = ap (λ (r : List A). x ∷ r) (gone-past n g (y ∷ l) (omega arith) (omega arith))

module _ (w : List ℕ) (p s : ℕ) where
  pub takes-inside : {w' : List ℕ} {a : Result (Unit {0}) Unsound} → s < count_of (page_in w p)
      → ChangesIn p (holds_at most (page_in w p) s 0) (less s 0 (node_in w p)) w w' a → TakesOut p s w w' None
  takes-inside b c =
      let page = page_in w p in
      let long : length (entries_of most page) ≡ count_of page = length-own most page in
      record {
        only = c.only;
        answer = λ some few. rw (lt-leb (length (entries_of most page)) s (omega arith));
        height = λ some few. (c.holds (holds_at_lem most page s 0 few b (omega arith))).height;
        own = λ some few. (c.holds (holds_at_lem most page s 0 few b (omega arith))).own ∙ sym (gone_at s (entries_of most page) (omega arith));
      }

  -- a page that can't be
  pub takes_none : (1 ≤ count_of (page_in w p) → count_of (page_in w p) ≤ most → ⊥) → TakesOut p s w w None
  takes_none n = record {
    only = only_none (p ∷ []) refl;
    answer = λ some few. absurd (n some few);
    height = λ some few. absurd (n some few);
    own = λ some few. absurd (n some few);
  }

  pub takes-last : {w' : List ℕ} {a : Result (Unit {0}) Unsound} (n : ℕ) (x : lent.Entry) → count_of (page_in w p) ≡ suc n → count_of (page_in w p) ≤ s → plain x ≡ entry_in most (page_in w p) n
      → ChangesIn p (holds_at most (page_in w p) n 0) (less n 0 (node_in w p)) w w' a → TakesOut p s w w' (Some x)
  takes-last n x e b known c =
      let page = page_in w p in
      let es = entries_of most page in
      let long : length es ≡ count_of page = length-own most page in
      let last : final no_entry es ≡ plain x = final-at no_entry es n (omega arith) ∙ sym (own_at page n (omega arith)) ∙ sym known in
      record {
        only = c.only;
        answer = λ some few. rw (le-leb (length es) s (omega arith), last);
        height = λ some few. (c.holds (holds_at_lem most page n 0 few (omega arith) (omega arith))).height;
        own = λ some few. (c.holds (holds_at_lem most page n 0 few (omega arith) (omega arith))).own ∙ sym (gone-past n s es (omega arith) (omega arith));
      }

-- ---- an upper page's entry gets its heir

module _ (w : List ℕ) (p s : ℕ) {g : Option lent.Entry} where
  pub inherits-none : g ≡ None → Inherits p s g w w None
  inherits-none e = record {
    only = only_none (p ∷ []) refl;
    answer = rw e (either (ltb s (count_of (page_in w p))) (λ y. rw y) (λ n. rw n));
    kept = λ _. refl;
    past = λ _. refl;
    holds = λ x f. never (cc);
  }

  pub inherits-past : (x : lent.Entry) → g ≡ Some x → count_of (page_in w p) ≤ s → Inherits p s g w w (Some x)
  inherits-past x e b = record {
    only = only_none (p ∷ []) refl;
    answer = rw (le-ltb s (count_of (page_in w p)) b) (sym e);
    kept = λ _. refl;
    past = λ _. refl;
    holds = λ x' f l. absurd (omega arith);
  }

  pub inherits-inside : {w' : List ℕ} {a : Result (Unit {0}) Unsound} (x : lent.Entry) → g ≡ Some x → s < count_of (page_in w p)
      → ChangesIn p (holds_at most (page_in w p) s 0) (instead s (plain x) (node_in w p)) w w' a → Inherits p s g w w' None
  inherits-inside {w'} x e b c = record {
    only = c.only;
    answer = rw (lt-ltb s (count_of (page_in w p)) b);
    kept = λ f. never (cc);
    past = λ l. absurd (omega arith);
    holds = λ x' f l few.
        let same : x ≡ x' = cc in
        subst (λ (y : lent.Entry). Becomes p (instead s (plain y) (node_in w p)) w w') same (c.holds (holds_at_lem most (page_in w p) s 0 few b (omega arith)));
  }
