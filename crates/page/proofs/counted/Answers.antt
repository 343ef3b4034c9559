-- `page::counted` meets its contract: its two tests.
use mathlib.Core.Path.{◌≡◌}
use mathlib.Core.Logic.{◌⊎◌, inl, inr, ◌≢◌}
use mathlib.Core.List.{List}
use Prim.Native.Nat.{ℕ, ◌<◌}
use native.Mathlib.Omega.{arith}
use borrow.Author.Tests.{le-leb, lt-leb}
use Rattle.model.specs.Page.{count_of}
use Rattle.page.specs.Page.{refused, count_in}
use Rattle.page.proofs.counted.Goals as goal

-- the first test that fails
uncounted : (most : ℕ) (page : List ℕ) → (count_of page ≡ 0) ⊎ ((count_of page ≢ 0) × (most < count_of page)) → refused ≡ count_in most page
unfolding count_in
uncounted most page (inl z) = simp (lt-leb 1 (count_of page) (omega arith))
uncounted most page (inr h) = simp (le-leb 1 (count_of page) (omega arith), lt-leb (count_of page) most h.1)

pub returns-then-n-eq0 : goal.returns-then-n-eq0
returns-then-n-eq0 c = uncounted _ _ c.then-n-eq0.either

pub returns : goal.returns
unfolding count_in
returns c =
    let n = count_of c.args.page.now in
    simp (le-leb 1 n (omega arith), le-leb n c.args.most (omega arith))
