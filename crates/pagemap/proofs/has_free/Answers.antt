-- `pagemap::has_free` meets its contract. The loop's invariant: of the pages passed, so many as counted are free and
-- the others' bits are 1.
use mathlib.Core.Path.{◌≡◌, sym, ap}
use Prim.Native.Nat.{◌*◌, min}
use native.Mathlib.Omega.{arith}
use lib.Dec.{leb}
use borrow.Author.Tests.{le-leb}
use Rattle.model.specs.Sums.{sum_to}
use Rattle.model.specs.PageMap.{bit_at}
use Rattle.model.proofs.PageMap.{free-count}
use Rattle.pagemap.proofs.Map.{bit_at-le, free_part, free-next}
use Rattle.pagemap.proofs.has_free.Goals as goal

pub loop-w-init : goal.loop-w-init
unfolding sum_to
loop-w-init c = let none : min 0 c.args.pages ≡ 0 = omega arith in rw none (omega arith)

pub returns-then-k-free : goal.returns-then-k-free
returns-then-k-free c =
    let map = c.args.map.now in
    let pages = c.args.pages in
    sym (le-leb c.args.k _ (omega (arith, free_part map pages (min (64 * c.loop-w.w) pages) (omega arith))))

pub loop-w-preserved : goal.loop-w-preserved
loop-w-preserved c =
    let i = c.loop-w in
    let args = c.args in
    free-next args.map.now i.w args.pages i.free c.zeros-free.result (omega arith) i.invariant c.zeros-free.ensures

pub returns : goal.returns
returns c =
    let map = c.args.map.now in
    let pages = c.args.pages in
    let all : min (64 * c.loop-w.w) pages ≡ pages = omega arith in
    ap (leb c.args.k) (omega (arith, rw all at c.loop-w.invariant, free-count (bit_at map) pages (bit_at-le map)))
