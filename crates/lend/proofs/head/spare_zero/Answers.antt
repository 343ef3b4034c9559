-- `head::spare_zero` meets its contract. The loop keeps what is left of the test: the ORed words are 0, and so are the
-- words that come.
use mathlib.Core.Path.{◌≡◌, sym, ap, ◌∙◌}
use Prim.Native.Nat.{◌+◌, ◌<◌}
use native.Mathlib.Omega.{arith}
use lib.ListN.{get_or, take, drop, length, length-take, length-drop}
use lib.Seq.{get_or-take, get_or-drop}
use Rattle.model.specs.Layout.{head_words, word}
use Rattle.lend.proofs.Fitting.{spare_left, spare-begins, spare-turn, spare-ends}
use Rattle.lend.proofs.head.spare_zero.Goals as goal
use Rattle.lend.proofs.head.spare_zero.Goals.{Start}

-- how many they are
many : (c : Start) → length (take 23 (drop 9 c.args.pool.now)) ≡ 23
many c = simp (length-take, length-drop) (omega arith)

pub loop-word-init : goal.loop-word-init
loop-word-init c = spare-begins c.args.pool.now

pub loop-word-preserved : goal.loop-word-preserved
loop-word-preserved c =
    let here = c.loop-word in
    let i = here.word-index in
    let w = c.args.pool.now in
    let inside : i < 23 = omega (arith, many (goal.at.loop-word-preserved c).Start, c.loop-word-test.true) in
    let item : get_or (take 23 (drop 9 w)) i 0 ≡ word w (9 + i) = get_or-take 23 (drop 9 w) i 0 inside ∙ get_or-drop 9 w i 0 in
    let next : 9 + (i + 1) ≡ 9 + i + 1 = omega arith in
    rw (item, next) (spare-turn w here.all (9 + i) (omega arith) ∙ here.invariant)

pub returns : goal.returns
returns c =
    let here = c.loop-word in
    let w = c.args.pool.now in
    let e : 9 + here.word-index ≡ head_words = omega (arith, many (goal.at.returns c).Start, here.auto.word-index-end, c.loop-word-test.false) in
    sym (ap (spare_left w here.all) e ∙ spare-ends w here.all) ∙ here.invariant
