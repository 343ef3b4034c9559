-- `play::run` meets its contract: each turn takes one more entry along, and each way out is where playback is whole.
use mathlib.Core.Path.{◌≡◌}
use borrow.Author.Rules.{rules}
use Rattle.std.specs.Prelude.{Ok, Some}
use Rattle.model.proofs.Cases.{never}
use Rattle.cursor.proofs.Playing.{played-none, played-more, played-end, played-full}
use Rattle.cursor.proofs.play.run.Goals as goal
use Rattle.cursor.proofs.play.run.Goals.{in_default-via-in-Ok+in_default, in_default-via-in_default}

pub loop-i-init : goal.loop-i-init
loop-i-init c = played-none _ _ c.requires.pool_value c.requires.most_value

pub returns-in_default : goal.returns-in_default
returns-in_default c =
    played-end c.loop-i.invariant c.next-step.result c.next-step.ensures
    (λ e q. elim c.in_default.branch [ in_default-via-in-Ok+in_default w ↦ let h = w.in_default in search rules | in_default-via-in_default w ↦ never (cc q) ])
    c.stop.ensures

pub loop-i-preserved : goal.loop-i-preserved
loop-i-preserved c =
    let got : c.next-step.result ≡ Ok (Some c.in-Ok-Some.e) = search rules in
    played-more c.loop-i.invariant c.next-step.result c.next-step.ensures got c.loop-i-test.true

pub returns : goal.returns
returns c = played-full c.loop-i.invariant c.loop-i-test.false
