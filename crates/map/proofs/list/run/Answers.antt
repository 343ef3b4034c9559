-- `list::run` meets its contract: each turn takes one more entry along, and each way out is where the list is whole.
use mathlib.Core.Path.{◌≡◌, sym, ◌∙◌}
use borrow.Author.Rules.{rules}
use Rattle.std.specs.Prelude.{Ok, Some}
use Rattle.model.proofs.Cases.{never}
use Rattle.map.proofs.Listing.{ran-none, ran-more, ran-end, ran-behind, ran-full}
use Rattle.map.proofs.list.run.Goals as goal
use Rattle.map.proofs.list.run.Goals.{In-Ok-Some, in_default-via-in-Ok+in_default, in_default-via-in_default}

-- the entry that the step carries
entry_told : (c : In-Ok-Some) → c.next-step.result ≡ Ok (Some c.in-Ok-Some.e)
entry_told c = search rules

pub loop-i-init : goal.loop-i-init
loop-i-init c = ran-none _ _ _ _ c.requires.path_in

pub returns-in_default : goal.returns-in_default
returns-in_default c =
    ran-end c.loop-i.invariant c.next-step.ensures
    (λ k v q. elim c.in_default.branch [ in_default-via-in-Ok+in_default w ↦ let h = w.in_default in search rules | in_default-via-in_default w ↦ never (cc q) ])
    c.stop.ensures

pub returns-then-not-before : goal.returns-then-not-before
returns-then-not-before c =
    ran-behind c.loop-i.invariant c.next-step.ensures (entry_told (goal.at.returns-then-not-before c).In-Ok-Some) (sym c.before-in-loop-i.ensures ∙ c.if-not-before.true)

pub loop-i-preserved : goal.loop-i-preserved
loop-i-preserved c =
    ran-more c.loop-i.invariant c.next-step.ensures (entry_told (goal.at.loop-i-preserved c).In-Ok-Some) c.loop-i-test.true (sym c.before-in-loop-i.ensures ∙ c.if-not-before.false)
    c.store.ensures c.store-in-loop-i.ensures

pub returns : goal.returns
returns c = ran-full c.loop-i.invariant c.loop-i-test.false
