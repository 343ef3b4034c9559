-- `set::insert` meets its contract: a key that is there stays as it is, another is put in with the value 0.
use mathlib.Core.Path.{◌≡◌, sym, ap, subst}
use mathlib.Core.Bool.{Bool, true, false, not}
use Rattle.model.specs.Refusal.{set_kind}
use Rattle.model.specs.Call.{answered, Meets}
use Rattle.model.specs.SetCalls.{set_insert}
use Rattle.model.proofs.Keeps.{keeps-set-insert}
use Rattle.model.proofs.Meets.{passes-changing}
use Rattle.map.proofs.Answers.{err-same}
use Rattle.map.proofs.Calling.{set-insert-told, insert-refused}
use Rattle.map.proofs.set.insert.Goals as goal

pub add-requires : goal.add-requires
add-requires c = let p = passes-changing set_kind _ (sym c.in_ok-changing.ensures) in (p.0, p.2)

pub returns-in_err-add : goal.returns-in_err-add
returns-in_err-add c = rw (err-same c.from_residual-in_err-add.ensures) (insert-refused set_kind (keeps-set-insert _) c.in_ok-changing.ensures c.add.ensures _ c.in_err-add.was)

other : (b c : Bool) → c ≡ not b → not c ≡ b
other true c e = ap not e
other false c e = ap not e

pub returns : goal.returns
returns c =
    subst (λ (b : Bool). Meets (set_insert c.args.key) c.args.pool.now c.add.new.pool (answered b)) (other _ _ c.is_none.ensures)
    (set-insert-told c.in_ok-changing.ensures c.add.ensures _ c.in_ok-add.was)
