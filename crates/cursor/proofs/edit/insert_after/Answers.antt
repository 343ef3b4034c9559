-- `edit::insert_after` meets the call's promise: the gap's path takes the entry in, where its key fits.
use mathlib.Core.Path.{sym, ◌∙◌}
use Rattle.map.proofs.Answers.{err-same}
use Rattle.cursor.proofs.Edits.{put-misplaced, put-done, put_full}
use Rattle.cursor.proofs.edit.insert_after.Goals as goal

pub returns-then-not-fits : goal.returns-then-not-fits
returns-then-not-fits c = put-misplaced _ _ c.in_ok-ready.ensures c.in_ok-next.ensures (sym c.fits.ensures ∙ c.if-not-fits.true)

pub returns : goal.returns
returns c = put-done _ _ c.in_ok-ready.ensures c.in_ok-next.ensures (sym c.fits.ensures ∙ c.if-not-fits.false) c.insert.ensures c.in_ok-insert.was

pub returns-in_err-insert : goal.returns-in_err-insert
returns-in_err-insert c =
    rw (err-same c.from_residual-in_err-insert.ensures)
    (put_full _ _ c.in_ok-ready.ensures c.in_ok-next.ensures (sym c.fits.ensures ∙ c.if-not-fits.false) c.insert.ensures c.in_err-insert.was)
