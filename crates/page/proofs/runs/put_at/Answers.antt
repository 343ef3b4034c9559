-- `page::runs::put_at` meets its contract: one store behind the run.
use Rattle.page.proofs.Parts.{put-behind}
use Rattle.page.proofs.runs.put_at.Goals as goal

pub returns : goal.returns
returns c =
    let a = c.args in
    put-behind a.base a.n a.s.now a.v c.requires
