-- `pages::wider_entry` meets its contract: what `page::wider_entry` says of the page, said of the pool.
use Rattle.lend.proofs.pages.wider_entry.Goals as goal

pub returns : goal.returns
returns c = rw c.page_at.ensures.result_value at c.wider_entry.ensures
