-- `pages::wider_child` meets its contract: what `page::wider_child` says of the page, said of the pool.
use native.Mathlib.Numerals.{add-one}
use Rattle.lend.proofs.pages.wider_child.Goals as goal

pub returns : goal.returns
returns c = rw (c.page_at.ensures.result_value, add-one) at c.wider_child.ensures
