-- `pagemap::is_taken` meets its contract: `(word >> b) % 2` is the definition of the bit, and past the words the bit
-- is 0.
use mathlib.Core.Path.{◌≡◌, refl}
use Prim.Native.Nat.{◌%◌, ◌/◌, ◌≤◌}
use borrow.Author.Rules.{rules}
use lib.ListN.{length, get_or, get_or-eq_default}
use Rattle.model.specs.PageMap.{bit, bit_at}
use Rattle.model.proofs.PageMap.{bit-zero}
use Rattle.pagemap.proofs.is_taken.Goals as goal

pub returns-in-Some : goal.returns-in-Some
unfolding bit_at bit
returns-in-Some c = let here : c.in-Some.word.now ≡ get_or c.args.map.now (c.args.page / 64) 0 = search rules in rw here refl

pub returns-in-None : goal.returns-in-None
unfolding bit_at
returns-in-None c = let past : length c.args.map.now ≤ c.args.page / 64 = search rules in rw (get_or-eq_default c.args.map.now 0 past, bit-zero (c.args.page % 64))
