-- `store` meets its contract on words: the word that is stored says what is kept.
use Rattle.std.proofs.Common.{rules}
use Rattle.std.proofs.lemmas.List.{map-set}
use Rattle.table.specs.Places.{value_in}
use Rattle.table.proofs.values.LentValues.store.Goals as goal

pub returns-then-place-self-clause-has : goal.returns-then-place-self-clause-has
returns-then-place-self-clause-has c = let e = map-set value_in c.args.self.now.words.now c.args.place c.replace.new.dest in search rules
