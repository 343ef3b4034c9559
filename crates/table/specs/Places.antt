-- What a table has at a place that is a word: a value, or none where the word is 0.
use Rattle.std.specs.Prelude.{ℕ, nat_eq, if◌then◌else◌, Option, Some, None}

abbrev pub value_in : ℕ → Option ℕ
value_in word = if nat_eq word 0 then None else Some word
