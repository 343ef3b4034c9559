-- Document 01, "A freed page's bit is cleared and the page is taken again by the rule above": the map with one bit set,
-- or cleared. A page past the map's words has no bit to set: nothing changes. And how many bits are 1.
-- Assumes nothing: these are definitions.
use Rattle.std.specs.Prelude.{List, ℕ, ◌-◌, ◌*◌, ◌/◌, ◌%◌, ◌^◌, length, set}
use Rattle.std.specs.Int.Bits.{bit_and, bit_or}
use Rattle.model.specs.Sums.{sum_to}
use Rattle.model.specs.Layout.{word}
use Rattle.model.specs.PageMap.{bit_at}

unfoldable pub set_bit : List ℕ → ℕ → List ℕ
set_bit words p = set words (p / 64) (bit_or (word words (p / 64)) (2 ^ (p % 64)))

unfoldable pub clear_bit : List ℕ → ℕ → List ℕ
clear_bit words p = set words (p / 64) (bit_and (word words (p / 64)) (2 ^ 64 - 1 - 2 ^ (p % 64)))

-- how many bits are 1
unfoldable pub count_bits : List ℕ → ℕ
count_bits words = sum_to (bit_at words) (64 * length words)
