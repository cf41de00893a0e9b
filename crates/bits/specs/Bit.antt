-- Bits of a word. Assumes nothing: these are definitions.
--     word_bits            how many bits a word has
--     bit w k              whether the bit k of w is 1, counted from the lowest, which is 0
--     with_bit w k, without_bit w k      w with its bit k set; cleared
--     lowest_bit w         the lowest bit of w that is 1
use Rattle.std.specs.Prelude.{ℕ, ◌-◌, ◌/◌, ◌%◌, ◌^◌, Bool, ◌==◌, bit_and, bit_or}
use Rattle.std.specs.Int.Count.{count_trailing_zeros}

abbrev pub word_bits : ℕ
word_bits = 64

unfoldable pub bit : ℕ → ℕ → Bool
bit w k = w / 2 ^ k % 2 == 1

unfoldable pub with_bit : ℕ → ℕ → ℕ
with_bit w k = bit_or w (2 ^ k)

unfoldable pub without_bit : ℕ → ℕ → ℕ
without_bit w k = bit_and w (2 ^ word_bits - 1 - 2 ^ k)

unfoldable pub lowest_bit : ℕ → ℕ
lowest_bit w = count_trailing_zeros word_bits w
