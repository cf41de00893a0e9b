-- Which class a size is of, looked up in a table over multiples of the grain. Assumes nothing: these are definitions and a statement.
--     class_number cs x      which class is the least that has x bytes, counted from 0; how many classes there are where none has
--     row n                  the row of the table for a piece of n bytes: how many grains it and its mark fill
--     LookupRight            the class that the row tells is the class of the size
use Rattle.std.specs.Prelude.{◌≡◌, ℕ, ◌+◌, ◌-◌, ◌*◌, ◌/◌, true, List, nat_lt, slice_index}
use Rattle.std.specs.List.{prefix_len}
use Rattle.grounds.specs.Numbers.{grain, mark_length}
use Rattle.grounds.specs.Blocks.{class_of}
use Rattle.grounds.specs.Worlds.{rising}

abbrev pub class_number : List ℕ → ℕ → ℕ
class_number cs x = prefix_len (λ c. nat_lt c x) cs

abbrev pub row : ℕ → ℕ
row n = (n + mark_length + (grain - 1)) / grain

abbrev pub LookupRight : Type 0
LookupRight = (cs : List ℕ) (k n : ℕ) → rising k cs ≡ true → class_of n cs ≡ slice_index cs (class_number cs (grain * row n))
