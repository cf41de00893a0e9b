-- Which units of a page are taken, as bits of four words of memory. Assumes nothing: these are definitions.
--     units, unit_words       how many units a page has; how many words their bits take
--     full_word               a word with every bit set
--     unit_at at u            where the word with the bit of the unit u lies, for a page whose words begin at `at`
--     unit_bit m at u         whether the unit u is taken in the memory m
--     taken, released         memory after the unit u is taken; is released
--     with_copy, copied       memory after n words are copied from one place to another; after the four words of a page are
--     first_free m at         the lowest unit that is free, and `units` where all are taken
--     lowest_free, full       the same as an answer; whether all are taken
--     Rest                    what a change of a page's words leaves: the words outside, the length, and that words fit
--     BitsAfter               what the bits of a page's units are after a change
--     AllTaken                that every unit is taken
--     LowestFree, FreeOf      what holds of the lowest unit that is free; the same of an answer
--     FirstOpen               what holds of the first of the four words that has a clear bit, and of 4 where none has one
use Rattle.std.specs.Prelude.{◌≡◌, ℕ, zero, suc, ◌+◌, ◌-◌, ◌/◌, ◌%◌, ◌^◌, ◌<◌, ◌≤◌, Bool, true, false, cond, not, List, length, Some, None, Option, MatchOption, ◌==◌, nat_lt, slice_index, slice_set}
use Rattle.grounds.specs.Lists.{first}
use Rattle.grounds.specs.Numbers.{page, grain}
use Rattle.bits.specs.Bit.{bit, with_bit, without_bit}

abbrev pub units : ℕ
units = page / grain

abbrev pub unit_words : ℕ
unit_words = 4

abbrev pub full_word : ℕ
full_word = 2 ^ 64 - 1

abbrev pub unit_at : ℕ → ℕ → ℕ
unit_at at u = at + u / 64

unfoldable pub unit_bit : List ℕ → ℕ → ℕ → Bool
unit_bit m at u = bit (slice_index m (unit_at at u)) (u % 64)

-- ---- a unit taken and released

unfoldable pub taken : List ℕ → ℕ → ℕ → List ℕ
taken m at u = slice_set m (unit_at at u) (with_bit (slice_index m (unit_at at u)) (u % 64))

unfoldable pub released : List ℕ → ℕ → ℕ → List ℕ
released m at u = slice_set m (unit_at at u) (without_bit (slice_index m (unit_at at u)) (u % 64))

-- ---- words copied: each is read from memory as it was

unfoldable pub with_copy : List ℕ → ℕ → ℕ → ℕ → List ℕ
with_copy m from at zero = m
with_copy m from at (suc n) = slice_set (with_copy m from at n) (at + n) (slice_index m (from + n))

unfoldable pub copied : List ℕ → ℕ → ℕ → List ℕ
copied m from at = with_copy m from at unit_words

-- ---- the lowest that is free

unfoldable pub first_free : List ℕ → ℕ → ℕ
first_free m at = first (λ u. not (unit_bit m at u)) units

unfoldable pub lowest_free : List ℕ → ℕ → Option ℕ
lowest_free m at = cond (nat_lt (first_free m at) units) (Some (first_free m at)) None

unfoldable pub full : List ℕ → ℕ → Bool
full m at = first_free m at == units

-- ---- what the changes leave: m is memory before, and n after

pub record Rest (at : ℕ) (m n : List ℕ) : Type 0 where
  pub outside : (a : ℕ) → (at ≤ a → a < at + unit_words → ⊥) → slice_index n a ≡ slice_index m a
  pub long : length n ≡ length m
  pub fits : ((a : ℕ) → slice_index m a < 2 ^ 64) → (a : ℕ) → slice_index n a < 2 ^ 64

-- the bits of the page's units are `bit` after the change, where memory has them
abbrev pub BitsAfter : ℕ → (ℕ → Bool) → List ℕ → List ℕ → Type 0
BitsAfter at bit m n = at + unit_words ≤ length m → (v : ℕ) → v < units → unit_bit n at v ≡ bit v

-- ---- what the answers tell

abbrev pub AllTaken : List ℕ → ℕ → Type 0
AllTaken m at = (v : ℕ) → v < units → unit_bit m at v ≡ true

pub record LowestFree (m : List ℕ) (at u : ℕ) : Type 0 where
  pub within : u < units
  pub here : unit_bit m at u ≡ false
  pub below : (v : ℕ) → v < u → unit_bit m at v ≡ true

abbrev pub FreeOf : List ℕ → ℕ → Option ℕ → Type 0
FreeOf m at r = MatchOption r (AllTaken m at) (LowestFree m at)

pub record FirstOpen (m : List ℕ) (at i : ℕ) : Type 0 where
  pub within : i ≤ unit_words
  pub before : (j : ℕ) → j < i → slice_index m (at + j) ≡ full_word
  pub here : i < unit_words → slice_index m (at + i) < full_word
