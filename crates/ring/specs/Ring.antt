-- A queue of numbers in memory, the newest first, in slots that are used as a ring. Assumes nothing: these are definitions.
--     newest_of, count_of r m     the two header words: the slot of the newest, and how many numbers there are
--     wrap c at                   the slot that is `at` places from the first of c, which comes again after the last
--     before c slot               the slot before another, and the last before the first
--     free_slot r m               the slot before the newest, which the next number goes to
--     place r n i                 where the number lies that is i places behind the newest, which is in the slot n
--     held r m                    the numbers, the newest first
--     with_newest r m slot v k    memory with v in that slot, which is the newest of k numbers
--     pushed r m v                memory after v is put in as the newest: as it was, where no slot is free or the newest lies in none
--     filled r m                  whether there is a number, and the header words are such as a ring has
--     popped, oldest r m          memory after the oldest has left, and that number
--     Apart r                     that no slot is a header word
--     Sound r m                   what holds of memory that keeps a queue
--     Pushed, Popped              what a number put in and a number that leaves change, and what they leave
--     Left                        the same of an answer: there is none and nothing changes, or the oldest leaves
--     Cleared                     what holds of memory in which both header words are 0
--     Elsewhere                   what holds of memory in which no word of the queue has changed
use Rattle.std.specs.Prelude.{◌≡◌, ℕ, ◌+◌, ◌-◌, ◌^◌, ◌<◌, ◌≤◌, Bool, cond, ◌&&◌, List, [], ◌∷◌, ◌++◌, map, length, Some, None, Option, MatchOption, ◌==◌, ◌≢◌, nat_le, nat_lt, slice_index, slice_set}
use Rattle.std.specs.List.{range_with_len}
use Rattle.ring.specs.declared.Ring.{Ring}

-- ---- where the numbers lie

abbrev pub newest_of : Ring → List ℕ → ℕ
newest_of r m = slice_index m r.header

abbrev pub count_of : Ring → List ℕ → ℕ
count_of r m = slice_index m (r.header + 1)

unfoldable pub wrap : ℕ → ℕ → ℕ
wrap c at = cond (nat_lt at c) at (at - c)

unfoldable pub before : ℕ → ℕ → ℕ
before c slot = cond (slot == 0) (c - 1) (slot - 1)

abbrev pub free_slot : Ring → List ℕ → ℕ
free_slot r m = before r.«cap» (newest_of r m)

abbrev pub place : Ring → ℕ → ℕ → ℕ
place r n i = r.slots + wrap r.«cap» (n + i)

unfoldable pub held : Ring → List ℕ → List ℕ
held r m = map (λ i. slice_index m (place r (newest_of r m) i)) (range_with_len 0 (count_of r m))

-- ---- a number put in, and one that leaves: what is written is told by memory as it was

abbrev pub with_newest : Ring → List ℕ → ℕ → ℕ → ℕ → List ℕ
with_newest r m slot v k = slice_set (slice_set (slice_set m (r.slots + slot) v) r.header slot) (r.header + 1) k

unfoldable pub pushed : Ring → List ℕ → ℕ → List ℕ
pushed r m v =
    cond (nat_lt (newest_of r m) r.«cap» && nat_lt (count_of r m) r.«cap»)
    (with_newest r m (free_slot r m) v (count_of r m + 1)) m

unfoldable pub filled : Ring → List ℕ → Bool
filled r m = nat_lt (newest_of r m) r.«cap» && (nat_le (count_of r m) r.«cap» && nat_lt 0 (count_of r m))

unfoldable pub popped : Ring → List ℕ → List ℕ
popped r m = cond (filled r m) (slice_set m (r.header + 1) (count_of r m - 1)) m

unfoldable pub oldest : Ring → List ℕ → Option ℕ
oldest r m = cond (filled r m) (Some (slice_index m (place r (newest_of r m) (count_of r m - 1)))) None

-- ---- what holds of memory that keeps a queue

-- no slot is a header word
abbrev pub Apart : Ring → Type 0
Apart r = (slot : ℕ) → slot < r.«cap» → (r.slots + slot ≢ r.header) × (r.slots + slot ≢ r.header + 1)

pub record Sound (r : Ring) (m : List ℕ) : Type 0 where
  pub fits : (a : ℕ) → slice_index m a < 2 ^ 64
  pub header_inside : r.header + 2 ≤ length m
  pub slots_inside : r.slots + r.«cap» ≤ length m
  pub apart : Apart r
  -- the newest lies in a slot, where there are any
  pub near : 0 < r.«cap» → newest_of r m < r.«cap»
  pub few : count_of r m ≤ r.«cap»

-- m is memory before, and n after
pub record Pushed (r : Ring) (v : ℕ) (m n : List ℕ) : Type 0 where
  pub holds : held r n ≡ v ∷ held r m
  pub sound : Sound r n
  pub outside : (a : ℕ) → (a ≢ r.header) → (a ≢ r.header + 1) → (a ≢ r.slots + free_slot r m) → slice_index n a ≡ slice_index m a
  pub long : length n ≡ length m

pub record Popped (r : Ring) (m n : List ℕ) (v : ℕ) : Type 0 where
  pub holds : held r m ≡ held r n ++ (v ∷ [])
  pub sound : Sound r n
  pub outside : (a : ℕ) → (a ≢ r.header + 1) → slice_index n a ≡ slice_index m a
  pub long : length n ≡ length m

abbrev pub Left : Ring → List ℕ → List ℕ → Option ℕ → Type 0
Left r m n answer = MatchOption answer ((held r m ≡ []) × (n ≡ m)) (Popped r m n)

pub record Cleared (r : Ring) (m : List ℕ) : Type 0 where
  pub fits : (a : ℕ) → slice_index m a < 2 ^ 64
  pub header_inside : r.header + 2 ≤ length m
  pub slots_inside : r.slots + r.«cap» ≤ length m
  pub apart : Apart r
  pub no_newest : newest_of r m ≡ 0
  pub no_count : count_of r m ≡ 0

-- m is memory before, and n after
pub record Elsewhere (r : Ring) (m n : List ℕ) : Type 0 where
  pub fits : (a : ℕ) → slice_index n a < 2 ^ 64
  pub long : length n ≡ length m
  pub newest_kept : newest_of r n ≡ newest_of r m
  pub count_kept : count_of r n ≡ count_of r m
  pub slots_kept : (slot : ℕ) → slot < r.«cap» → slice_index n (r.slots + slot) ≡ slice_index m (r.slots + slot)
