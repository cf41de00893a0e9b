-- Sets of pages in memory, in two levels of words. Assumes nothing: these are definitions.
--     sets, high_words, pages     how many sets there are; how many high words a set has; how many pages there can be
--     low_at i k g                where the low word of the set k for the group g lies, that is for the pages 64 * g to 64 * g + 63
--     high_at i k h               where the high word h of the set k lies, which says of the groups 64 * h to 64 * h + 63 whose low word isn't 0
--     low_of, high_of i m k ..    those words of the memory m
--     member i m k p              whether the page p is in the set k
--     with_words                  memory with a new low word and a new high word for a page
--     inserted, removed           memory after a page is put into a set; is taken out
--     high_after                  a high word after one of its low words has changed
--     lows, highs i m k o ..      the low and the high words of two sets in one
--     first_high, first_in        the first high word that isn't 0; the lowest page of a group
--     first_page i m k o          the lowest page that is in the set k or in the set o, as the two levels tell it
--     Sound i groups m            what holds of memory that keeps sets of pages below 64 * groups: the two levels tell the same
--     Inserted, Removed           what an insert and a removal change, and what they leave
--     in_either, LowestPage       whether a page is in one of two sets; what holds of the lowest that is
--     FirstOf                     the same of an answer: there is no such page, or it is the lowest
--     Cleared                     what holds of memory in which every word of both levels is 0
use Rattle.std.specs.Prelude.{◌≡◌, ℕ, ◌+◌, ◌*◌, ◌/◌, ◌%◌, ◌^◌, ◌<◌, ◌≤◌, Bool, true, false, cond, not, ◌||◌, List, length, Some, None, Option, MatchOption, ◌==◌, ◌≢◌, bit_or, nat_lt, slice_index, slice_set}
use Rattle.grounds.specs.Lists.{first}
use Rattle.grounds.specs.Numbers.{most_pages}
use Rattle.bits.specs.Bit.{bit, with_bit, without_bit, lowest_bit}
use Rattle.index.specs.declared.Index.{Index}

abbrev pub sets : ℕ
sets = 33

abbrev pub high_words : ℕ
high_words = 16

abbrev pub pages : ℕ
pages = most_pages

-- ---- where the words lie

abbrev pub low_at : Index → ℕ → ℕ → ℕ
low_at i k g = i.low + sets * g + k

abbrev pub high_at : Index → ℕ → ℕ → ℕ
high_at i k h = i.high + high_words * k + h

abbrev pub low_of : Index → List ℕ → ℕ → ℕ → ℕ
low_of i m k g = slice_index m (low_at i k g)

abbrev pub high_of : Index → List ℕ → ℕ → ℕ → ℕ
high_of i m k h = slice_index m (high_at i k h)

unfoldable pub member : Index → List ℕ → ℕ → ℕ → Bool
member i m k p = bit (low_of i m k (p / 64)) (p % 64)

-- ---- a page put in and taken out: both words are read before either is written

abbrev pub with_words : Index → List ℕ → ℕ → ℕ → ℕ → ℕ → List ℕ
with_words i m k p low high = slice_set (slice_set m (low_at i k (p / 64)) low) (high_at i k (p / 64 / 64)) high

unfoldable pub inserted : Index → List ℕ → ℕ → ℕ → List ℕ
inserted i m k p = with_words i m k p (with_bit (low_of i m k (p / 64)) (p % 64)) (with_bit (high_of i m k (p / 64 / 64)) (p / 64 % 64))

-- a high word, after the low word of the group b of its groups has become `low`
unfoldable pub high_after : ℕ → ℕ → ℕ → ℕ
high_after high b low = cond (low == 0) (without_bit high b) high

unfoldable pub removed : Index → List ℕ → ℕ → ℕ → List ℕ
removed i m k p =
    let low = without_bit (low_of i m k (p / 64)) (p % 64) in
    with_words i m k p low (high_after (high_of i m k (p / 64 / 64)) (p / 64 % 64) low)

-- ---- the lowest page of two sets

abbrev pub lows : Index → List ℕ → ℕ → ℕ → ℕ → ℕ
lows i m k o g = bit_or (low_of i m k g) (low_of i m o g)

abbrev pub highs : Index → List ℕ → ℕ → ℕ → ℕ → ℕ
highs i m k o h = bit_or (high_of i m k h) (high_of i m o h)

-- the first high word that isn't 0, and 16 where all are
unfoldable pub first_high : Index → List ℕ → ℕ → ℕ → ℕ
first_high i m k o = first (λ h. nat_lt 0 (highs i m k o h)) high_words

-- the lowest page of the group g, and none where its low words are 0 although a high word says otherwise
unfoldable pub first_in : Index → List ℕ → ℕ → ℕ → ℕ → Option ℕ
first_in i m k o g = cond (nat_lt 0 (lows i m k o g)) (Some (64 * g + lowest_bit (lows i m k o g))) None

unfoldable pub first_page : Index → List ℕ → ℕ → ℕ → Option ℕ
first_page i m k o =
    let h = first_high i m k o in
    cond (nat_lt h high_words) (first_in i m k o (64 * h + lowest_bit (highs i m k o h))) None

-- ---- what holds of memory that keeps sets of pages below 64 * groups

pub record Sound (i : Index) (groups : ℕ) (m : List ℕ) : Type 0 where
  pub fits : (a : ℕ) → slice_index m a < 2 ^ 64
  pub few : groups ≤ 1024
  -- the high words lie before the low ones, and these inside memory
  pub apart : i.high + high_words * sets ≤ i.low
  pub inside : i.low + sets * groups ≤ length m
  -- a high bit is set exactly if the low word of its group isn't 0, and clear where there is no such group
  pub tells : (k g : ℕ) → k < sets → g < groups → bit (high_of i m k (g / 64)) (g % 64) ≡ not (low_of i m k g == 0)
  pub rest : (k g : ℕ) → k < sets → groups ≤ g → g < 1024 → bit (high_of i m k (g / 64)) (g % 64) ≡ false

-- m is memory before, and n after
pub record Inserted (i : Index) (groups k p : ℕ) (m n : List ℕ) : Type 0 where
  pub here : member i n k p ≡ true
  pub there : (j q : ℕ) → j < sets → ((j ≡ k) × (q ≡ p) → ⊥) → member i n j q ≡ member i m j q
  pub sound : Sound i groups n
  pub outside : (a : ℕ) → (a ≢ low_at i k (p / 64)) → (a ≢ high_at i k (p / 64 / 64)) → slice_index n a ≡ slice_index m a
  pub long : length n ≡ length m

pub record Removed (i : Index) (groups k p : ℕ) (m n : List ℕ) : Type 0 where
  pub here : member i n k p ≡ false
  pub there : (j q : ℕ) → j < sets → ((j ≡ k) × (q ≡ p) → ⊥) → member i n j q ≡ member i m j q
  pub sound : Sound i groups n
  pub outside : (a : ℕ) → (a ≢ low_at i k (p / 64)) → (a ≢ high_at i k (p / 64 / 64)) → slice_index n a ≡ slice_index m a
  pub long : length n ≡ length m

-- whether the page q is in the set k or in the set o
abbrev pub in_either : Index → List ℕ → ℕ → ℕ → ℕ → Bool
in_either i m k o q = member i m k q || member i m o q

pub record LowestPage (i : Index) (groups : ℕ) (m : List ℕ) (k o p : ℕ) : Type 0 where
  pub within : p < 64 * groups
  pub here : in_either i m k o p ≡ true
  pub below : (q : ℕ) → q < p → in_either i m k o q ≡ false

abbrev pub FirstOf : Index → ℕ → List ℕ → ℕ → ℕ → Option ℕ → Type 0
FirstOf i groups m k o r = MatchOption r ((q : ℕ) → q < 64 * groups → in_either i m k o q ≡ false) (LowestPage i groups m k o)

pub record Cleared (i : Index) (groups : ℕ) (m : List ℕ) : Type 0 where
  pub fits : (a : ℕ) → slice_index m a < 2 ^ 64
  pub few : groups ≤ 1024
  pub apart : i.high + high_words * sets ≤ i.low
  pub inside : i.low + sets * groups ≤ length m
  pub no_high : (k h : ℕ) → k < sets → h < high_words → high_of i m k h ≡ 0
  pub no_low : (k g : ℕ) → k < sets → g < groups → low_of i m k g ≡ 0
