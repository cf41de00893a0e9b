-- What `apart` tells, and what the tests of where a piece may be and lies tell, as facts about numbers.
use Rattle.std.proofs.Common.{◌≡◌, ℕ, ◌+◌, ◌/◌, ◌%◌, ◌<◌, ◌≤◌, true, false, ◌⊎◌, List, arith}
use Rattle.std.proofs.lemmas.Bool.Decides.{nat_tests}
use Rattle.grounds.specs.declared.block.Block.{Block}
use Rattle.grounds.specs.Numbers.{page, grain, mark_length}
use Rattle.grounds.specs.Blocks.{Limits, ground_size, class_of, large, room_for, apart, apart_all, page_is_of, may_be}
use Rattle.grounds.specs.Statements.{is_laid}

-- ---- apart

abbrev pub Apart : ℕ → ℕ → Block → Type 0
Apart a n b = (a + n ≤ b.at) ⊎ (b.at + b.room ≤ a)

pub apart_tells : (a n : ℕ) (b : Block) → apart a n b ≡ true → Apart a n b
apart_tells a n b h = grind (arith, nat_tests)

pub apart_from : (a n : ℕ) (b : Block) → Apart a n b → apart a n b ≡ true
apart_from a n b h = grind (arith, nat_tests)

pub not_apart : (a n : ℕ) (b : Block) → apart a n b ≡ false → (b.at < a + n) × (a < b.at + b.room)
not_apart a n b h = grind (arith, nat_tests)

pub apart_swaps : (b c : Block) → apart b.at b.room c ≡ true → apart c.at c.room b ≡ true
apart_swaps b c h = grind (arith, nat_tests)

-- ---- where a piece may be

pub record SmallThere (l : Limits) (c a : ℕ) (bs : List Block) : Type 0 where
  pub page_in : a / page < l.pages
  pub step : (a % page) % c ≡ 0
  pub within : a % page + c ≤ page
  pub of_class : page_is_of (a / page) c bs ≡ true
  pub free : apart_all a c bs ≡ true

pub record LargeThere (l : Limits) (n a : ℕ) (bs : List Block) : Type 0 where
  pub flat : a % page ≡ 0
  pub inside : a + large n ≤ ground_size l
  pub free : apart_all a (large n) bs ≡ true

pub may_small : (l : Limits) (n a : ℕ) (bs : List Block) → 0 < class_of n l.classes → may_be l n a bs ≡ true →
    SmallThere l (class_of n l.classes) a bs
may_small l n a bs some h = grind (arith, nat_tests)

pub may_large : (l : Limits) (n a : ℕ) (bs : List Block) → class_of n l.classes ≡ 0 → may_be l n a bs ≡ true → LargeThere l n a bs
may_large l n a bs none h = grind (arith, nat_tests)

-- ---- where a piece lies

pub record Lies (l : Limits) (b : Block) : Type 0 where
  pub inside : b.at + b.room ≤ ground_size l
  pub grained : b.at % grain ≡ 0
  pub has : b.size + mark_length ≤ b.room
  pub takes : b.room ≡ room_for l b.size
  pub small_sits : 0 < class_of b.size l.classes → ((b.at % page) % b.room ≡ 0) × (b.at % page + b.room ≤ page)
  pub large_sits : class_of b.size l.classes ≡ 0 → b.at % page ≡ 0

pub lies : (l : Limits) (b : Block) → is_laid l b ≡ true → Lies l b
lies l b h = grind (arith, nat_tests)

pub laid : (l : Limits) (b : Block) → Lies l b → is_laid l b ≡ true
laid l b h = grind (arith, nat_tests)
