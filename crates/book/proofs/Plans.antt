-- A plan that memory's header says is one to go by exactly if each of its numbers is such as limits have, and the lengths are as it says.
use Rattle.std.proofs.Common.{◌≡◌, ℕ, ◌+◌, ◌*◌, ◌<◌, ◌≤◌, true, Bool, ltb, leb, eqb, ◌&&◌, List, [], ◌∷◌, length, get_or, refl, arith}
use Rattle.std.proofs.lemmas.Bool.Decides.{nat_tests}
use Rattle.grounds.specs.Numbers.{page, most_pages, most_classes, most_rests, page_words, rest_words, fixed_words, byte}
use Rattle.layout.specs.Layout.{pages_at, rests_at, count_at, marks_at}
use Rattle.book.specs.Plan.{plan_good, Planned}

-- ---- of the numbers themselves: pages, how many rest, classes, the bytes of the mark, the words of memory, the bytes of the ground

goodness : (p r c a b w k : ℕ) → Bool
goodness p r c a b w k =
    (((ltb 0 p && leb p most_pages) && leb r most_rests) && ((ltb 0 c && leb c most_classes) && ((ltb 0 a && ltb a byte) && ((ltb 0 b && ltb b byte) && true))))
    && (eqb w (page_words * p + (rest_words * r + fixed_words)) && eqb k (p * page))

pub record Parts (p r c a b w k : ℕ) : Type 0 where
  pub some_pages : 0 < p
  pub few_pages : p ≤ most_pages
  pub few_rest : r ≤ most_rests
  pub some_classes : 0 < c
  pub few_classes : c ≤ most_classes
  pub first : (ltb 0 a && ltb a byte) ≡ true
  pub second : (ltb 0 b && ltb b byte) ≡ true
  pub memory_long : w ≡ page_words * p + (rest_words * r + fixed_words)
  pub ground_long : k ≡ p * page

parts : (p r c a b w k : ℕ) → goodness p r c a b w k ≡ true → Parts p r c a b w k
unfolding goodness
parts p r c a b w k good = record {
  some_pages = grind (arith, nat_tests);
  few_pages = grind (arith, nat_tests);
  few_rest = grind (arith, nat_tests);
  some_classes = grind (arith, nat_tests);
  few_classes = grind (arith, nat_tests);
  first = grind (arith, nat_tests);
  second = grind (arith, nat_tests);
  memory_long = grind (arith, nat_tests);
  ground_long = grind (arith, nat_tests);
}

from : (p r c a b w k : ℕ) → Parts p r c a b w k → goodness p r c a b w k ≡ true
unfolding goodness
from p r c a b w k g = grind (arith, nat_tests)

-- ---- of what memory says

abbrev pub Good : List ℕ → ℕ → Type 0
Good m k =
    Parts (get_or m pages_at 0) (get_or m rests_at 0) (get_or m count_at 0) (get_or m marks_at 0) (get_or m (marks_at + 1) 0) (length m) k

pub good_parts : (m : List ℕ) (k : ℕ) → plan_good m k ≡ true → Good m k
unfolding plan_good goodness
good_parts m k good =
    parts (get_or m pages_at 0) (get_or m rests_at 0) (get_or m count_at 0) (get_or m marks_at 0) (get_or m (marks_at + 1) 0) (length m) k good

pub good_from : (m : List ℕ) (k : ℕ) → Good m k → plan_good m k ≡ true
unfolding plan_good goodness
good_from m k g =
    from (get_or m pages_at 0) (get_or m rests_at 0) (get_or m count_at 0) (get_or m marks_at 0) (get_or m (marks_at + 1) 0) (length m) k g

-- what is read of such memory is the plan
pub planned_is : (m : List ℕ) (k : ℕ) {p r c a b : ℕ} → p ≡ get_or m pages_at 0 → r ≡ get_or m rests_at 0 → c ≡ get_or m count_at 0 →
    a ≡ get_or m marks_at 0 → b ≡ get_or m (marks_at + 1) 0 → Good m k →
    Planned m k (record { layout = record { pages = p; rests = r }; classes = c; mark = a ∷ (b ∷ []) })
planned_is m k ep er ec ea eb g =
    rw (ep, er, ec, ea, eb)
    record {
      good = good_from m k g;
      is = refl;
      few_pages = g.few_pages;
      few_rest = g.few_rest;
      few_classes = g.few_classes;
      ground_long = g.ground_long;
    }
