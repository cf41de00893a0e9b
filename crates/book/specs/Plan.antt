-- What the header of memory says of the limits, and which class a size is of. Assumes nothing: these are definitions.
--     Plan                  what an event goes by: pages, how many rest, how many classes, the mark (src/plan.rt)
--     plan_of m             the plan that the header of m says
--     plan_good m bytes     whether that is a plan to go by: its numbers are such as limits have, and memory and a ground of so many bytes are as long as they say
--     Planned m bytes x     that it is, and x is that plan
--     Class                 a class: its number and how much its pieces take (src/class.rt)
--     class_in x m n        the number of the least class that has n bytes and the mark, as the look-up says it; how many classes there are where none has
--     has_class x m n       whether n bytes may be asked for, and a class has them
--     Classed x m n c       that it is so, and c is that class
use Rattle.std.specs.Prelude.{◌≡◌, ℕ, ◌+◌, ◌*◌, ◌<◌, ◌≤◌, Bool, true, cond, ◌&&◌, List, map, length, ◌==◌, nat_le, nat_lt, slice_index}
use Rattle.std.specs.List.{range_with_len}
use Rattle.grounds.specs.Numbers.{page, mark_length, most_pages, most_classes, most_rests, page_words, rest_words, fixed_words, byte}
use Rattle.grounds.specs.Lists.{every}
use Rattle.units.specs.Units.{units}
use Rattle.limits.specs.Lookup.{row}
use Rattle.layout.specs.declared.layout.Layout.{Layout}
use Rattle.layout.specs.Layout.{pages_at, rests_at, count_at, marks_at, classes_at, lookup_at}
use Rattle.book.specs.declared.plan.Plan.{Plan}
use Rattle.book.specs.declared.class.Class.{Class}

-- ---- the plan

abbrev pub layout_of : List ℕ → Layout
layout_of m = record { pages = slice_index m pages_at; rests = slice_index m rests_at }

abbrev pub mark_of : List ℕ → List ℕ
mark_of m = map (λ i. slice_index m (marks_at + i)) (range_with_len 0 mark_length)

abbrev pub plan_of : List ℕ → Plan
plan_of m = record { layout = layout_of m; classes = slice_index m count_at; mark = mark_of m }

-- the numbers are such as good limits have
abbrev pub numbers_good : Plan → Bool
numbers_good x =
    ((nat_lt 0 x.layout.pages && nat_le x.layout.pages most_pages) && nat_le x.layout.rests most_rests)
    && ((nat_lt 0 x.classes && nat_le x.classes most_classes) && every (λ b. nat_lt 0 b && nat_lt b byte) x.mark)

abbrev pub lengths_good : Plan → ℕ → ℕ → Bool
lengths_good x words bytes =
    (words == page_words * x.layout.pages + (rest_words * x.layout.rests + fixed_words)) && bytes == x.layout.pages * page

unfoldable pub plan_good : List ℕ → ℕ → Bool
plan_good m bytes = numbers_good (plan_of m) && lengths_good (plan_of m) (length m) bytes

pub record Planned (m : List ℕ) (bytes : ℕ) (x : Plan) : Type 0 where
  pub good : plan_good m bytes ≡ true
  pub is : x ≡ plan_of m
  pub few_pages : x.layout.pages ≤ most_pages
  pub few_rest : x.layout.rests ≤ most_rests
  pub few_classes : x.classes ≤ most_classes
  pub ground_long : bytes ≡ x.layout.pages * page

-- ---- the class of a size

abbrev pub class_in : Plan → List ℕ → ℕ → ℕ
class_in x m n = cond (nat_le (row n) units) (slice_index m (lookup_at + row n)) x.classes

abbrev pub room_in : List ℕ → ℕ → ℕ
room_in m k = slice_index m (classes_at + k)

abbrev pub class_of_size : Plan → List ℕ → ℕ → Class
class_of_size x m n = record { number = class_in x m n; room = room_in m (class_in x m n) }

-- more than 0 bytes, and no more than the ground has; and such as a class has with the mark
unfoldable pub has_class : Plan → List ℕ → ℕ → Bool
has_class x m n =
    (nat_lt 0 n && nat_le n (x.layout.pages * page))
    && (nat_lt (class_in x m n) x.classes && nat_le (n + mark_length) (room_in m (class_in x m n)))

pub record Classed (x : Plan) (m : List ℕ) (n : ℕ) (c : Class) : Type 0 where
  pub good : has_class x m n ≡ true
  pub is : c ≡ class_of_size x m n
  pub few : c.number < x.classes
  pub has : n + mark_length ≤ c.room
