-- A size has a class exactly if it may be asked for, and the class that memory's look-up says has it with the mark.
use Rattle.std.proofs.Common.{◌≡◌, ℕ, ◌+◌, ◌*◌, ◌<◌, ◌≤◌, true, Bool, ltb, leb, ◌&&◌, List, get_or, refl, ap, ◌∙◌, arith}
use Rattle.std.proofs.lemmas.Bool.{cond-true, cond-false}
use Rattle.std.proofs.lemmas.Bool.Decides.{nat_tests}
use Rattle.grounds.specs.Numbers.{page, mark_length}
use Rattle.units.specs.Units.{units}
use Rattle.limits.specs.Lookup.{row}
use Rattle.layout.specs.Layout.{lookup_at}
use Rattle.book.specs.declared.plan.Plan.{Plan}
use Rattle.book.specs.Plan.{class_in, room_in, has_class, Classed}

-- ---- of the numbers themselves: the size, the ground's bytes, the class's number, how many classes there are, how much a piece of it takes

goodness : (n g k c s : ℕ) → Bool
goodness n g k c s = (ltb 0 n && leb n g) && (ltb k c && leb (n + mark_length) s)

pub record Parts (n g k c s : ℕ) : Type 0 where
  pub some : 0 < n
  pub inside : n ≤ g
  pub near : k < c
  pub has : n + mark_length ≤ s

parts : (n g k c s : ℕ) → goodness n g k c s ≡ true → Parts n g k c s
unfolding goodness
parts n g k c s good =
    record { some = grind (arith, nat_tests); inside = grind (arith, nat_tests); near = grind (arith, nat_tests); has = grind (arith, nat_tests) }

from : (n g k c s : ℕ) → Parts n g k c s → goodness n g k c s ≡ true
unfolding goodness
from n g k c s p = grind (arith, nat_tests)

-- ---- of a size

module _ (x : Plan) (m : List ℕ) (n : ℕ) where
  abbrev pub Has : Type 0
  Has = Parts n (x.layout.pages * page) (class_in x m n) x.classes (room_in m (class_in x m n))

  pub has_parts : has_class x m n ≡ true → Has
  unfolding has_class goodness
  has_parts good = parts n (x.layout.pages * page) (class_in x m n) x.classes (room_in m (class_in x m n)) good

  pub has_from : Has → has_class x m n ≡ true
  unfolding has_class goodness
  has_from p = from n (x.layout.pages * page) (class_in x m n) x.classes (room_in m (class_in x m n)) p

  pub class_said : row n ≤ units → class_in x m n ≡ get_or m (lookup_at + row n) 0
  class_said few = cond-true (leb (row n) units) (get_or m (lookup_at + row n) 0) x.classes (grind (arith, nat_tests))

  pub class_past : units < row n → class_in x m n ≡ x.classes
  class_past many = cond-false (leb (row n) units) (get_or m (lookup_at + row n) 0) x.classes (grind (arith, nat_tests))

  -- what is read of memory is the class
  pub classed_is : {k s : ℕ} → k ≡ class_in x m n → s ≡ room_in m k → 0 < n → n ≤ x.layout.pages * page → k < x.classes → n + mark_length ≤ s →
      Classed x m n (record { number = k; room = s })
  classed_is ek es some inside near has =
      let room = es ∙ ap (room_in m) ek in
      rw (room, ek)
      record {
        good = has_from (record { some = some; inside = inside; near = omega (arith, ek); has = omega (arith, room) });
        is = refl;
        few = omega (arith, ek);
        has = omega (arith, room);
      }
