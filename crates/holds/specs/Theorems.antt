-- Memory that holds a table goes on to hold it, whatever happens, and tells what the table tells. Each is a statement, a type whose proof is owed. Assumes nothing.
--     Kept can l t s m      m holds the table t, which stands for the pieces s, all of them small
--     spot_of m n           the lowest spot for n bytes, as memory tells it, and class_for m n, the class of n bytes
use Rattle.std.specs.Prelude.{◌≡◌, ℕ, ◌<◌, Bool, true, List, nat_lt}
use Rattle.grounds.specs.Numbers.{word}
use Rattle.grounds.specs.Blocks.{Limits, ground_size}
use Rattle.grounds.specs.Grounds.{State, got_at}
use Rattle.grounds.specs.Worlds.{GoodLimits}
use Rattle.units.specs.Units.{units}
use Rattle.table.specs.Table.{Table, new_table, placed, sized, marked_spoilt, rested}
use Rattle.table.specs.Stands.{Stands}
use Rattle.table.specs.Runs.{found}
use Rattle.opening.specs.Opening.{opened}
use Rattle.book.specs.declared.class.Class.{Class}
use Rattle.layout.specs.declared.spot.Spot.{Spot}
use Rattle.book.specs.Plan.{plan_of, class_of_size, has_class}
use Rattle.book.specs.Spots.{place_of_spot, spot_at, spot_in, has_spot}
use Rattle.book.specs.Changes.{taken_in, sized_in, spoilt_in, rested_in}
use Rattle.holds.specs.Holds.{Holds, Small}

pub record Kept (can : ℕ → Bool) (l : Limits) (t : Table) (s : State) (m : List ℕ) : Type 0 where
  pub good : GoodLimits can l
  pub stands : Stands l t s
  pub holds : Holds l t m
  pub small : Small l t

abbrev pub class_for : List ℕ → ℕ → Class
class_for m n = class_of_size (plan_of m) m n

abbrev pub spot_of : List ℕ → ℕ → Spot
spot_of m n = spot_in (plan_of m) m (class_for m n).number

-- After an opening memory holds the new table.
abbrev pub OpeningHolds : Type 0
OpeningHolds = (can : ℕ → Bool) (l : Limits) → GoodLimits can l → Holds l new_table (opened l)

-- Where a class has n bytes, memory tells whether there is room for them, and where, as the table does.
abbrev pub PlaceTold : Type 0
PlaceTold =
    (can : ℕ → Bool) (l : Limits) (t : Table) (s : State) (m : List ℕ) (n : ℕ) → Kept can l t s m → has_class (plan_of m) m n ≡ true →
    (has_spot (plan_of m) m (class_for m n) ≡ nat_lt (found l t n) (ground_size l))
    × (has_spot (plan_of m) m (class_for m n) ≡ true → found l t n ≡ place_of_spot (spot_of m n))

-- A slot is taken: memory holds the table with one piece more.
abbrev pub TakeHolds : Type 0
TakeHolds =
    (can : ℕ → Bool) (l : Limits) (t : Table) (s : State) (m : List ℕ) (n : ℕ) → Kept can l t s m → has_class (plan_of m) m n ≡ true →
    has_spot (plan_of m) m (class_for m n) ≡ true →
    Holds l (placed t (got_at l n (place_of_spot (spot_of m n)))) (taken_in (plan_of m) m (class_for m n) (spot_of m n))

-- How much was asked for what is out is written or, with 0, ended.
abbrev pub SizeHolds : Type 0
SizeHolds =
    (can : ℕ → Bool) (l : Limits) (t : Table) (m : List ℕ) (s : Spot) (n : ℕ) → GoodLimits can l → Holds l t m → s.page < l.pages → s.unit < units → n < word →
    Holds l (sized t (place_of_spot s) n) (sized_in m s n)

-- A piece is spoilt.
abbrev pub SpoilHolds : Type 0
SpoilHolds =
    (can : ℕ → Bool) (l : Limits) (t : Table) (m : List ℕ) (s : Spot) → GoodLimits can l → Holds l t m → s.page < l.pages → s.unit < units →
    Holds l (marked_spoilt t (place_of_spot s)) (spoilt_in m s)

-- A piece that is out is overrun: it is out no more, and spoilt.
abbrev pub OverrunHolds : Type 0
OverrunHolds =
    (can : ℕ → Bool) (l : Limits) (t : Table) (s : State) (m : List ℕ) (a : ℕ) → Kept can l t s m → 0 < t.asked a →
    Holds l (marked_spoilt (sized t a 0) a) (spoilt_in (sized_in m (spot_at a) 0) (spot_at a))

-- A piece that is out is given back: it rests, and where too many rest, the oldest is free.
abbrev pub RestHolds : Type 0
RestHolds =
    (can : ℕ → Bool) (l : Limits) (t : Table) (s : State) (m : List ℕ) (a : ℕ) → Kept can l t s m → 0 < t.asked a →
    Holds l (rested l t a) (rested_in (plan_of m) (sized_in m (spot_at a) 0) a)
