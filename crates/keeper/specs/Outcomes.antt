-- What the keeper answers to an event and what it leaves, for every memory and every ground. Assumes nothing: these are definitions.
--     Outcome               an answer, and memory and ground after it
--     away r m g            an event is turned away for the reason r, and changes nothing
--     get, give, size_outcome x m g ..      what comes of a get, a give back and a size, by the plan x
--     outcome m g e         what comes of any event
use Rattle.std.specs.Prelude.{ℕ, ◌+◌, ◌-◌, Bool, cond, ◌&&◌, List, length, replicate, nat_lt}
use Rattle.grounds.specs.declared.event.Event.{Event}
use Rattle.grounds.specs.declared.event.Event.TheVariants.{Get, Give, Size, Look, Garbled}
use Rattle.grounds.specs.declared.answer.Refusal.{Refusal}
use Rattle.grounds.specs.declared.answer.Refusal.TheVariants.{NoEvent, OutOfRange, NotOut, NoRoom}
use Rattle.grounds.specs.declared.answer.Answer.{Answer}
use Rattle.grounds.specs.declared.answer.Answer.TheVariants.{Refused, Done, Place, Number, Overrun, Harmed}
use Rattle.grounds.specs.Numbers.{mark_length}
use Rattle.grounds.specs.Lists.{same, part, over, all_zero}
use Rattle.book.specs.declared.plan.Plan.{Plan}
use Rattle.book.specs.declared.class.Class.{Class}
use Rattle.layout.specs.declared.spot.Spot.{Spot}
use Rattle.book.specs.Plan.{plan_of, plan_good, class_of_size, has_class}
use Rattle.book.specs.Spots.{place_of_spot, spot_at, is_spot, kind_in, asked_in, room_good, spot_in, has_spot}
use Rattle.book.specs.Changes.{taken_in, sized_in, spoilt_in, rested_in}

pub record Outcome : Type 0 where
  pub answer : Answer
  pub memory : List ℕ
  pub ground : List ℕ

abbrev pub away : Refusal → List ℕ → List ℕ → Outcome
away r m g = record { answer = Refused r 0; memory = m; ground = g }

-- ---- a get: by the class of the size, and the lowest spot of that class

-- a piece of the class c, of n bytes, at the spot s: it is out where all that it takes is 0, and spoilt where a byte isn't
unfoldable pub got : Plan → List ℕ → List ℕ → ℕ → Class → Spot → Outcome
got x m g n c s =
    let a : ℕ = place_of_spot s in
    let taken : List ℕ = taken_in x m c s in
    cond
    (all_zero (part a c.room g))
    (record { answer = Place a; memory = sized_in taken s n; ground = over ((a + c.room) - mark_length) x.mark g })
    (record { answer = Harmed a; memory = spoilt_in taken s; ground = g })

unfoldable pub get_outcome : Plan → List ℕ → List ℕ → ℕ → Outcome
get_outcome x m g n =
    let c : Class = class_of_size x m n in
    cond (has_class x m n) (cond (has_spot x m c) (got x m g n c (spot_in x m c.number)) (away NoRoom m g)) (away OutOfRange m g)

-- ---- a give back, of what begins at a

-- a piece that takes r bytes, at the spot s: where its mark is there it is made 0 and rests, and else it is spoilt
unfoldable pub given : Plan → List ℕ → List ℕ → ℕ → Spot → ℕ → Outcome
given x m g a s r =
    let p : ℕ = (a + r) - mark_length in
    let ended : List ℕ = sized_in m s 0 in
    cond
    (same (part p mark_length g) x.mark)
    (record { answer = Done; memory = rested_in x ended a; ground = over a (replicate r 0) g })
    (record { answer = Overrun p; memory = spoilt_in ended s; ground = g })

-- whether something is out that begins at a
abbrev pub is_out : Plan → List ℕ → ℕ → Bool
is_out x m a = is_spot x a && nat_lt 0 (asked_in m (spot_at a))

unfoldable pub give_outcome : Plan → List ℕ → List ℕ → ℕ → Outcome
give_outcome x m g a =
    let s : Spot = spot_at a in
    cond (is_out x m a) (cond (room_good m s) (given x m g a s (kind_in m s.page)) (away OutOfRange m g)) (away NotOut m g)

-- ---- the size of what begins at a

unfoldable pub size_outcome : Plan → List ℕ → List ℕ → ℕ → Outcome
size_outcome x m g a =
    cond (is_out x m a) (record { answer = Number (asked_in m (spot_at a)); memory = m; ground = g }) (away NotOut m g)

-- ---- any event: bytes that are none are turned away first, and then memory and ground that no plan is for

unfoldable pub by_plan : Plan → List ℕ → List ℕ → Event → Outcome
by_plan x m g (Get n) = get_outcome x m g n
by_plan x m g (Give a) = give_outcome x m g a
by_plan x m g (Size a) = size_outcome x m g a
by_plan x m g Look = away OutOfRange m g
by_plan x m g (Garbled n) = away OutOfRange m g

abbrev pub by_header : List ℕ → List ℕ → Event → Outcome
by_header m g e = cond (plan_good m (length g)) (by_plan (plan_of m) m g e) (away OutOfRange m g)

unfoldable pub outcome : List ℕ → List ℕ → Event → Outcome
outcome m g (Get n) = by_header m g (Get n)
outcome m g (Give a) = by_header m g (Give a)
outcome m g (Size a) = by_header m g (Size a)
outcome m g Look = by_header m g Look
outcome m g (Garbled n) = record { answer = Refused NoEvent n; memory = m; ground = g }
