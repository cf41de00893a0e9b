-- What is answered, and what becomes of table and ground, in the table's words alone. Assumes nothing: these are definitions.
--     table_turned l t e        why e is turned away, if it is
--     table_answer l t g e      what is answered to e
--     table_after l t e x       the table, once e was answered by x; table_ground l t g e x, the ground
use Rattle.std.specs.Prelude.{ℕ, ◌/◌, cond, ◌&&◌, List, replicate, Some, None, Option, nat_lt}
use Rattle.grounds.specs.declared.event.Event.{Event}
use Rattle.grounds.specs.declared.event.Event.TheVariants.{Get, Give, Size, Look, Garbled}
use Rattle.grounds.specs.declared.answer.Refusal.{Refusal}
use Rattle.grounds.specs.declared.answer.Refusal.TheVariants.{NoEvent, OutOfRange, NotOut, NoRoom}
use Rattle.grounds.specs.declared.answer.Answer.{Answer}
use Rattle.grounds.specs.declared.answer.Answer.TheVariants.{Refused, Done, Place, Number, Overrun, Harmed, Whole}
use Rattle.grounds.specs.Numbers.{page}
use Rattle.grounds.specs.Lists.{over}
use Rattle.grounds.specs.Blocks.{Limits, ground_size}
use Rattle.grounds.specs.Events.{event_number, no_event}
use Rattle.grounds.specs.Grounds.{got_at, mark_place, marked, good_fields, place_of, clean_there}
use Rattle.grounds.specs.Lowest.{by_turned}
use Rattle.table.specs.Table.{Table, placed, sized, marked_spoilt, known, rested}
use Rattle.table.specs.Runs.{found}
use Rattle.table.specs.Looks.{lowest_changed, lowest_stray}

unfoldable pub table_turned_by : Limits → Table → Event → Option Refusal
table_turned_by l t (Get n) = cond (nat_lt (found l t n) (ground_size l)) None (Some NoRoom)
table_turned_by l t (Give a) = cond (nat_lt 0 (t.asked a)) None (Some NotOut)
table_turned_by l t (Size a) = cond (nat_lt 0 (t.asked a)) None (Some NotOut)
table_turned_by l t Look = None
table_turned_by l t (Garbled n) = Some NoEvent

abbrev pub table_turned : Limits → Table → Event → Option Refusal
table_turned l t e =
    cond (no_event e) (Some NoEvent) (cond (l.events_can (event_number e) && good_fields l e) (table_turned_by l t e) (Some OutOfRange))

unfoldable pub table_look : Limits → Table → List ℕ → Answer
table_look l t g =
    let m : ℕ = lowest_changed l t g in
    let h : ℕ = lowest_stray l t g in
    cond (nat_lt m (ground_size l)) (Overrun m) (cond (nat_lt h (ground_size l)) (Harmed h) Whole)

-- what is answered to an event that is not turned away
unfoldable pub table_chosen : Limits → Table → List ℕ → Event → Answer
table_chosen l t g (Get n) = let a : ℕ = found l t n in cond (clean_there l g n a) (Place a) (Harmed a)
table_chosen l t g (Give a) = cond (marked l g (known t a)) Done (Overrun (mark_place (known t a)))
table_chosen l t g (Size a) = Number (t.asked a)
table_chosen l t g Look = table_look l t g
table_chosen l t g (Garbled n) = Refused NoEvent n

abbrev pub table_answer : Limits → Table → List ℕ → Event → Answer
table_answer l t g e = by_turned (table_turned l t e) (place_of e) (table_chosen l t g e)

unfoldable pub table_after : Limits → Table → Event → Answer → Table
table_after l t (Get n) (Refused r a) = t
table_after l t (Get n) Done = t
table_after l t (Get n) (Place a) = sized (placed t (got_at l n a)) a n
table_after l t (Get n) (Number m) = t
table_after l t (Get n) (Overrun a) = t
table_after l t (Get n) (Harmed a) = marked_spoilt (placed t (got_at l n a)) a
table_after l t (Get n) Whole = t
table_after l t (Give b) (Refused r a) = t
table_after l t (Give b) Done = rested l t b
table_after l t (Give b) (Place a) = t
table_after l t (Give b) (Number m) = t
table_after l t (Give b) (Overrun a) = marked_spoilt (sized t b 0) b
table_after l t (Give b) (Harmed a) = t
table_after l t (Give b) Whole = t
table_after l t (Size b) x = t
table_after l t Look x = t
table_after l t (Garbled n) x = t

unfoldable pub table_ground : Limits → Table → List ℕ → Event → Answer → List ℕ
table_ground l t g (Get n) (Refused r a) = g
table_ground l t g (Get n) Done = g
table_ground l t g (Get n) (Place a) = over (mark_place (got_at l n a)) l.marks g
table_ground l t g (Get n) (Number m) = g
table_ground l t g (Get n) (Overrun a) = g
table_ground l t g (Get n) (Harmed a) = g
table_ground l t g (Get n) Whole = g
table_ground l t g (Give b) (Refused r a) = g
table_ground l t g (Give b) Done = over b (replicate (t.kind (b / page)) 0) g
table_ground l t g (Give b) (Place a) = g
table_ground l t g (Give b) (Number m) = g
table_ground l t g (Give b) (Overrun a) = g
table_ground l t g (Give b) (Harmed a) = g
table_ground l t g (Give b) Whole = g
table_ground l t g (Size b) x = g
table_ground l t g Look x = g
table_ground l t g (Garbled n) x = g
