-- The pieces of a ground, when an event is turned away, and what becomes of pieces and ground. Assumes nothing: these are definitions.
--     out               a piece that was got, and not given back
--     resting           a piece that was given back, and is not free yet
--     spoilt            a piece in which harm was found: it is never given out again
--     mark              the bytes at a piece's end, which tell whether somebody wrote past what was asked for
--     overrun           of a piece: its mark was changed
--     harmed            of a place: somebody wrote where nothing is out
--     whole             of a ground: nothing is overrun or harmed
--     find a bs         the piece of bs that begins at a
--     turned l s e      why e is turned away, if it is: the first reason that holds, in the order of their numbers
--     after l s e x     the pieces, once e was answered by x; ground_after l s g e x, the ground
use Rattle.std.specs.Prelude.{ℕ, zero, suc, ◌+◌, ◌-◌, Bool, true, cond, ◌&&◌, ◌||◌, List, [], ◌∷◌, ◌++◌, take, replicate, is_some, Some, None, Option, ◌==◌, nat_le, nat_lt, slice_index}
use Rattle.std.specs.Option.{unwrap_or}
use Rattle.grounds.specs.declared.block.Block.{Block}
use Rattle.grounds.specs.declared.event.Event.{Event}
use Rattle.grounds.specs.declared.event.Event.TheVariants.{Get, Give, Size, Look, Garbled}
use Rattle.grounds.specs.declared.answer.Refusal.{Refusal}
use Rattle.grounds.specs.declared.answer.Refusal.TheVariants.{NoEvent, OutOfRange, NotOut, NoRoom}
use Rattle.grounds.specs.declared.answer.Answer.{Answer}
use Rattle.grounds.specs.declared.answer.Answer.TheVariants.{Refused, Done, Place, Number, Overrun, Harmed, Whole}
use Rattle.grounds.specs.Numbers.{mark_length}
use Rattle.grounds.specs.Lists.{every, any, same, part, over, all_zero}
use Rattle.grounds.specs.Blocks.{Limits, ground_size, class_of, room_for, some_place}
use Rattle.grounds.specs.Events.{event_number, no_event}

-- ---- the pieces

pub record State : Type 0 where
  pub out : List Block
  pub resting : List Block  -- the one that was given back last comes first
  pub spoilt : List Block

abbrev pub new_state : State
new_state = record { out = []; resting = []; spoilt = [] }

abbrev pub all_blocks : State → List Block
all_blocks s = s.out ++ (s.resting ++ s.spoilt)

unfoldable pub find : ℕ → List Block → Option Block
find a [] = None
find a (b ∷ bs) = cond (a == b.at) (Some b) (find a bs)

unfoldable pub without : ℕ → List Block → List Block
without a [] = []
without a (b ∷ bs) = cond (a == b.at) bs (b ∷ without a bs)

-- the piece that is out and begins at a; where there is none, a piece of nothing
abbrev pub out_at : State → ℕ → Block
out_at s a = unwrap_or (find a s.out) (record { at = 0; size = 0; room = 0 })

-- the piece that is got by a get of n bytes, told to be at a
abbrev pub got_at : Limits → ℕ → ℕ → Block
got_at l n a = record { at = a; size = n; room = room_for l n }

-- ---- the mark

abbrev pub mark_place : Block → ℕ
mark_place b = (b.at + b.room) - mark_length

abbrev pub marked : Limits → List ℕ → Block → Bool
marked l g b = same (part (mark_place b) mark_length g) l.marks

-- ---- what is turned away

-- more than 0 bytes, and no more than the ground has; and large pieces only if the keeper has them
unfoldable pub good_fields : Limits → Event → Bool
good_fields l (Get n) = (nat_lt 0 n && nat_le n (ground_size l)) && (nat_lt 0 (class_of n l.classes) || l.events_can 4)
good_fields l (Give a) = true
good_fields l (Size a) = true
good_fields l Look = true
good_fields l (Garbled n) = true

unfoldable pub turned_by : Limits → State → Event → Option Refusal
turned_by l s (Get n) = cond (some_place l n (all_blocks s) (ground_size l)) None (Some NoRoom)
turned_by l s (Give a) = cond (is_some (find a s.out)) None (Some NotOut)
turned_by l s (Size a) = cond (is_some (find a s.out)) None (Some NotOut)
turned_by l s Look = None
turned_by l s (Garbled n) = Some NoEvent

abbrev pub turned : Limits → State → Event → Option Refusal
turned l s e =
    cond (no_event e) (Some NoEvent) (cond (l.events_can (event_number e) && good_fields l e) (turned_by l s e) (Some OutOfRange))

-- the place that is told with a refusal: of bytes that are no event, where they cease to be one
unfoldable pub place_of : Event → ℕ
place_of (Get n) = 0
place_of (Give a) = 0
place_of (Size a) = 0
place_of Look = 0
place_of (Garbled n) = n

-- ---- what becomes of the pieces

-- one more that rests; of those that rest longest, as many as are too many are free from then on
abbrev pub rest_one : Limits → Block → List Block → List Block
rest_one l b bs = take l.rests (b ∷ bs)

unfoldable pub after : Limits → State → Event → Answer → State
after l s (Get n) (Refused r a) = s
after l s (Get n) Done = s
after l s (Get n) (Place a) = record { out = got_at l n a ∷ s.out; resting = s.resting; spoilt = s.spoilt }
after l s (Get n) (Number m) = s
after l s (Get n) (Overrun a) = s
after l s (Get n) (Harmed a) = record { out = s.out; resting = s.resting; spoilt = got_at l n a ∷ s.spoilt }
after l s (Get n) Whole = s
after l s (Give b) (Refused r a) = s
after l s (Give b) Done = record { out = without b s.out; resting = rest_one l (out_at s b) s.resting; spoilt = s.spoilt }
after l s (Give b) (Place a) = s
after l s (Give b) (Number m) = s
after l s (Give b) (Overrun a) = record { out = without b s.out; resting = s.resting; spoilt = out_at s b ∷ s.spoilt }
after l s (Give b) (Harmed a) = s
after l s (Give b) Whole = s
after l s (Size b) x = s
after l s Look x = s
after l s (Garbled n) x = s

-- ---- and of the ground: a mark is written where a piece is got, zeros where one is given back, and nothing else

unfoldable pub ground_after : Limits → State → List ℕ → Event → Answer → List ℕ
ground_after l s g (Get n) (Refused r a) = g
ground_after l s g (Get n) Done = g
ground_after l s g (Get n) (Place a) = over (mark_place (got_at l n a)) l.marks g
ground_after l s g (Get n) (Number m) = g
ground_after l s g (Get n) (Overrun a) = g
ground_after l s g (Get n) (Harmed a) = g
ground_after l s g (Get n) Whole = g
ground_after l s g (Give b) (Refused r a) = g
ground_after l s g (Give b) Done = over b (replicate (out_at s b).room 0) g
ground_after l s g (Give b) (Place a) = g
ground_after l s g (Give b) (Number m) = g
ground_after l s g (Give b) (Overrun a) = g
ground_after l s g (Give b) (Harmed a) = g
ground_after l s g (Give b) Whole = g
ground_after l s g (Size b) x = g
ground_after l s g Look x = g
ground_after l s g (Garbled n) x = g

-- ---- is the ground whole: the marks of all that are out are there, and each byte is 0 that is in nothing that is out or spoilt

abbrev pub is_inside : ℕ → List Block → Bool
is_inside a = any (λ b. nat_le b.at a && nat_lt a (b.at + b.room))

abbrev pub byte_whole : State → List ℕ → ℕ → Bool
byte_whole s g a = is_inside a (s.out ++ s.spoilt) || slice_index g a == 0

abbrev pub marks_whole : Limits → List ℕ → List Block → Bool
marks_whole l g = every (marked l g)

unfoldable pub bytes_whole : State → List ℕ → ℕ → Bool
bytes_whole s g zero = true
bytes_whole s g (suc a) = byte_whole s g a && bytes_whole s g a

abbrev pub all_whole : Limits → State → List ℕ → Bool
all_whole l s g = marks_whole l g s.out && bytes_whole s g (ground_size l)

-- whether all bytes are 0 that a piece of n bytes would take at a
abbrev pub clean_there : Limits → List ℕ → ℕ → ℕ → Bool
clean_there l g n a = all_zero (part a (room_for l n) g)
