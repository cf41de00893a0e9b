-- Reading and writing: what is promised, and what is read as a function of the bytes. Assumes nothing: these are definitions and statements.
--     Reads bs e            e is what bs is read as: the event of which these are the bytes or, if there is none, garbled, and where
--     ReadsAnswer bs r      r is what bs is read as: the answer of which these are the bytes, if there is one
--     Writes bs old new r   bs was written at the start of a part that held old and now holds new, and r says how many; or they have no place there,
--                           and nothing changed
--     event_of bs, answer_of bs      what is read
use Rattle.std.specs.Prelude.{◌≡◌, ℕ, suc, ◌*◌, ◌<◌, ◌≤◌, min, true, false, cond, List, [], ◌∷◌, ◌++◌, length, take, drop, Some, None, Option, ◌==◌, nat_lt}
use Rattle.std.specs.Option.{option_map}
use Rattle.grounds.specs.declared.event.Event.{Event}
use Rattle.grounds.specs.declared.event.Event.TheVariants.{Get, Give, Size, Look, Garbled}
use Rattle.grounds.specs.declared.answer.Refusal.{Refusal}
use Rattle.grounds.specs.declared.answer.Refusal.TheVariants.{NoEvent, OutOfRange, NotOut, NoRoom}
use Rattle.grounds.specs.declared.answer.Answer.{Answer}
use Rattle.grounds.specs.declared.answer.Answer.TheVariants.{Refused, Done, Place, Number, Overrun, Harmed, Whole}
use Rattle.grounds.specs.Lists.{bytes}
use Rattle.grounds.specs.Events.{no_event, answer_fits}
use Rattle.codec.specs.Bytes.{number_length, number_of, event_bytes, answer_bytes, carried, Longest}

-- ---- what is promised of reading

-- `back`: what was written is read back. `only`: nothing else reads as an event, so each has one spelling. `garbled`: where bytes cease to be one.
pub record Reads (bs : List ℕ) (e : Event) : Type 0 where
  pub back : (d : Event) → carried d ≡ true → bs ≡ event_bytes d → e ≡ d
  pub only : no_event e ≡ false → (carried e ≡ true) × (bs ≡ event_bytes e)
  pub garbled : (n : ℕ) → e ≡ Garbled n → Longest bs n

pub record ReadsAnswer (bs : List ℕ) (r : Option Answer) : Type 0 where
  pub back : (x : Answer) → answer_fits x ≡ true → bs ≡ answer_bytes x → r ≡ Some x
  pub only : (x : Answer) → r ≡ Some x → (answer_fits x ≡ true) × (bs ≡ answer_bytes x)

-- ---- and of writing

abbrev pub Writes : List ℕ → List ℕ → List ℕ → Option ℕ → Type 0
Writes bs old new None = (length old < length bs) × (new ≡ old)
Writes bs old new (Some n) = (n ≡ length bs) × (n ≤ length old) × (new ≡ bs ++ drop n old)

-- what stands for bytes that are no event is not written
abbrev pub WritesEvent : Event → List ℕ → List ℕ → Option ℕ → Type 0
WritesEvent e old new r = cond (no_event e) ((r ≡ None) × (new ≡ old)) (Writes (event_bytes e) old new r)

-- ---- what is read, as a function

abbrev pub numbered : ℕ → ℕ → Event
numbered t n = cond (t == 0) (Get n) (cond (t == 1) (Give n) (Size n))

-- an event's number below 3 is followed by one number, and 3 by nothing
abbrev pub event_of : List ℕ → Event
event_of [] = Garbled 0
event_of (t ∷ bs) =
    cond
    (nat_lt t 3)
    (cond (length bs == number_length) (numbered t (number_of bs)) (Garbled (suc (min (length bs) number_length))))
    (cond (t == 3) (cond (length bs == 0) Look (Garbled 1)) (Garbled 0))

abbrev pub refusal_of : ℕ → Option Refusal
refusal_of n = cond (n == 1) (Some NoEvent) (cond (n == 2) (Some OutOfRange) (cond (n == 3) (Some NotOut) (cond (n == 4) (Some NoRoom) None)))

abbrev pub alone : ℕ → Option Answer
alone t = cond (t == 1) (Some Done) (cond (t == 6) (Some Whole) None)

abbrev pub with_one : ℕ → ℕ → Option Answer
with_one t n = cond (t == 2) (Some (Place n)) (cond (t == 3) (Some (Number n)) (cond (t == 4) (Some (Overrun n)) (cond (t == 5) (Some (Harmed n)) None)))

abbrev pub with_two : ℕ → ℕ → ℕ → Option Answer
with_two t m n = cond (t == 0) (option_map (λ r. Refused r n) (refusal_of m)) None

abbrev pub answer_of : List ℕ → Option Answer
answer_of [] = None
answer_of (t ∷ bs) =
    cond
    (length bs == 0)
    (alone t)
    (cond
    (length bs == number_length)
    (with_one t (number_of bs))
    (cond
    (length bs == 2 * number_length)
    (with_two t (number_of (take number_length bs)) (number_of (drop number_length bs)))
    None))

-- ---- the statements

-- Each event that bytes can carry, and each answer, is read back as it was written.
abbrev pub ReadBack : Type 0
ReadBack =
    ((e : Event) → carried e ≡ true → event_of (event_bytes e) ≡ e) × ((x : Answer) → answer_fits x ≡ true → answer_of (answer_bytes x) ≡ Some x)

-- Only those bytes read as it, so each has one spelling.
abbrev pub OneSpelling : Type 0
OneSpelling =
    ((bs : List ℕ) (e : Event) → bytes bs ≡ true → event_of bs ≡ e → no_event e ≡ false → (carried e ≡ true) × (bs ≡ event_bytes e))
    × ((bs : List ℕ) (x : Answer) → bytes bs ≡ true → answer_of bs ≡ Some x → (answer_fits x ≡ true) × (bs ≡ answer_bytes x))

-- Bytes that are no event are garbled at the end of their longest front that could begin one.
abbrev pub GarbledWhere : Type 0
GarbledWhere = (bs : List ℕ) (n : ℕ) → bytes bs ≡ true → event_of bs ≡ Garbled n → Longest bs n

-- There is one right reading of any bytes.
abbrev pub OneReading : Type 0
OneReading =
    ((bs : List ℕ) (d e : Event) → Reads bs d → Reads bs e → d ≡ e)
    × ((bs : List ℕ) (q r : Option Answer) → ReadsAnswer bs q → ReadsAnswer bs r → q ≡ r)
