-- The bytes of events and of answers. Assumes nothing: these are definitions.
--     low_first k n         n as k bytes, the lowest first
--     number_bytes n        n as eight bytes, the lowest first; number_of bs, the number that bytes hold so
--     event_bytes e         an event's number, as one byte, and then what it carries, as eight bytes each; answer_bytes x, the same of an answer
--     carried e             whether bytes can carry e: it is an event, and what it carries fits eight bytes
--     CouldBegin bs         some event's bytes begin with bs
--     Longest bs n          the first n of bs are its longest front that could begin an event
use Rattle.std.specs.Prelude.{◌≡◌, ℕ, zero, suc, ◌+◌, ◌*◌, ◌/◌, ◌%◌, ◌<◌, ◌≤◌, Bool, true, not, ◌&&◌, List, [], ◌∷◌, ◌++◌, length, take}
use Rattle.std.specs.List.{flat_map}
use Rattle.grounds.specs.declared.event.Event.{Event}
use Rattle.grounds.specs.declared.answer.Answer.{Answer}
use Rattle.grounds.specs.Numbers.{byte}
use Rattle.grounds.specs.Events.{event_number, event_values, answer_number, answer_values, no_event, readable}

abbrev pub number_length : ℕ
number_length = 8

abbrev pub low_first : ℕ → ℕ → List ℕ
low_first zero n = []
low_first (suc k) n = n % byte ∷ low_first k (n / byte)

abbrev pub number_bytes : ℕ → List ℕ
number_bytes n = low_first number_length n

abbrev pub number_of : List ℕ → ℕ
number_of [] = 0
number_of (b ∷ bs) = b + byte * number_of bs

abbrev pub event_bytes : Event → List ℕ
event_bytes e = event_number e ∷ flat_map number_bytes (event_values e)

abbrev pub answer_bytes : Answer → List ℕ
answer_bytes x = answer_number x ∷ flat_map number_bytes (answer_values x)

abbrev pub carried : Event → Bool
carried e = not (no_event e) && readable e

abbrev pub CouldBegin : List ℕ → Type 0
CouldBegin bs = (e : Event) × (rest : List ℕ) × (carried e ≡ true) × (event_bytes e ≡ bs ++ rest)

pub record Longest (bs : List ℕ) (n : ℕ) : Type 0 where
  pub within : n ≤ length bs
  pub begins : CouldBegin (take n bs)
  pub longest : (m : ℕ) → n < m → m ≤ length bs → CouldBegin (take m bs) → ⊥
