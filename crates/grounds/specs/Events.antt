-- What is asked of the keeper and what it answers, with the number and the values of each. Assumes nothing: these are definitions.
--     Event, Answer, Refusal    enums of the code (src/event.rt, src/answer.rt)
--     EventKind, AnswerKind     their kinds, enums of the code too
--     event_number e, event_values e      an event's number, and what it carries; the same of an answer, and the number of a refusal
--     event_kind e, event_kind_number k   an event's kind, and the number that the events of a kind go by; the same of an answer
--     GoesBy f n r      r is what goes by n, where f tells the number that each goes by; or it is an error, and nothing goes by n
--     no_event e        whether e stands for bytes that are no event
--     fits n            whether eight bytes hold n
--     readable e        whether bytes can carry what e carries; answer_fits x, the same of an answer
--     is_harm x         whether an answer tells of harm: overrun or harmed
use Rattle.std.specs.Prelude.{◌≡◌, ◌≢◌, ℕ, Bool, ◌||◌, List, [], ◌∷◌, ◌==◌, nat_lt, Result, MatchResult}
use Rattle.grounds.specs.declared.event.Event.{Event}
use Rattle.grounds.specs.declared.event.EventKind.{EventKind}
use Rattle.grounds.specs.declared.event.Event.TheVariants.{Get, Give, Size, Look, Garbled}
use Rattle.grounds.specs.declared.answer.Refusal.{Refusal}
use Rattle.grounds.specs.declared.answer.Refusal.TheVariants.{NoEvent, OutOfRange, NotOut, NoRoom}
use Rattle.grounds.specs.declared.answer.Answer.{Answer}
use Rattle.grounds.specs.declared.answer.Answer.TheVariants.{Refused, Done, Place, Number, Overrun, Harmed, Whole}
use Rattle.grounds.specs.declared.answer.AnswerKind.{AnswerKind}
use Rattle.grounds.specs.Numbers.{word}
use Rattle.grounds.specs.Lists.{all_below}

abbrev pub event_kind : Event → EventKind
event_kind (Get n) = EventKind.Get
event_kind (Give a) = EventKind.Give
event_kind (Size a) = EventKind.Size
event_kind Look = EventKind.Look
event_kind (Garbled n) = EventKind.Garbled

abbrev pub event_kind_number : EventKind → ℕ
event_kind_number EventKind.Get = 0
event_kind_number EventKind.Give = 1
event_kind_number EventKind.Size = 2
event_kind_number EventKind.Look = 3
event_kind_number EventKind.Garbled = 255

abbrev pub event_number : Event → ℕ
event_number e = event_kind_number (event_kind e)

abbrev pub event_values : Event → List ℕ
event_values (Get n) = n ∷ []
event_values (Give a) = a ∷ []
event_values (Size a) = a ∷ []
event_values Look = []
event_values (Garbled n) = n ∷ []

abbrev pub refusal_number : Refusal → ℕ
refusal_number NoEvent = 1
refusal_number OutOfRange = 2
refusal_number NotOut = 3
refusal_number NoRoom = 4

abbrev pub answer_kind : Answer → AnswerKind
answer_kind (Refused r a) = AnswerKind.Refused
answer_kind Done = AnswerKind.Done
answer_kind (Place a) = AnswerKind.Place
answer_kind (Number n) = AnswerKind.Number
answer_kind (Overrun a) = AnswerKind.Overrun
answer_kind (Harmed a) = AnswerKind.Harmed
answer_kind Whole = AnswerKind.Whole

abbrev pub answer_kind_number : AnswerKind → ℕ
answer_kind_number AnswerKind.Refused = 0
answer_kind_number AnswerKind.Done = 1
answer_kind_number AnswerKind.Place = 2
answer_kind_number AnswerKind.Number = 3
answer_kind_number AnswerKind.Overrun = 4
answer_kind_number AnswerKind.Harmed = 5
answer_kind_number AnswerKind.Whole = 6

abbrev pub answer_number : Answer → ℕ
answer_number x = answer_kind_number (answer_kind x)

abbrev pub answer_values : Answer → List ℕ
answer_values (Refused r a) = refusal_number r ∷ a ∷ []
answer_values Done = []
answer_values (Place a) = a ∷ []
answer_values (Number n) = n ∷ []
answer_values (Overrun a) = a ∷ []
answer_values (Harmed a) = a ∷ []
answer_values Whole = []

abbrev pub GoesBy : {X E : Type 0} → (X → ℕ) → ℕ → Result X E → Type 0
GoesBy number n r = MatchResult r (λ x. number x ≡ n) (λ _. (x : _) → number x ≢ n)

abbrev pub no_event : Event → Bool
no_event e = event_number e == 255

abbrev pub fits : ℕ → Bool
fits n = nat_lt n word

abbrev pub readable : Event → Bool
readable e = all_below word (event_values e)

abbrev pub answer_fits : Answer → Bool
answer_fits x = all_below word (answer_values x)

abbrev pub is_harm : Answer → Bool
is_harm x = answer_number x == 4 || answer_number x == 5
