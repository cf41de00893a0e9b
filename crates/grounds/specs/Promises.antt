-- What is promised of a keeper: each is a statement, a type whose proof is owed. What follows from these for any keeper is in Statements.antt.
-- Assumes nothing.
--     RightAnswer l s g e x       x is a right answer to e, where the pieces are s and the ground is g
--     TurnedAway f m g e r        f turns e away for the reason r, and changes nothing
--     thin, all                   what the first stage can do, and what the whole keeper can
use Rattle.std.specs.Prelude.{◌≡◌, ℕ, ◌<◌, Bool, true, false, cond, List, ◌∷◌, ◌++◌, length, take, Some, None, ◌≢◌, nat_lt}
use Rattle.grounds.specs.declared.block.Block.{Block}
use Rattle.grounds.specs.declared.event.Event.{Event}
use Rattle.grounds.specs.declared.event.Event.TheVariants.{Get, Give, Size, Look, Garbled}
use Rattle.grounds.specs.declared.answer.Refusal.{Refusal}
use Rattle.grounds.specs.declared.answer.Refusal.TheVariants.{NoEvent, OutOfRange}
use Rattle.grounds.specs.declared.answer.Answer.{Answer}
use Rattle.grounds.specs.declared.answer.Answer.TheVariants.{Refused, Done, Place, Number, Overrun, Harmed, Whole}
use Rattle.grounds.specs.Numbers.{word}
use Rattle.grounds.specs.Lists.{all_below}
use Rattle.grounds.specs.Blocks.{Limits, ground_size, memory_words, may_be}
use Rattle.grounds.specs.Events.{no_event, readable, answer_fits}
use Rattle.grounds.specs.Grounds.{State, all_blocks, find, out_at, mark_place, marked, turned, place_of, ground_after, byte_whole, all_whole, clean_there}
use Rattle.grounds.specs.Lowest.{the_answer}
use Rattle.grounds.specs.Worlds.{GoodLimits, Program, World, Lived}

-- the first stage gets small pieces, gives back and tells sizes; the whole keeper also looks, and gets large pieces, for which 4 stands
abbrev pub thin : ℕ → Bool
thin k = nat_lt k 3

abbrev pub all : ℕ → Bool
all k = true

-- ---- right answers

-- Which place is told isn't said, only that the piece may be there, and that all there is 0. Harmed is a place that could have been it, but
-- for a byte that isn't 0. A give back is done where the mark is there, and else overrun, told with the mark's place. A look tells one mark that
-- isn't there, or one byte that isn't 0 and should be; or else whole.
unfoldable pub RightAnswer : Limits → State → List ℕ → Event → Answer → Type 0
RightAnswer l s g (Get n) (Refused r a) = ⊥
RightAnswer l s g (Get n) Done = ⊥
RightAnswer l s g (Get n) (Place a) = (may_be l n a (all_blocks s) ≡ true) × (clean_there l g n a ≡ true)
RightAnswer l s g (Get n) (Number m) = ⊥
RightAnswer l s g (Get n) (Overrun a) = ⊥
RightAnswer l s g (Get n) (Harmed a) = (may_be l n a (all_blocks s) ≡ true) × (clean_there l g n a ≡ false)
RightAnswer l s g (Get n) Whole = ⊥
RightAnswer l s g (Give b) (Refused r a) = ⊥
RightAnswer l s g (Give b) Done = marked l g (out_at s b) ≡ true
RightAnswer l s g (Give b) (Place a) = ⊥
RightAnswer l s g (Give b) (Number m) = ⊥
RightAnswer l s g (Give b) (Overrun a) = (a ≡ mark_place (out_at s b)) × (marked l g (out_at s b) ≡ false)
RightAnswer l s g (Give b) (Harmed a) = ⊥
RightAnswer l s g (Give b) Whole = ⊥
RightAnswer l s g (Size b) (Refused r a) = ⊥
RightAnswer l s g (Size b) Done = ⊥
RightAnswer l s g (Size b) (Place a) = ⊥
RightAnswer l s g (Size b) (Number m) = m ≡ (out_at s b).size
RightAnswer l s g (Size b) (Overrun a) = ⊥
RightAnswer l s g (Size b) (Harmed a) = ⊥
RightAnswer l s g (Size b) Whole = ⊥
RightAnswer l s g Look (Refused r a) = ⊥
RightAnswer l s g Look Done = ⊥
RightAnswer l s g Look (Place a) = ⊥
RightAnswer l s g Look (Number m) = ⊥
RightAnswer l s g Look (Overrun a) = (b : Block) × (find b.at s.out ≡ Some b) × (a ≡ mark_place b) × (marked l g b ≡ false)
RightAnswer l s g Look (Harmed a) = (a < ground_size l) × (byte_whole s g a ≡ false)
RightAnswer l s g Look Whole = all_whole l s g ≡ true
RightAnswer l s g (Garbled n) x = ⊥

pub record TurnedAway (f : Program) (m g : List ℕ) (e : Event) (r : Refusal) : Type 0 where
  pub told : f.answers m g e ≡ Refused r (place_of e)
  pub memory_kept : f.called m g e ≡ m
  pub ground_kept : f.leaves m g e ≡ g

pub record Taken (f : Program) (l : Limits) (w : World) (e : Event) : Type 0 where
  pub answer_right : RightAnswer l w.state w.ground e (f.answers w.memory w.ground e)
  pub ground_right : f.leaves w.memory w.ground e ≡ ground_after l w.state w.ground e (f.answers w.memory w.ground e)

pub record RightStep (f : Program) (l : Limits) (w : World) (e : Event) : Type 0 where
  pub away : (r : Refusal) → turned l w.state e ≡ Some r → TurnedAway f w.memory w.ground e r
  pub taken : turned l w.state e ≡ None → Taken f l w e

-- THE MAIN PROMISE: in any world, whatever was written on the ground, what is to be turned away is, for the first reason that holds, and
-- changes nothing; any other event has a right answer, and of the ground nothing is changed but what `ground_after` says.
abbrev pub Right : (ℕ → Bool) → Program → Type 0
Right can f = (l : Limits) (w : World) (e : Event) → GoodLimits can l → Lived f l w → readable e ≡ true → RightStep f l w e

-- An opening is taken exactly if the limits are good and memory and ground are as long as these say. Then memory is written, as a function of
-- the limits alone; else the answer is refused by 2, place 0, and memory stays. (An opening has no way to write on the ground.)
pub record MayOpen (can : ℕ → Bool) (m g : List ℕ) (l : Limits) : Type 0 where
  pub good : GoodLimits can l
  pub memory_long : length m ≡ memory_words l
  pub ground_long : length g ≡ ground_size l

abbrev pub RightOpening : (ℕ → Bool) → Program → Type 0
RightOpening can f =
    (m g : List ℕ) (l : Limits) → ((k : ℕ) → l.events_can k ≡ can k) →
    (MayOpen can m g l → (f.opens m g l ≡ Done) × (f.prepared m g l ≡ f.opened l))
    × ((MayOpen can m g l → ⊥) → (f.opens m g l ≡ Refused OutOfRange 0) × (f.prepared m g l ≡ m))

-- An event that is lent a ground of another length, or less or more memory, is refused by 2, place 0, with nothing changed; bytes that are no
-- event are refused by 1 there too.
abbrev pub unasked : Event → Refusal
unasked e = cond (no_event e) NoEvent OutOfRange

pub record TurnedByLength (f : Program) (l : Limits) (w : World) (e : Event) : Type 0 where
  pub other_ground : (g : List ℕ) → (length g ≢ ground_size l) → TurnedAway f w.memory g e (unasked e)
  pub less_memory : (k : ℕ) (g : List ℕ) → k < length w.memory → TurnedAway f (take k w.memory) g e (unasked e)
  pub more_memory : (x : ℕ) (xs g : List ℕ) → TurnedAway f (w.memory ++ (x ∷ xs)) g e (unasked e)

abbrev pub RightLengths : (ℕ → Bool) → Program → Type 0
RightLengths can f = (l : Limits) (w : World) (e : Event) → GoodLimits can l → Lived f l w → readable e ≡ true → TurnedByLength f l w e

-- Memory is as long as the limits say, exactly and always, and each of its numbers fits eight bytes.
abbrev pub EnoughMemory : (ℕ → Bool) → Program → Type 0
EnoughMemory can f =
    (l : Limits) (w : World) → GoodLimits can l → Lived f l w → (length w.memory ≡ memory_words l) × (all_below word w.memory ≡ true)

-- Each answer fits its bytes.
abbrev pub AnswersFit : (ℕ → Bool) → Program → Type 0
AnswersFit can f =
    (l : Limits) (w : World) (e : Event) → GoodLimits can l → Lived f l w → readable e ≡ true → answer_fits (f.answers w.memory w.ground e) ≡ true

-- The answer is the one under the rule of the lowest place.
abbrev pub Lowest : (ℕ → Bool) → Program → Type 0
Lowest can f =
    (l : Limits) (w : World) (e : Event) → GoodLimits can l → Lived f l w → readable e ≡ true →
    f.answers w.memory w.ground e ≡ the_answer l w.state w.ground e
