-- The one answer under the rule of the lowest place: a get takes the lowest place where its piece may be, and a look tells the lowest mark that
-- was changed or, if none was, the lowest byte that is harmed. Then the answer is a function of what was asked and written. Assumes nothing.
--     lowest_place l s n      the lowest place where a piece of n bytes may be; the ground's length where there is none
--     the_answer l s g e      what is answered to e
use Rattle.std.specs.Prelude.{ℕ, cond, not, ◌&&◌, List, Some, None, Option, ◌==◌, nat_lt}
use Rattle.grounds.specs.declared.event.Event.{Event}
use Rattle.grounds.specs.declared.event.Event.TheVariants.{Get, Give, Size, Look, Garbled}
use Rattle.grounds.specs.declared.answer.Refusal.{Refusal}
use Rattle.grounds.specs.declared.answer.Refusal.TheVariants.{NoEvent}
use Rattle.grounds.specs.declared.answer.Answer.{Answer}
use Rattle.grounds.specs.declared.answer.Answer.TheVariants.{Refused, Done, Place, Number, Overrun, Harmed, Whole}
use Rattle.grounds.specs.Lists.{any, first}
use Rattle.grounds.specs.Blocks.{Limits, ground_size, may_be}
use Rattle.grounds.specs.Grounds.{State, all_blocks, out_at, mark_place, marked, turned, place_of, byte_whole, clean_there}

abbrev pub lowest_place : Limits → State → ℕ → ℕ
lowest_place l s n = first (λ a. may_be l n a (all_blocks s)) (ground_size l)

-- the lowest place of a mark that was changed; the ground's length where there is none
abbrev pub lowest_overrun : Limits → State → List ℕ → ℕ
lowest_overrun l s g = first (λ a. any (λ b. (mark_place b == a) && not (marked l g b)) s.out) (ground_size l)

-- the lowest byte that is not whole; the ground's length where there is none
abbrev pub lowest_harm : Limits → State → List ℕ → ℕ
lowest_harm l s g = first (λ a. not (byte_whole s g a)) (ground_size l)

unfoldable pub look_answer : Limits → State → List ℕ → Answer
look_answer l s g =
    let m : ℕ = lowest_overrun l s g in
    let h : ℕ = lowest_harm l s g in
    cond (nat_lt m (ground_size l)) (Overrun m) (cond (nat_lt h (ground_size l)) (Harmed h) Whole)

-- what is answered to an event that is not turned away
unfoldable pub lowest_answer : Limits → State → List ℕ → Event → Answer
lowest_answer l s g (Get n) = let a : ℕ = lowest_place l s n in cond (clean_there l g n a) (Place a) (Harmed a)
lowest_answer l s g (Give b) = cond (marked l g (out_at s b)) Done (Overrun (mark_place (out_at s b)))
lowest_answer l s g (Size b) = Number (out_at s b).size
lowest_answer l s g Look = look_answer l s g
lowest_answer l s g (Garbled n) = Refused NoEvent n

unfoldable pub by_turned : Option Refusal → ℕ → Answer → Answer
by_turned None a x = x
by_turned (Some r) a x = Refused r a

abbrev pub the_answer : Limits → State → List ℕ → Event → Answer
the_answer l s g e = by_turned (turned l s e) (place_of e) (lowest_answer l s g e)
