-- A keeper as a program over lent memory and a lent ground, and everything that can happen. Assumes nothing: these are definitions.
--     Program           what the contracts of the keeper's functions say
--     World             a ground, the keeper's memory, and what has become of the pieces by what was answered
--     Lived f l w       w is a world that f and anybody else can bring about, from an opening with the limits l on
--     LivedWell f l w   the same, where others keep to their own: they write only in pieces that are out, and no further than was asked for
--     GoodLimits can l limits with which an opening is taken, by a keeper that can do the events that `can` says
use Rattle.std.specs.Prelude.{◌≡◌, ℕ, ◌+◌, ◌%◌, ◌<◌, ◌≤◌, Bool, true, ◌&&◌, List, [], ◌∷◌, length, replicate, ◌==◌, nat_le, nat_lt}
use Rattle.std.specs.List.{AllByRecursion}
use Rattle.grounds.specs.declared.block.Block.{Block}
use Rattle.grounds.specs.declared.event.Event.{Event}
use Rattle.grounds.specs.declared.answer.Answer.{Answer}
use Rattle.grounds.specs.Numbers.{page, grain, mark_length, most_pages, most_classes, most_rests, byte}
use Rattle.grounds.specs.Lists.{any, over, bytes}
use Rattle.grounds.specs.Blocks.{Limits, ground_size}
use Rattle.grounds.specs.Events.{readable}
use Rattle.grounds.specs.Grounds.{State, new_state, after}

-- each class is a multiple of the grain, no more than a page, and above the one before
abbrev pub rising : ℕ → List ℕ → Bool
rising k [] = true
rising k (c ∷ cs) = ((nat_lt k c && c % grain == 0) && nat_le c page) && rising c cs

pub record GoodLimits (can : ℕ → Bool) (l : Limits) : Type 0 where
  pub some_pages : 1 ≤ l.pages
  pub few_pages : l.pages ≤ most_pages
  pub some_classes : 1 ≤ length l.classes
  pub few_classes : length l.classes ≤ most_classes
  pub classes_rise : rising 0 l.classes ≡ true
  pub few_rest : l.rests ≤ most_rests
  pub mark_long : length l.marks ≡ mark_length
  pub mark_bytes : AllByRecursion (λ b. (1 ≤ b) × (b < byte)) l.marks
  pub cans : (k : ℕ) → l.events_can k ≡ can k

-- memory and ground come first, as they are lent; `opens` and `prepared` are of an opening, which does not write on the ground
pub record Program : Type 0 where
  pub opened : Limits → List ℕ  -- memory after an opening that is taken
  pub opens : List ℕ → List ℕ → Limits → Answer  -- what an opening answers
  pub prepared : List ℕ → List ℕ → Limits → List ℕ  -- memory after any opening
  pub answers : List ℕ → List ℕ → Event → Answer  -- what an event is answered
  pub called : List ℕ → List ℕ → Event → List ℕ  -- memory after it
  pub leaves : List ℕ → List ℕ → Event → List ℕ  -- the ground after it

pub record World : Type 0 where
  pub ground : List ℕ
  pub memory : List ℕ
  pub state : State

abbrev pub new_world : Program → Limits → World
new_world f l = record { ground = replicate (ground_size l) 0; memory = f.opened l; state = new_state }

abbrev pub asked : Program → Limits → World → Event → World
asked f l w e =
    record {
      ground = f.leaves w.memory w.ground e;
      memory = f.called w.memory w.ground e;
      state = after l w.state e (f.answers w.memory w.ground e);
    }

abbrev pub written : World → ℕ → List ℕ → World
written w a bs = record { ground = over a bs w.ground; memory = w.memory; state = w.state }

-- everything that can happen, in any order: something is asked; somebody writes bytes on the ground, wherever they like
pub data Lived (f : Program) (l : Limits) : World → Type 0 where
  new : Lived f l (new_world f l)
  asks : {w : World} (e : Event) → readable e ≡ true → Lived f l w → Lived f l (asked f l w e)
  writes : {w : World} (a : ℕ) (bs : List ℕ) → Lived f l w → a + length bs ≤ ground_size l → bytes bs ≡ true → Lived f l (written w a bs)

abbrev pub may_write : ℕ → ℕ → List Block → Bool
may_write a n = any (λ b. nat_le b.at a && nat_le (a + n) (b.at + b.size))

pub data LivedWell (f : Program) (l : Limits) : World → Type 0 where
  new : LivedWell f l (new_world f l)
  asks : {w : World} (e : Event) → readable e ≡ true → LivedWell f l w → LivedWell f l (asked f l w e)
  writes : {w : World} (a : ℕ) (bs : List ℕ) → LivedWell f l w → may_write a (length bs) w.state.out ≡ true → bytes bs ≡ true →
      LivedWell f l (written w a bs)
