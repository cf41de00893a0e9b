-- The keeper as a program: what its functions' contracts say. Assumes nothing: these are definitions.
--     limits_good l         whether an opening with l is taken, and may_open m g l, whether it is with the memory m and the ground g
--     keeper                what an opening and an event do, for every memory and every ground
use Rattle.std.specs.Prelude.{ℕ, Bool, cond, ◌&&◌, List, length, ◌==◌, nat_le, nat_lt}
use Rattle.grounds.specs.declared.answer.Refusal.TheVariants.{OutOfRange}
use Rattle.grounds.specs.declared.answer.Answer.TheVariants.{Refused, Done}
use Rattle.grounds.specs.Numbers.{mark_length, most_pages, most_classes, most_rests, byte}
use Rattle.grounds.specs.Lists.{every}
use Rattle.grounds.specs.Blocks.{Limits, ground_size, memory_words}
use Rattle.grounds.specs.Worlds.{rising, Program}
use Rattle.opening.specs.Opening.{opened}
use Rattle.keeper.specs.Outcomes.{outcome}

abbrev pub limits_good : Limits → Bool
limits_good l =
    ((nat_lt 0 l.pages && nat_le l.pages most_pages) && nat_le l.rests most_rests)
    && (((nat_lt 0 (length l.classes) && nat_le (length l.classes) most_classes) && rising 0 l.classes)
    && (length l.marks == mark_length && every (λ b. nat_lt 0 b && nat_lt b byte) l.marks))

unfoldable pub may_open : List ℕ → List ℕ → Limits → Bool
may_open m g l = limits_good l && (length m == memory_words l && length g == ground_size l)

abbrev pub keeper : Program
keeper =
    record {
      opened = opened;
      opens = λ m g l. cond (may_open m g l) Done (Refused OutOfRange 0);
      prepared = λ m g l. cond (may_open m g l) (opened l) m;
      answers = λ m g e. (outcome m g e).answer;
      called = λ m g e. (outcome m g e).memory;
      leaves = λ m g e. (outcome m g e).ground;
    }
