-- Limits as the code has them, and what they stand for. Assumes nothing: this is a definition.
--     limits_in can x      the limits that x stands for, of a keeper that can do the events that `can` says
use Rattle.std.specs.Prelude.{ℕ, Bool}
use Rattle.grounds.specs.Blocks.{Limits}
use Rattle.limits.specs.declared.limits.Limits.{Limits as Given}

abbrev pub limits_in : (ℕ → Bool) → Given → Limits
limits_in can x = record { events_can = can; pages = x.pages; classes = x.classes.now; rests = x.rests; marks = x.marks }
