use Rattle.std.proofs.Common.{◌≡◌}
use Rattle.units.specs.Units.{with_copy}
use Rattle.units.proofs.Units.copy_from.Given as goal

abbrev pub invariant-loop-i : goal.invariant-loop-i
invariant-loop-i l = l.memory ≡ with_copy l.initial.memory l.fn.from.at l.fn.self.at l.i
