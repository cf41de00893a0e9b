use Rattle.std.proofs.Common.{map, length}
use Rattle.script.specs.Words.{left}
use Rattle.script.proofs.Listed.{Sofar}
use Rattle.script.proofs.words.Words.take_numbers.Given as goal

abbrev pub invariant-loop-number : goal.invariant-loop-number
invariant-loop-number g l = Sofar g.T.Decimal.limit (left l.initial.self) (map g.T.Decimal.value l.numbers.items) (left l.self)

abbrev pub decreases-loop-number : goal.decreases-loop-number
decreases-loop-number g l = length (left l.self)
