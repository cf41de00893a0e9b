use Rattle.std.proofs.lemmas.Bool.Decides.{nat_tests}
use Rattle.std.proofs.Common.{arith}
use Rattle.ring.specs.Ring.{before}
use Rattle.ring.proofs.Ring.before.Goals as goal

pub returns-then-slot-eq0-clause-value : goal.returns-then-slot-eq0-clause-value
unfolding before
returns-then-slot-eq0-clause-value c = grind (arith, nat_tests)

pub returns-else-slot-eq0-clause-value : goal.returns-else-slot-eq0-clause-value
unfolding before
returns-else-slot-eq0-clause-value c = grind (arith, nat_tests)
