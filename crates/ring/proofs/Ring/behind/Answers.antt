use Rattle.std.proofs.lemmas.Bool.Decides.{nat_tests}
use Rattle.std.proofs.Common.{arith}
use Rattle.ring.specs.Ring.{wrap}
use Rattle.ring.proofs.Ring.behind.Goals as goal

pub returns-then-after-left : goal.returns-then-after-left
unfolding wrap
returns-then-after-left c = grind (arith, nat_tests)

pub returns-else-after-left : goal.returns-else-after-left
unfolding wrap
returns-else-after-left c = grind (arith, nat_tests)
