use Rattle.std.proofs.lemmas.Bool.Decides.{nat_tests}
use Rattle.std.proofs.Common.{arith}
use Rattle.index.specs.Index.{high_after}
use Rattle.index.proofs.edit.high_after.Goals as goal

pub returns-then-low-eq0 : goal.returns-then-low-eq0
unfolding high_after
returns-then-low-eq0 c = grind (arith, nat_tests)

pub returns-else-low-eq0 : goal.returns-else-low-eq0
unfolding high_after
returns-else-low-eq0 c = grind (arith, nat_tests)
