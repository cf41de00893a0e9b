use Rattle.grounds.proofs.Gets.{nothing_leaks}
use Rattle.grounds.proofs.theorems.nothing_leaks.Goals as goal

pub returns : goal.returns
returns c = nothing_leaks
