use Rattle.grounds.proofs.Gets.{harm_is_there}
use Rattle.grounds.proofs.theorems.harm_is_there.Goals as goal

pub returns : goal.returns
returns c = harm_is_there
