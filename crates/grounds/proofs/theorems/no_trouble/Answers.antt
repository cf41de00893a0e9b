use Rattle.grounds.proofs.NoTrouble.{no_trouble}
use Rattle.grounds.proofs.theorems.no_trouble.Goals as goal

pub returns : goal.returns
returns c = no_trouble
