use Rattle.grounds.proofs.Spoils.{spoilt_found}
use Rattle.grounds.proofs.theorems.spoilt_found.Goals as goal

pub returns : goal.returns
returns c = spoilt_found
