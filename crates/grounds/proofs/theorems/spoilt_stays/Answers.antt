use Rattle.grounds.proofs.Spoils.{spoilt_stays}
use Rattle.grounds.proofs.theorems.spoilt_stays.Goals as goal

pub returns : goal.returns
returns c = spoilt_stays
