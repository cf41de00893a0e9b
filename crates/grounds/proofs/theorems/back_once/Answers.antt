use Rattle.grounds.proofs.Gives.{back_once}
use Rattle.grounds.proofs.theorems.back_once.Goals as goal

pub returns : goal.returns
returns c = back_once
