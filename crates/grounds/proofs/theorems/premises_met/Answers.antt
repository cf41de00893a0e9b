use Rattle.grounds.proofs.Examples.{premises_met}
use Rattle.grounds.proofs.theorems.premises_met.Goals as goal

pub returns : goal.returns
returns c = premises_met
