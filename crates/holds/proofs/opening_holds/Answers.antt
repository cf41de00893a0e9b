use Rattle.holds.proofs.AtFirst.{opened_holds}
use Rattle.holds.proofs.opening_holds.Goals as goal

pub returns : goal.returns
returns c = opened_holds
