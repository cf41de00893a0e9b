use Rattle.keeper.proofs.Right.{keeper_opening}
use Rattle.keeper.proofs.keeper_opens.Goals as goal

pub returns : goal.returns
returns c = keeper_opening
