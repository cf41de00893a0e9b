use Rattle.keeper.proofs.Right.{keeper_lowest}
use Rattle.keeper.proofs.keeper_is_lowest.Goals as goal

pub returns : goal.returns
returns c = keeper_lowest
