use Rattle.keeper.proofs.Right.{keeper_right}
use Rattle.keeper.proofs.keeper_is_right.Goals as goal

pub returns : goal.returns
returns c = keeper_right
