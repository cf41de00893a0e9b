use Rattle.keeper.proofs.Right.{keeper_lengths}
use Rattle.keeper.proofs.keeper_minds_lengths.Goals as goal

pub returns : goal.returns
returns c = keeper_lengths
