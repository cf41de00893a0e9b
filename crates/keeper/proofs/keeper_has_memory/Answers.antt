use Rattle.keeper.proofs.Right.{keeper_memory}
use Rattle.keeper.proofs.keeper_has_memory.Goals as goal

pub returns : goal.returns
returns c = keeper_memory
