use Rattle.grounds.proofs.Changes.{nothing_else}
use Rattle.grounds.proofs.theorems.nothing_else.Goals as goal

pub returns : goal.returns
returns c = nothing_else
