use Rattle.grounds.proofs.Gets.{rests}
use Rattle.grounds.proofs.theorems.rests.Goals as goal

pub returns : goal.returns
returns c = rests
