use Rattle.grounds.proofs.Gives.{mark_tells}
use Rattle.grounds.proofs.theorems.mark_tells.Goals as goal

pub returns : goal.returns
returns c = mark_tells
