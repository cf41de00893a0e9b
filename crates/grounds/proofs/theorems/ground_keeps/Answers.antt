use Rattle.grounds.proofs.Kept.{ground_keeps}
use Rattle.grounds.proofs.theorems.ground_keeps.Goals as goal

pub returns : goal.returns
returns c = ground_keeps
