use Rattle.grounds.proofs.Gives.{out_keeps}
use Rattle.grounds.proofs.theorems.out_keeps.Goals as goal

pub returns : goal.returns
returns c = out_keeps
