use Rattle.grounds.proofs.Kept.{nobody_elses}
use Rattle.grounds.proofs.theorems.nobody_elses.Goals as goal

pub returns : goal.returns
returns c = nobody_elses
