use Rattle.grounds.proofs.Classes.{little_more}
use Rattle.grounds.proofs.theorems.little_more.Goals as goal

pub returns : goal.returns
returns c = little_more
