use Rattle.grounds.proofs.Model.{model_lowest}
use Rattle.grounds.proofs.theorems.model_is_lowest.Goals as goal

pub returns : goal.returns
returns c = model_lowest
