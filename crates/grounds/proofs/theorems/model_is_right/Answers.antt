use Rattle.grounds.proofs.Model.{model_right}
use Rattle.grounds.proofs.theorems.model_is_right.Goals as goal

pub returns : goal.returns
returns c = model_right
