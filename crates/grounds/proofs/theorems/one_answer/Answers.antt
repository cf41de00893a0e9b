use Rattle.grounds.proofs.OneAnswer.{one_answer}
use Rattle.grounds.proofs.theorems.one_answer.Goals as goal

pub returns : goal.returns
returns c = one_answer
