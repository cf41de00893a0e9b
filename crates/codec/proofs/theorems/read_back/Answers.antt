use Rattle.codec.proofs.Answers.{answer_back}
use Rattle.codec.proofs.Events.{event_back}
use Rattle.codec.proofs.theorems.read_back.Goals as goal

pub returns : goal.returns
returns c = (event_back, answer_back)
