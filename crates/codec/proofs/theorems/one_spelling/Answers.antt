use Rattle.codec.proofs.Answers.{answer_only}
use Rattle.codec.proofs.Events.{event_only}
use Rattle.codec.proofs.theorems.one_spelling.Goals as goal

pub returns : goal.returns
returns c = (λ bs e small. event_only bs small e, λ bs x small. answer_only bs small x)
