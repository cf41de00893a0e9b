use Rattle.codec.proofs.Events.{event_where}
use Rattle.codec.proofs.theorems.garbled_where.Goals as goal

pub returns : goal.returns
returns c = λ bs n small. event_where bs small n
