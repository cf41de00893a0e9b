use Rattle.codec.proofs.OneReading.{one_event, one_answer}
use Rattle.codec.proofs.theorems.one_reading.Goals as goal

pub returns : goal.returns
returns c = (one_event, one_answer)
