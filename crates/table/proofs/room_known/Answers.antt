use Rattle.table.proofs.Runs.{room_known}
use Rattle.table.proofs.room_known.Goals as goal

pub returns : goal.returns
returns c = room_known
