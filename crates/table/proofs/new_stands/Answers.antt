use Rattle.table.proofs.Steps.{new_stands}
use Rattle.table.proofs.new_stands.Goals as goal

pub returns : goal.returns
returns c = new_stands
