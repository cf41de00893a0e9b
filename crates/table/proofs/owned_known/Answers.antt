use Rattle.table.proofs.Looks.{owned_known}
use Rattle.table.proofs.owned_known.Goals as goal

pub returns : goal.returns
returns c = owned_known
