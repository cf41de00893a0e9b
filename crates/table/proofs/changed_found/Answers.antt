use Rattle.table.proofs.Looks.{changed_found}
use Rattle.table.proofs.changed_found.Goals as goal

pub returns : goal.returns
returns c = changed_found
