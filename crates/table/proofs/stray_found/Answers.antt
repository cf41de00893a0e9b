use Rattle.table.proofs.Looks.{stray_found}
use Rattle.table.proofs.stray_found.Goals as goal

pub returns : goal.returns
returns c = stray_found
