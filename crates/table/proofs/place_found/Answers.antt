use Rattle.table.proofs.Runs.{place_found}
use Rattle.table.proofs.place_found.Goals as goal

pub returns : goal.returns
returns c = place_found
