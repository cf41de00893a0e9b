use Rattle.table.proofs.Runs.{run_found}
use Rattle.table.proofs.run_found.Goals as goal

pub returns : goal.returns
returns c = run_found
