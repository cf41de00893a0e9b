use Rattle.grounds.proofs.Gives.{found_exactly}
use Rattle.grounds.proofs.theorems.found_exactly.Goals as goal

pub returns : goal.returns
returns c = found_exactly
