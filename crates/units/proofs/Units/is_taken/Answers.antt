use Rattle.units.specs.Units.{unit_bit}
use Rattle.units.proofs.Units.is_taken.Goals as goal

pub returns : goal.returns
unfolding unit_bit
returns c = cc
