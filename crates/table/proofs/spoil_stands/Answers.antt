use Rattle.table.proofs.Standing.{spoilt_stands}
use Rattle.table.proofs.spoil_stands.Goals as goal
use Rattle.grounds.specs.Grounds.{after}

pub returns : goal.returns
unfolding after
returns c = λ can l t s n a good stands may. spoilt_stands can l good t s stands n a may
