use Rattle.table.proofs.Standing.{got_stands}
use Rattle.table.proofs.get_stands.Goals as goal
use Rattle.grounds.specs.Grounds.{after}

pub returns : goal.returns
unfolding after
returns c = λ can l t s n a good stands may some. got_stands can l good t s stands n a may some
