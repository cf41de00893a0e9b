use Rattle.grounds.proofs.Gets.{got_is_zero}
use Rattle.grounds.proofs.theorems.got_is_zero.Goals as goal

pub returns : goal.returns
returns c = got_is_zero
