use Rattle.grounds.proofs.Gets.{room_for_one_more}
use Rattle.grounds.proofs.theorems.room_for_many.Goals as goal

pub returns : goal.returns
returns c = room_for_one_more
