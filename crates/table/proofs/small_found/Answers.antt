use Rattle.table.proofs.Places.{found_small_right}
use Rattle.table.proofs.small_found.Goals as goal

pub returns : goal.returns
returns c = λ can l t s n good stands some. found_small_right can l good t s stands.pieces n some
