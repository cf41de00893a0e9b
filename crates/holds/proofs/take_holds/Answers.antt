use Rattle.holds.proofs.Placed.{placed_holds}
use Rattle.holds.proofs.take_holds.Goals as goal

pub returns : goal.returns
returns c = λ can l t s m n kept well there. placed_holds can l kept.good t s kept.stands m kept.holds n well there
