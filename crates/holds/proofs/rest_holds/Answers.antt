use Rattle.holds.proofs.Ended.{given_holds}
use Rattle.holds.proofs.rest_holds.Goals as goal

pub returns : goal.returns
returns c = λ can l t s m a kept some. given_holds can l kept.good t s kept.stands m kept.holds kept.small a some
