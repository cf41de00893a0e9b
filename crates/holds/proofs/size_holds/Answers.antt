use Rattle.holds.proofs.Sized.{sized_holds}
use Rattle.holds.proofs.size_holds.Goals as goal

pub returns : goal.returns
returns c = λ can l t m s n good holds page_in unit_in small. sized_holds l t m s good.few_classes holds page_in unit_in n small
