use Rattle.holds.proofs.Sized.{spoilt_holds}
use Rattle.holds.proofs.spoil_holds.Goals as goal

pub returns : goal.returns
returns c = λ can l t m s good holds page_in unit_in. spoilt_holds l t m s good.few_classes holds page_in unit_in
