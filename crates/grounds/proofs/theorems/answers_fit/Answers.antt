use Rattle.grounds.proofs.Fits.{answers_fit}
use Rattle.grounds.proofs.theorems.answers_fit.Goals as goal

pub returns : goal.returns
returns c = answers_fit
