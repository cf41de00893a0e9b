use Rattle.limits.proofs.Lookups.{lookup_right}
use Rattle.limits.proofs.lookup.lookup_is_right.Goals as goal

pub returns : goal.returns
returns c = lookup_right
