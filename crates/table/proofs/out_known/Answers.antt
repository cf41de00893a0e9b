use Rattle.table.proofs.Outs.{out_known}
use Rattle.table.proofs.out_known.Goals as goal

pub returns : goal.returns
returns c = out_known
