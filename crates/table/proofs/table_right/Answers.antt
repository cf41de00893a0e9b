use Rattle.table.proofs.TableRight.{table_right}
use Rattle.table.proofs.table_right.Goals as goal

pub returns : goal.returns
returns c = table_right
