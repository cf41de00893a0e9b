use Rattle.std.proofs.Common.{sym, subst}
use Rattle.grounds.specs.declared.block.Block.{Block}
use Rattle.grounds.specs.Grounds.{after}
use Rattle.grounds.proofs.Happened.{one_overrun, out_found}
use Rattle.table.specs.Table.{marked_spoilt, sized}
use Rattle.table.specs.Stands.{Stands}
use Rattle.table.proofs.Standing.{overrun_stands}
use Rattle.table.proofs.overrun_stands.Goals as goal

pub returns : goal.returns
unfolding after
returns c =
    λ can l t s a b good stands f.
    subst (λ (d : Block). Stands l (marked_spoilt (sized t a 0) a) (one_overrun s a d)) (sym (out_found s a b f)) (overrun_stands can l good t s stands a b f)
