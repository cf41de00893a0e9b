use Rattle.std.proofs.Common.{sym, subst}
use Rattle.grounds.specs.declared.block.Block.{Block}
use Rattle.grounds.specs.Grounds.{after}
use Rattle.grounds.proofs.Happened.{one_rests, out_found}
use Rattle.table.specs.Table.{rested}
use Rattle.table.specs.Stands.{Stands}
use Rattle.table.proofs.Standing.{rest_stands}
use Rattle.table.proofs.rest_stands.Goals as goal

pub returns : goal.returns
unfolding after
returns c =
    λ can l t s a b good stands f.
    subst (λ (d : Block). Stands l (rested l t a) (one_rests l s a d)) (sym (out_found s a b f)) (rest_stands can l good t s stands a b f)
