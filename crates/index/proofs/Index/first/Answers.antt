use Rattle.std.proofs.Common.{arith}
use Rattle.index.proofs.Lowest.{is_lowest}
use Rattle.index.proofs.Index.first.Goals as goal

pub returns-clause-lowest : goal.returns-clause-lowest
returns-clause-lowest c =
    rw c.first.ensures
    (λ groups sound.
    is_lowest c.args.self groups c.args.memory.now sound c.args.set c.args.other (omega (arith, c.number.ensures)) (omega (arith, c.number-2.ensures)))
