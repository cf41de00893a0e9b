use Rattle.std.proofs.Common.{◌<◌, ◌≤◌, arith}
use Rattle.std.proofs.ByRecursion.{All-get_or}
use Rattle.std.proofs.lemmas.Bool.{eqb-true}
use Rattle.grounds.specs.Numbers.{byte}
use Rattle.limits.proofs.limits.Limits.good.Goals as goal

pub returns-then-contains-clause-refused : goal.returns-then-contains-clause-refused
returns-then-contains-clause-refused c =
    let zero = c.if-contains.ensures.cases in
    λ can good.
    let some = All-get_or (λ b. (1 ≤ b) × (b < byte)) c.args.self.now.marks zero.0 0 zero.1 good.mark_bytes in
    absurd (omega (arith, some.0, eqb-true _ 0 (zero.2 0)))
