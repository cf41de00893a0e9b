use Rattle.std.proofs.Common.{◌≡◌}
use Rattle.opening.specs.Opening.{barred_bits}
use Rattle.opening.proofs.bits_at_first.barred.Given as goal

abbrev pub invariant-loop-k : goal.invariant-loop-k
invariant-loop-k l = l.bits ≡ barred_bits l.class l.word l.k
