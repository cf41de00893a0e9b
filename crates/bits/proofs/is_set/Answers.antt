use Rattle.std.proofs.Common.{ℕ, ◌/◌, ◌^◌, eqb, ap}
use Rattle.std.proofs.lemmas.Nat.{and_mask}
use Rattle.bits.specs.Bit.{bit}
use Rattle.bits.proofs.is_set.Goals as goal

pub returns : goal.returns
unfolding bit
returns c = rw c.number.ensures.value (ap (λ (n : ℕ). eqb n 1) (and_mask (c.args.word / 2 ^ c.args.k) 1))
