use Rattle.std.proofs.Common.{◌≡◌, ℕ, ◌-◌, ◌*◌, ◌%◌, ◌^◌, ap, ◌∙◌, arith, ◌<◌}
use lib.Bits.{bit_and}
use Rattle.std.proofs.lemmas.Nat.{one_shl}
use Rattle.bits.specs.Bit.{bit, without_bit, word_bits}
use Rattle.bits.proofs.Digits.{bit_without}
use Rattle.bits.proofs.with_clear.Goals as goal

value : (w k : ℕ) → k < word_bits → bit_and w (2 ^ word_bits - 1 - (1 * 2 ^ k) % 2 ^ word_bits) ≡ without_bit w k
unfolding without_bit
value w k near = ap (λ (x : ℕ). bit_and w (2 ^ word_bits - 1 - x)) (one_shl k word_bits near)

pub returns-clause-value : goal.returns-clause-value
returns-clause-value c = rw c.number.ensures.value (value c.args.word c.args.k (omega (arith, c.number.ensures)))

pub returns-clause-bits : goal.returns-clause-bits
returns-clause-bits c =
    let near : c.args.k < word_bits = omega (arith, c.number.ensures) in
    rw c.number.ensures.value
    (λ j. ap (λ (x : ℕ). bit x j) (value c.args.word c.args.k near) ∙ bit_without c.args.word c.args.k j c.ranges.word.fits near)
