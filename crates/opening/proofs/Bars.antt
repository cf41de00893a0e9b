-- One more bit of the word that tells where no piece of a class may begin.
use Rattle.std.proofs.Common.{◌≡◌, ℕ, suc, ◌+◌, ◌*◌, Bool, true, false, cond, sym, refl, ap, ◌∙◌, arith}
use Rattle.bits.specs.Bit.{word_bits, with_bit}
use Rattle.table.specs.Table.{fits}
use Rattle.opening.specs.Opening.{barred_bits}

pub none_barred : (c w : ℕ) → 0 ≡ barred_bits c w 0
unfolding barred_bits
none_barred c w = refl

next : (c w k : ℕ) → barred_bits c w (k + 1) ≡ cond (fits c (word_bits * w + k)) (barred_bits c w k) (with_bit (barred_bits c w k) k)
unfolding barred_bits
next c w k = ap (barred_bits c w) (one_more k)
  where
    one_more : (k : ℕ) → k + 1 ≡ suc k
    one_more k = omega arith

pub one_open : (c w k b : ℕ) → b ≡ barred_bits c w k → fits c (word_bits * w + k) ≡ true → b ≡ barred_bits c w (k + 1)
one_open c w k b is may = is ∙ sym (next c w k ∙ ap (λ (x : Bool). cond x (barred_bits c w k) (with_bit (barred_bits c w k) k)) may)

pub one_barred : (c w k b : ℕ) → b ≡ barred_bits c w k → fits c (word_bits * w + k) ≡ false → with_bit b k ≡ barred_bits c w (k + 1)
one_barred c w k b is may =
    ap (λ (x : ℕ). with_bit x k) is ∙ sym (next c w k ∙ ap (λ (x : Bool). cond x (barred_bits c w k) (with_bit (barred_bits c w k) k)) may)
