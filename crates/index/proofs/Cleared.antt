-- Memory in which every word of both levels is 0 keeps sets, and all are empty.
use Rattle.std.proofs.Common.{◌≡◌, ℕ, ◌*◌, ◌/◌, ◌%◌, ◌<◌, false, not, eqb, List, sym, ap, ◌∙◌, arith}
use Rattle.bits.specs.Bit.{bit}
use Rattle.bits.proofs.Digits.{bit_zero}
use Rattle.index.specs.declared.Index.{Index}
use Rattle.index.specs.Index.{sets, high_of, member, Sound, Cleared}

module _ (i : Index) (groups : ℕ) (m : List ℕ) (c : Cleared i groups m) where
  no_bit : (k g : ℕ) → k < sets → g < 1024 → bit (high_of i m k (g / 64)) (g % 64) ≡ false
  no_bit k g kn gn = ap (λ (w : ℕ). bit w (g % 64)) (c.no_high k (g / 64) kn (omega arith)) ∙ bit_zero (g % 64)

  pub cleared : Sound i groups m
  cleared =
      record {
        fits = c.fits;
        few = c.few;
        apart = c.apart;
        inside = c.inside;
        tells = λ k g kn gn. no_bit k g kn (omega (arith, c.few)) ∙ sym (ap (λ (w : ℕ). not (eqb w 0)) (c.no_low k g kn gn));
        rest = λ k g kn past gn. no_bit k g kn gn;
      }

  pub no_members : (k p : ℕ) → k < sets → p < 64 * groups → member i m k p ≡ false
  unfolding member
  no_members k p kn pn = ap (λ (w : ℕ). bit w (p % 64)) (c.no_low k (p / 64) kn (omega arith)) ∙ bit_zero (p % 64)
