-- Memory in which no word of the two levels has changed keeps the same sets, whatever was written elsewhere.
use Rattle.std.proofs.Common.{◌≡◌, ℕ, ◌+◌, ◌*◌, ◌/◌, ◌%◌, ◌^◌, ◌<◌, ◌≤◌, not, eqb, List, length, get_or, sym, ap, ◌∙◌, arith}
use Rattle.bits.specs.Bit.{bit}
use Rattle.index.specs.declared.Index.{Index}
use Rattle.index.specs.Index.{sets, high_words, high_at, low_at, high_of, low_of, member, Sound}

-- m is memory before, and n after
pub record Elsewhere (i : Index) (groups : ℕ) (m n : List ℕ) : Type 0 where
  pub fits : (a : ℕ) → get_or n a 0 < 2 ^ 64
  pub long : length n ≡ length m
  pub highs_kept : (a : ℕ) → i.high ≤ a → a < i.high + high_words * sets → get_or n a 0 ≡ get_or m a 0
  pub lows_kept : (a : ℕ) → i.low ≤ a → a < i.low + sets * groups → get_or n a 0 ≡ get_or m a 0

module _ (i : Index) (groups : ℕ) (m n : List ℕ) (s : Sound i groups m) (e : Elsewhere i groups m n) where
  low_kept : (k g : ℕ) → k < sets → g < groups → low_of i n k g ≡ low_of i m k g
  low_kept k g kn gn = e.lows_kept (low_at i k g) (omega arith) (omega arith)

  high_kept : (k g : ℕ) → k < sets → g < 1024 → bit (high_of i n k (g / 64)) (g % 64) ≡ bit (high_of i m k (g / 64)) (g % 64)
  high_kept k g kn gn = ap (λ (w : ℕ). bit w (g % 64)) (e.highs_kept (high_at i k (g / 64)) (omega arith) (omega arith))

  pub sound_kept : Sound i groups n
  sound_kept =
      record {
        fits = e.fits;
        few = s.few;
        apart = s.apart;
        inside = omega (arith, s.inside, e.long);
        tells = λ k g kn gn.
            high_kept k g kn (omega (arith, s.few)) ∙ s.tells k g kn gn ∙ sym (ap (λ (w : ℕ). not (eqb w 0)) (low_kept k g kn gn));
        rest = λ k g kn past gn. high_kept k g kn gn ∙ s.rest k g kn past gn;
      }

  pub member_kept : (k p : ℕ) → k < sets → p < 64 * groups → member i n k p ≡ member i m k p
  unfolding member
  member_kept k p kn pn = ap (λ (w : ℕ). bit w (p % 64)) (low_kept k (p / 64) kn (omega arith))
