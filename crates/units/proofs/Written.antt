-- A word of a page written: what is left as it was, and the bits of the page's units after it.
use Rattle.std.proofs.Common.{◌≡◌, ℕ, ◌+◌, ◌/◌, ◌%◌, ◌^◌, ◌<◌, ◌≤◌, Bool, false, not, ◌&&◌, ◌||◌, eqb, ◌⊎◌, List, length, get_or, set, sym, refl, ap, ◌∙◌, inl, inr, arith}
use Rattle.std.proofs.lemmas.List.{length-set, get_or-set_same, get_or-set_other, set_past}
use Rattle.std.proofs.lemmas.Bool.{cases_eq, cases_lt, ne_eqb}
use Rattle.std.proofs.lemmas.Bool.Decides.{nat_tests}
use Rattle.bits.specs.Bit.{bit, with_bit, without_bit}
use Rattle.bits.proofs.Digits.{bit_with, bit_without, with_small, without_small}
use Rattle.units.specs.Units.{units, unit_words, unit_at, unit_bit, taken, released, Rest}

-- ---- what is left

pub set_fits : (m : List ℕ) (a w : ℕ) → w < 2 ^ 64 → ((b : ℕ) → get_or m b 0 < 2 ^ 64) → (b : ℕ) → get_or (set m a w) b 0 < 2 ^ 64
set_fits m a w small fits b = go (cases_eq b a) (cases_lt a (length m))
  where
    go : (b ≡ a) ⊎ (b ≡ a → ⊥) → (a < length m) ⊎ (length m ≤ a) → get_or (set m a w) b 0 < 2 ^ 64
    go (inl e) (inl near) = rw e (rw (get_or-set_same m a w 0 near) small)
    go (inl e) (inr past) = rw (set_past m a w past) (fits b)
    go (inr other) place = rw (get_or-set_other m a b w 0 other) (fits b)

pub rest_none : (at : ℕ) (m : List ℕ) → Rest at m m
rest_none at m = record { outside = λ a out. refl; long = refl; fits = λ fits. fits }

-- one more word of the page written: m is memory before all of it, and n before this one
pub rest_set : (at : ℕ) (m n : List ℕ) (a w : ℕ) → Rest at m n → at ≤ a → a < at + unit_words →
    (((b : ℕ) → get_or m b 0 < 2 ^ 64) → w < 2 ^ 64) → Rest at m (set n a w)
rest_set at m n a w rest low high small =
    record {
      outside = λ b out. get_or-set_other n a b w 0 (λ e. out (omega arith) (omega arith)) ∙ rest.outside b out;
      long = length-set n a w ∙ rest.long;
      fits = λ fits. set_fits n a w (small fits) (rest.fits fits);
    }

-- ---- the bits of the units

-- two units of one word are told apart by their bits
same_bit : (u v : ℕ) → v / 64 ≡ u / 64 → eqb (v % 64) (u % 64) ≡ eqb v u
same_bit u v same = grind (arith, nat_tests)

-- f is what becomes of a unit's bit, by whether it is the unit u, and leaves those of other units
module _ (m : List ℕ) (at u w : ℕ) (f : Bool → Bool → Bool) (leaves : (b : Bool) → f false b ≡ b) (near : u < units) (inside : at + unit_words ≤ length m)
    (word : (j : ℕ) → bit w j ≡ f (eqb j (u % 64)) (bit (get_or m (unit_at at u) 0) j)) where
  bits_set : (v : ℕ) → unit_bit (set m (unit_at at u) w) at v ≡ f (eqb v u) (unit_bit m at v)
  unfolding unit_bit
  bits_set v = go (cases_eq (v / 64) (u / 64))
    where
      go : (v / 64 ≡ u / 64) ⊎ (v / 64 ≡ u / 64 → ⊥) →
          bit (get_or (set m (unit_at at u) w) (unit_at at v) 0) (v % 64) ≡ f (eqb v u) (bit (get_or m (unit_at at v) 0) (v % 64))
      go (inl same) =
          rw same
          (ap (λ (x : ℕ). bit x (v % 64)) (get_or-set_same m (unit_at at u) w 0 (omega arith))
          ∙ word (v % 64)
          ∙ ap (λ (b : Bool). f b (bit (get_or m (unit_at at u) 0) (v % 64))) (same_bit u v same))
      go (inr other) =
          ap (λ (x : ℕ). bit x (v % 64)) (get_or-set_other m (unit_at at u) (unit_at at v) w 0 (omega arith))
          ∙ sym (leaves (bit (get_or m (unit_at at v) 0) (v % 64)))
          ∙ sym (ap (λ (b : Bool). f b (bit (get_or m (unit_at at v) 0) (v % 64))) (ne_eqb v u (λ e. other (ap (λ (x : ℕ). x / 64) e))))

-- ---- a unit taken and released

module _ (m : List ℕ) (at u : ℕ) (near : u < units) where
  pub taken_bits : at + unit_words ≤ length m → (v : ℕ) → unit_bit (taken m at u) at v ≡ (eqb v u || unit_bit m at v)
  unfolding taken
  taken_bits inside =
      let w = get_or m (unit_at at u) 0 in
      bits_set m at u (with_bit w (u % 64)) (λ x b. x || b) (λ b. refl) near inside (bit_with w (u % 64))

  pub taken_rest : Rest at m (taken m at u)
  unfolding taken
  taken_rest =
      let w = get_or m (unit_at at u) 0 in
      rest_set at m m (unit_at at u) (with_bit w (u % 64)) (rest_none at m) (omega arith) (omega arith)
      (λ fits. with_small w (u % 64) (fits (unit_at at u)) (omega arith))

  pub released_bits : get_or m (unit_at at u) 0 < 2 ^ 64 → at + unit_words ≤ length m → (v : ℕ) →
      unit_bit (released m at u) at v ≡ (not (eqb v u) && unit_bit m at v)
  unfolding released
  released_bits small inside =
      let w = get_or m (unit_at at u) 0 in
      bits_set m at u (without_bit w (u % 64)) (λ x b. not x && b) (λ b. refl) near inside (λ j. bit_without w (u % 64) j small (omega arith))

  pub released_rest : Rest at m (released m at u)
  unfolding released
  released_rest =
      let w = get_or m (unit_at at u) 0 in
      rest_set at m m (unit_at at u) (without_bit w (u % 64)) (rest_none at m) (omega arith) (omega arith)
      (λ fits. without_small w (u % 64) (fits (unit_at at u)))
