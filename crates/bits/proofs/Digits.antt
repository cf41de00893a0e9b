-- Bits of a number: of `bit_or` and `bit_and`, of a power of two, of a complement, and the lowest that is set.
use Rattle.std.proofs.Common.{◌≡◌, ℕ, zero, suc, ◌-◌, ◌/◌, ◌%◌, ◌^◌, ◌<◌, ◌≤◌, Bool, true, false, not, ◌&&◌, ◌||◌, eqb, ◌⊎◌, sym, refl, ap, ◌∙◌, inl, inr, pow-suc, one-add, arith}
use lib.Bits.{bit_and, bit_or}
use lib.Count.{count_trailing_zeros, under}
use Rattle.std.proofs.lemmas.Nat.{or_shr, or_mod, and_shr, and_mod, shr-shr, pow_pos, pow_below, or_lt, and_le_l}
use Rattle.std.proofs.lemmas.Bool.{ne_eqb, cases_lt, and_right, both_ways}
use Rattle.std.proofs.lemmas.Bool.Decides.{nat_tests}
use Rattle.bits.specs.Bit.{word_bits, bit, with_bit, without_bit, lowest_bit}

-- ---- one bit at a time

pub bit_first : (w : ℕ) → bit w 0 ≡ eqb (w % 2) 1
unfolding bit
bit_first w = let one : w / 2 ^ 0 ≡ w = omega arith in rw one

pub bit_next : (w k : ℕ) → bit w (suc k) ≡ bit (w / 2) k
unfolding bit
bit_next w k = rw (← one-add k, ← shr-shr w 1 k)

pub bit_zero : (k : ℕ) → bit 0 k ≡ false
bit_zero zero = bit_first 0
bit_zero (suc k) = bit_next 0 k ∙ bit_zero k

-- a number below 2 ^ n has no bit from n on
pub bit_past : (n w k : ℕ) → w < 2 ^ n → n ≤ k → bit w k ≡ false
bit_past zero w k small past = let none : w ≡ 0 = omega arith in rw none (bit_zero k)
bit_past (suc n) w zero small past = absurd (omega arith)
bit_past (suc n) w (suc k) small past = bit_next w k ∙ bit_past n (w / 2) k (omega (arith, pow-suc 2 n)) (omega arith)

-- ---- or, and

digit_or : (x y : ℕ) → x < 2 → y < 2 → eqb (bit_or x y) 1 ≡ (eqb x 1 || eqb y 1)
digit_or zero zero h k = refl
digit_or zero (suc zero) h k = refl
digit_or (suc zero) zero h k = refl
digit_or (suc zero) (suc zero) h k = refl
digit_or zero (suc (suc y)) h k = absurd (omega arith)
digit_or (suc zero) (suc (suc y)) h k = absurd (omega arith)
digit_or (suc (suc x)) y h k = absurd (omega arith)

digit_and : (x y : ℕ) → x < 2 → y < 2 → eqb (bit_and x y) 1 ≡ (eqb x 1 && eqb y 1)
digit_and zero zero h k = refl
digit_and zero (suc zero) h k = refl
digit_and (suc zero) zero h k = refl
digit_and (suc zero) (suc zero) h k = refl
digit_and zero (suc (suc y)) h k = absurd (omega arith)
digit_and (suc zero) (suc (suc y)) h k = absurd (omega arith)
digit_and (suc (suc x)) y h k = absurd (omega arith)

pub bit_of_or : (a b k : ℕ) → bit (bit_or a b) k ≡ (bit a k || bit b k)
unfolding bit
bit_of_or a b k =
    let x = a / 2 ^ k in
    let y = b / 2 ^ k in
    ap (λ (n : ℕ). eqb (n % 2) 1) (or_shr a b k) ∙ ap (λ (n : ℕ). eqb n 1) (or_mod x y 1) ∙ digit_or (x % 2) (y % 2) (omega arith) (omega arith)

pub bit_of_and : (a b k : ℕ) → bit (bit_and a b) k ≡ (bit a k && bit b k)
unfolding bit
bit_of_and a b k =
    let x = a / 2 ^ k in
    let y = b / 2 ^ k in
    ap (λ (n : ℕ). eqb (n % 2) 1) (and_shr a b k) ∙ ap (λ (n : ℕ). eqb n 1) (and_mod x y 1) ∙ digit_and (x % 2) (y % 2) (omega arith) (omega arith)

-- ---- a power of two, and a complement

pub bit_pow : (k j : ℕ) → bit (2 ^ k) j ≡ eqb j k
bit_pow zero zero = bit_first 1
bit_pow zero (suc j) = bit_next 1 j ∙ bit_zero j ∙ sym (ne_eqb (suc j) 0 (omega arith))
bit_pow (suc k) zero =
    let even : 2 ^ suc k % 2 ≡ 0 = omega (arith, pow-suc 2 k) in
    bit_first (2 ^ suc k) ∙ ap (λ (n : ℕ). eqb n 1) even ∙ sym (ne_eqb 0 (suc k) (omega arith))
bit_pow (suc k) (suc j) =
    let half : 2 ^ suc k / 2 ≡ 2 ^ k = omega (arith, pow-suc 2 k) in
    bit_next (2 ^ suc k) j ∙ ap (λ (n : ℕ). bit n j) half ∙ bit_pow k j ∙ grind (arith, nat_tests)

pub bit_not : (n x j : ℕ) → x < 2 ^ n → j < n → bit (2 ^ n - 1 - x) j ≡ not (bit x j)
bit_not zero x j small near = absurd (omega arith)
bit_not (suc n) x zero small near =
    let p = pow-suc 2 n in
    let pos = pow_pos n in
    bit_first (2 ^ suc n - 1 - x)
    ∙ (let other : (2 ^ suc n - 1 - x) % 2 ≡ 1 - x % 2 = omega arith in ap (λ (d : ℕ). eqb d 1) other ∙ flip (x % 2) (omega arith))
    ∙ ap not (sym (bit_first x))
  where
    flip : (d : ℕ) → d < 2 → eqb (1 - d) 1 ≡ not (eqb d 1)
    flip zero h = refl
    flip (suc zero) h = refl
    flip (suc (suc d)) h = absurd (omega arith)
bit_not (suc n) x (suc j) small near =
    let p = pow-suc 2 n in
    let half : (2 ^ suc n - 1 - x) / 2 ≡ 2 ^ n - 1 - x / 2 = omega arith in
    bit_next (2 ^ suc n - 1 - x) j ∙ ap (λ (m : ℕ). bit m j) half ∙ bit_not n (x / 2) j (omega arith) (omega arith) ∙ ap not (sym (bit_next x j))

-- ---- the lowest that is set

pub record Lowest (n w k : ℕ) : Type 0 where
  pub within : k < n
  pub here : bit w k ≡ true
  pub below : (j : ℕ) → j < k → bit w j ≡ false

pub lowest : (n w : ℕ) → 0 < w → w < 2 ^ n → Lowest n w (count_trailing_zeros n w)
unfolding count_trailing_zeros
lowest zero w some small = absurd (omega arith)
lowest (suc n) w some small = go (w % 2) refl (lowest n (w / 2))
  where
    go : (d : ℕ) → w % 2 ≡ d → (0 < w / 2 → w / 2 < 2 ^ n → Lowest n (w / 2) (count_trailing_zeros n (w / 2))) →
        Lowest (suc n) w (under d (count_trailing_zeros n (w / 2)))
    go zero e rest =
        let half = rest (omega arith) (omega (arith, pow-suc 2 n)) in
        record {
          within = omega (arith, half);
          here = bit_next w (count_trailing_zeros n (w / 2)) ∙ half.here;
          below = clear half;
        }
      where
        clear : Lowest n (w / 2) (count_trailing_zeros n (w / 2)) → (j : ℕ) → j < suc (count_trailing_zeros n (w / 2)) → bit w j ≡ false
        clear half zero near = bit_first w ∙ ap (λ (x : ℕ). eqb x 1) e
        clear half (suc j) near = bit_next w j ∙ half.below j (omega arith)
    go (suc d) e rest =
        let one : w % 2 ≡ 1 = omega arith in
        record { within = omega arith; here = bit_first w ∙ ap (λ (x : ℕ). eqb x 1) one; below = λ j near. absurd (omega arith) }

-- ---- a word with one bit set or cleared, and its lowest bit

or_swap : (a b : Bool) → (a || b) ≡ (b || a)
or_swap true true = refl
or_swap true false = refl
or_swap false true = refl
or_swap false false = refl

and_swap : (a b : Bool) → (a && b) ≡ (b && a)
and_swap true true = refl
and_swap true false = refl
and_swap false true = refl
and_swap false false = refl

pub bit_with : (w k j : ℕ) → bit (with_bit w k) j ≡ (eqb j k || bit w j)
unfolding with_bit
bit_with w k j = bit_of_or w (2 ^ k) j ∙ ap (λ (b : Bool). bit w j || b) (bit_pow k j) ∙ or_swap (bit w j) (eqb j k)

pub bit_without : (w k j : ℕ) → w < 2 ^ word_bits → k < word_bits → bit (without_bit w k) j ≡ (not (eqb j k) && bit w j)
unfolding without_bit
bit_without w k j small near = bit_of_and w (2 ^ word_bits - 1 - 2 ^ k) j ∙ go (cases_lt j word_bits)
  where
    go : (j < word_bits) ⊎ (word_bits ≤ j) → (bit w j && bit (2 ^ word_bits - 1 - 2 ^ k) j) ≡ (not (eqb j k) && bit w j)
    go (inl low) =
        ap (λ (b : Bool). bit w j && b) (bit_not word_bits (2 ^ k) j (pow_below k word_bits near) low ∙ ap not (bit_pow k j))
        ∙ and_swap (bit w j) (not (eqb j k))
    go (inr high) =
        let none : bit w j ≡ false = bit_past word_bits w j small high in
        ap (λ (b : Bool). b && bit (2 ^ word_bits - 1 - 2 ^ k) j) none ∙ sym (and_right (not (eqb j k)) (bit w j) none)

pub bit_lowest : (w : ℕ) → 0 < w → w < 2 ^ word_bits → Lowest word_bits w (lowest_bit w)
unfolding lowest_bit
bit_lowest w some small = lowest word_bits w some small

-- a word with no bit is 0
pub no_bits : (n w : ℕ) → w < 2 ^ n → ((j : ℕ) → j < n → bit w j ≡ false) → w ≡ 0
no_bits n w small none = go (cases_lt 0 w)
  where
    go : (0 < w) ⊎ (w ≤ 0) → w ≡ 0
    go (inl some) = let l = lowest n w some small in absurd (both_ways (bit w (count_trailing_zeros n w)) (none (count_trailing_zeros n w) l.within) l.here)
    go (inr few) = omega arith

-- words stay words
pub with_small : (w k : ℕ) → w < 2 ^ word_bits → k < word_bits → with_bit w k < 2 ^ word_bits
unfolding with_bit
with_small w k small near = or_lt word_bits w (2 ^ k) small (pow_below k word_bits near)

pub without_small : (w k : ℕ) → w < 2 ^ word_bits → without_bit w k < 2 ^ word_bits
unfolding without_bit
without_small w k small = omega (arith, and_le_l w (2 ^ word_bits - 1 - 2 ^ k))
