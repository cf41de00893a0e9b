-- The words of an opening that are made of bits: which bits they have, and that they are words.
use Rattle.std.proofs.Common.{◌≡◌, ℕ, zero, suc, ◌+◌, ◌-◌, ◌*◌, ◌^◌, ◌<◌, ◌≤◌, Bool, true, false, cond, not, ◌&&◌, eqb, ltb, ◌⊎◌, sym, refl, ap, ◌∙◌, inl, inr, arith}
use Rattle.std.proofs.lemmas.Nat.{pow_pos, pow_below}
use Rattle.std.proofs.lemmas.Bool.{both_ways, cases_lt, cases_Bool, cases_eq, ltb-true, lt-ltb, le-ltb, ne_eqb, cond-true, cond-false, cond_both}
use Rattle.std.proofs.lemmas.Bool.Decides.{nat_tests}
use Rattle.bits.specs.Bit.{word_bits, bit, with_bit}
use Rattle.bits.proofs.Digits.{bit_zero, bit_past, bit_not, bit_with, with_small}
use Rattle.table.specs.Table.{fits}
use Rattle.opening.specs.Opening.{ones, barred_bits, barred}

-- ---- the lowest bits of a word

low_ones : (n b : ℕ) → bit (2 ^ n - 1) b ≡ ltb b n
low_ones n b = go (cases_lt b n)
  where
    go : (b < n) ⊎ (n ≤ b) → bit (2 ^ n - 1) b ≡ ltb b n
    go (inl low) =
        let none_off : 2 ^ n - 1 ≡ 2 ^ n - 1 - 0 = omega arith in
        rw none_off (bit_not n 0 b (pow_pos n) low ∙ ap not (bit_zero b) ∙ sym (lt-ltb b n low))
    go (inr high) = bit_past n (2 ^ n - 1) b (omega (arith, pow_pos n)) high ∙ sym (le-ltb b n high)

pub bit_ones : (n b : ℕ) → b < word_bits → bit (ones n) b ≡ ltb b n
bit_ones n b near = go (cases_lt n word_bits)
  where
    go : (n < word_bits) ⊎ (word_bits ≤ n) → bit (ones n) b ≡ ltb b n
    go (inl few) = ap (λ (w : ℕ). bit w b) (cond-true (ltb n word_bits) (2 ^ n - 1) (2 ^ word_bits - 1) (lt-ltb n word_bits few)) ∙ low_ones n b
    go (inr many) =
        ap (λ (w : ℕ). bit w b) (cond-false (ltb n word_bits) (2 ^ n - 1) (2 ^ word_bits - 1) (le-ltb n word_bits many))
        ∙ low_ones word_bits b
        ∙ lt-ltb b word_bits near
        ∙ sym (lt-ltb b n (omega arith))

pub ones_small : (n : ℕ) → ones n < 2 ^ word_bits
ones_small n = cond_both (ltb n word_bits) (2 ^ n - 1) (2 ^ word_bits - 1) (λ w. w < 2 ^ word_bits)
    (λ few. omega (arith, pow_below n word_bits (ltb-true n word_bits few)))
    (λ _. omega arith)

-- the word is 0 only where it has no bits
pub ones_none : (n : ℕ) → eqb (ones n) 0 ≡ eqb n 0
ones_none n = go (cases_eq n 0)
  where
    go : (n ≡ 0) ⊎ (n ≡ 0 → ⊥) → eqb (ones n) 0 ≡ eqb n 0
    go (inl none) = rw none refl
    go (inr some) =
        ne_eqb (ones n) 0
        (λ e. both_ways (bit (ones n) 0) (ap (λ (w : ℕ). bit w 0) e ∙ bit_zero 0) (bit_ones n 0 (omega arith) ∙ lt-ltb 0 n (omega arith)))
        ∙ sym (ne_eqb n 0 some)

-- ---- the units where no piece of a class may begin

-- one more bit, by a test of the units
one_more : (f : ℕ → Bool) (x k b : ℕ) → bit x b ≡ (ltb b k && not (f b)) → bit (cond (f k) x (with_bit x k)) b ≡ (ltb b (suc k) && not (f b))
one_more f x k b before = go (cases_Bool (f k)) (cases_eq b k)
  where
    go : (f k ≡ true) ⊎ (f k ≡ false) → (b ≡ k) ⊎ (b ≡ k → ⊥) → bit (cond (f k) x (with_bit x k)) b ≡ (ltb b (suc k) && not (f b))
    go (inl may) (inl same) = rw may (before ∙ (let here : f b ≡ true = ap f same ∙ may in grind (arith, nat_tests)))
    go (inl may) (inr other) = rw may (before ∙ grind (arith, nat_tests))
    go (inr may) (inl same) = rw may (bit_with x k b ∙ (let here : f b ≡ false = ap f same ∙ may in grind (arith, nat_tests)))
    go (inr may) (inr other) = rw may (bit_with x k b ∙ grind (arith, nat_tests))

barred_bit : (c w k b : ℕ) → bit (barred_bits c w k) b ≡ (ltb b k && not (fits c (word_bits * w + b)))
unfolding barred_bits
barred_bit c w zero b = bit_zero b ∙ sym (ap (λ (x : Bool). x && not (fits c (word_bits * w + b))) (le-ltb b 0 (omega arith)))
barred_bit c w (suc k) b = one_more (λ j. fits c (word_bits * w + j)) (barred_bits c w k) k b (barred_bit c w k b)

pub bit_barred : (c w b : ℕ) → 0 < c → b < word_bits → bit (barred c w) b ≡ not (fits c (word_bits * w + b))
bit_barred c w b some near =
    ap (λ (x : ℕ). bit x b) (cond-false (eqb c 0) 0 (barred_bits c w word_bits) (ne_eqb c 0 (omega arith)))
    ∙ barred_bit c w word_bits b
    ∙ ap (λ (x : Bool). x && not (fits c (word_bits * w + b))) (lt-ltb b word_bits near)

barred_bits_small : (c w k : ℕ) → k ≤ word_bits → barred_bits c w k < 2 ^ word_bits
unfolding barred_bits
barred_bits_small c w zero few = omega arith
barred_bits_small c w (suc k) few =
    let before = barred_bits_small c w k (omega arith) in
    cond_both (fits c (word_bits * w + k)) (barred_bits c w k) (with_bit (barred_bits c w k) k) (λ x. x < 2 ^ word_bits)
    (λ _. before)
    (λ _. with_small (barred_bits c w k) k before (omega arith))

pub barred_small : (c w : ℕ) → barred c w < 2 ^ word_bits
barred_small c w =
    cond_both (eqb c 0) 0 (barred_bits c w word_bits) (λ x. x < 2 ^ word_bits) (λ _. omega arith) (λ _. barred_bits_small c w word_bits (omega arith))
