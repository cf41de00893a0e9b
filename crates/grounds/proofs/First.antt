-- Lemmas on `first`, the least number below n that passes a test: it passes, none below it does, and it is the only such number.
use Rattle.std.proofs.Common.{◌≡◌, ℕ, zero, suc, ◌<◌, ◌≤◌, Bool, true, false, refl, arith}
use Rattle.std.proofs.lemmas.Bool.Decides.{nat_tests}
use Rattle.grounds.specs.Lists.{first}

pub first_le : (t : ℕ → Bool) (n : ℕ) → first t n ≤ n
unfolding first
first_le t zero = omega arith
first_le t (suc n) = let rest = first_le (λ k. t (suc k)) n in grind (arith, nat_tests)

pub first_hit : (t : ℕ → Bool) (n : ℕ) → first t n < n → t (first t n) ≡ true
unfolding first
first_hit t zero low = absurd (omega arith)
first_hit t (suc n) low = grind (arith, first_hit (λ k. t (suc k)) n)

pub first_miss : (t : ℕ → Bool) (n k : ℕ) → k < first t n → t k ≡ false
unfolding first
first_miss t zero k low = absurd (omega arith)
first_miss t (suc n) zero low = grind arith
first_miss t (suc n) (suc k) low = grind (arith, first_miss (λ k. t (suc k)) n k)

-- it is no higher than a number that passes
pub first_low : (t : ℕ → Bool) (n k : ℕ) → t k ≡ true → first t n ≤ k
first_low t n k h = grind (arith, first_miss t n k)

pub first_found : (t : ℕ → Bool) (n k : ℕ) → k < n → t k ≡ true → (first t n < n) × (first t n ≤ k)
first_found t n k near h = let low = first_low t n k h in (omega arith, low)

pub first_is : (t : ℕ → Bool) (n a : ℕ) → a < n → t a ≡ true → ((k : ℕ) → k < a → t k ≡ false) → first t n ≡ a
first_is t n a near h none = grind (arith, none (first t n), first_hit t n, first_low t n a h)

pub first_none : (t : ℕ → Bool) (n : ℕ) → ((k : ℕ) → k < n → t k ≡ false) → first t n ≡ n
first_none t n none = grind (arith, none (first t n), first_hit t n, first_le t n)

-- tests that are alike below n
pub first_cong : (t u : ℕ → Bool) (n : ℕ) → ((k : ℕ) → k < n → t k ≡ u k) → first t n ≡ first u n
unfolding first
first_cong t u zero alike = refl
first_cong t u (suc n) alike =
    let here = alike zero (omega arith) in let rest = first_cong (λ k. t (suc k)) (λ k. u (suc k)) n (λ k low. alike (suc k) (omega arith)) in cc
