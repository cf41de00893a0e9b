-- Words on lists and tests, beside those of the library. Assumes nothing: these are definitions.
--     every t xs, any t xs      whether each element passes the test t; whether one does
--     each_pair t xs            whether t passes each element with each one after it
--     same xs ys                whether two lists of numbers are the same
--     part a n xs               n elements of xs, from the place a on
--     over a bs xs              xs, with bs written over what stands from the place a on
--     all_zero xs, all_below b xs, bytes xs      whether each number is 0; is below b; fits a byte
--     first t n                 the least number below n that passes t, and n where none does
use Rattle.std.specs.Prelude.{ℕ, zero, suc, ◌+◌, Bool, true, false, cond, ◌&&◌, ◌||◌, List, [], ◌∷◌, ◌++◌, length, take, drop, ◌==◌, nat_eq, nat_lt}
use Rattle.grounds.specs.Numbers.{byte}

abbrev pub every : {X : Type 0} → (X → Bool) → List X → Bool
every t [] = true
every t (x ∷ xs) = t x && every t xs

abbrev pub any : {X : Type 0} → (X → Bool) → List X → Bool
any t [] = false
any t (x ∷ xs) = t x || any t xs

abbrev pub each_pair : {X : Type 0} → (X → X → Bool) → List X → Bool
each_pair t [] = true
each_pair t (x ∷ xs) = every (t x) xs && each_pair t xs

abbrev pub same : List ℕ → List ℕ → Bool
same [] [] = true
same [] (y ∷ ys) = false
same (x ∷ xs) [] = false
same (x ∷ xs) (y ∷ ys) = x == y && same xs ys

abbrev pub part : ℕ → ℕ → List ℕ → List ℕ
part a n xs = take n (drop a xs)

abbrev pub over : ℕ → List ℕ → List ℕ → List ℕ
over a bs xs = take a xs ++ (bs ++ drop (a + length bs) xs)

abbrev pub all_zero : List ℕ → Bool
all_zero = every (λ x. nat_eq x 0)

abbrev pub all_below : ℕ → List ℕ → Bool
all_below b = every (λ x. nat_lt x b)

abbrev pub bytes : List ℕ → Bool
bytes = all_below byte

unfoldable pub first : (ℕ → Bool) → ℕ → ℕ
first t zero = zero
first t (suc n) = cond (t zero) zero (suc (first (λ k. t (suc k)) n))
