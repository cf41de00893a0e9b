-- Words that write a number in decimal. Assumes nothing.
use Rattle.std.proofs.Common.{◌≡◌, ℕ, ◌^◌, ◌<◌, ◌≤◌, List, [], ◌∷◌, length, get_or, Some, Ok, Err, decimal, Result, sym, ap, ◌∙◌, ⊎_elim, arith}
use Rattle.std.specs.Result.{OkIff, result_ok}
use Rattle.std.specs.Str.Parse.{AllDigits, digits_value, ParsesUnsigned}
use Rattle.std.specs.Int.{IsInRange}
use Rattle.std.proofs.lemmas.Fmt.{decimal_digit, decimal_nonempty, first_decimal, decimal_injective, digits_decimal, decimal-digits_value, parse-decimal}
use Rattle.std.proofs.lemmas.Str.Parse.{IsNumeralModel, numerals_by_value, tells_digits, digit_at, parse_plain}
use Rattle.std.proofs.str.Laws.{order}
use Rattle.script.specs.Reading.{IsNumber}

own : IsNumeralModel (AllDigits 10) (digits_value 10)
own = numerals_by_value (AllDigits 10) tells_digits

pub zero_text : decimal 0 ≡ 48 ∷ []
zero_text = decimal_digit 0 (omega arith)

pub digit : (n i : ℕ) → n < 2 ^ 64 → i < length (decimal n) → IsInRange 48 57 (get_or (decimal n) i 0)
digit n i small less = digit_at (decimal n) i (digits_decimal own n small) less

pub first_digit : (n : ℕ) → n < 2 ^ 64 → IsInRange 48 57 (get_or (decimal n) 0 0)
first_digit n small = digit n 0 small (decimal_nonempty n small)

-- a word that writes a number begins with a digit, which is 0 in `0` alone
pub numeral : (w : List ℕ) (n : ℕ) → n < 2 ^ 64 → w ≡ decimal n → (0 < length w) × (48 ≤ get_or w 0 0) × (get_or w 0 0 ≤ 57) × (get_or w 0 0 ≡ 48 → length w ≡ 1)
numeral w n small e =
    let long = decimal_nonempty n small in
    let digit = first_digit n small in
    let same = ap length e in
    let first = ap (λ l. get_or l 0 0) e in
    (omega arith, omega arith, omega arith, λ zero. ⊎_elim (λ some. let high = first_decimal n some small in absurd (omega arith)) (λ none. let is : n ≡ 0 = omega arith in same ∙ ap length (ap decimal is ∙ zero_text)) (order 0 n))

pub zero_numeral : (w : List ℕ) → length w ≡ 1 → get_or w 0 0 ≡ 48 → w ≡ decimal 0
zero_numeral [] one zero = absurd (omega arith)
zero_numeral (b ∷ []) one zero = ap (λ c. c ∷ []) zero ∙ sym zero_text
zero_numeral (b ∷ c ∷ w) one zero = absurd (omega arith)

-- what `parse` reads of a word that begins with a digit from 1 on
pub parsed : {E : Type 0} (w : List ℕ) (r : Result ℕ E) → ParsesUnsigned 64 10 w r → 49 ≤ get_or w 0 0 → IsNumber (2 ^ 64) w (result_ok r)
parsed {E} w (Ok n) reads first =
    let read = parse_plain own {E = E} 64 w (Ok n) reads (λ h. omega arith) in
    let text = decimal-digits_value own w read.0.0 read.0.1 (λ h. absurd (omega arith)) read.0.2 in
    (omega arith, sym text ∙ ap decimal (sym read.1))
parsed {E} w (Err e) reads first = λ n small is.
    let back = parse-decimal 64 n w (Err e) small small is reads in
    let z : ◌≡◌ {A = ℕ} 0 1 = cc in omega arith

-- a number that is cast to a byte
pub narrowed : {E : Type 0} (w : List ℕ) (n : ℕ) (r : Result ℕ E) → IsNumber (2 ^ 64) w (Some n) → OkIff r (n < 256) n → IsNumber 256 w (result_ok r)
narrowed w n (Ok b) is cast = (omega arith, is.1 ∙ ap decimal (sym cast.1))
narrowed w n (Err e) is cast = λ m small same. let one = decimal_injective m n (omega arith) is.0 (sym same ∙ is.1) in cast (omega arith)
