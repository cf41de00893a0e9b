-- Numbers as bytes, the lowest first: bytes are those of the number that they hold, and what is written of numbers one after the other.
use Rattle.std.proofs.Common.{◌≡◌, ℕ, ◌+◌, ◌*◌, ◌/◌, ◌%◌, ◌^◌, ◌<◌, Bool, true, ◌&&◌, ltb, List, [], ◌∷◌, ◌++◌, length, get_or, take, drop, sym, refl, ap, pow-suc, append_assoc, ap₂, ◌∙◌, arith, length-append, length-take}
use borrow.Rule.Slice.PartMut.{put_mid}
use Rattle.std.specs.List.{flat_map}
use Rattle.std.proofs.lemmas.List.{take_at, drop_at, drop-drop, take_more, flat_map_more}
use Rattle.std.proofs.lemmas.Bool.{and_parts, and_from, ltb-true, lt-ltb}
use Rattle.std.proofs.lemmas.Bool.Decides.{nat_tests}
use Rattle.grounds.specs.Numbers.{byte, word}
use Rattle.grounds.specs.Lists.{bytes}
use Rattle.codec.specs.Bytes.{number_of, number_length, low_first, number_bytes}

-- bytes are the bytes of the number that they hold
pub low_first_number_of : (bs : List ℕ) → bytes bs ≡ true → low_first (length bs) (number_of bs) ≡ bs
low_first_number_of [] h = refl
low_first_number_of (b ∷ bs) h =
    let parts = and_parts (ltb b byte) (bytes bs) h in
    let small : b < byte = ltb-true b byte parts.0 in
    let low : (b + byte * number_of bs) % byte ≡ b = omega arith in
    let high : (b + byte * number_of bs) / byte ≡ number_of bs = omega arith in
    rw (low, high, low_first_number_of bs parts.1)

pub number_of_lt : (bs : List ℕ) → bytes bs ≡ true → number_of bs < byte ^ length bs
number_of_lt [] h = omega arith
number_of_lt (b ∷ bs) h =
    let parts = and_parts (ltb b byte) (bytes bs) h in
    omega (arith, ltb-true b byte parts.0, number_of_lt bs parts.1, pow-suc byte (length bs))

-- eight bytes hold a number that fits them, and are its bytes
pub eight_spelt : (bs : List ℕ) → bytes bs ≡ true → length bs ≡ number_length → (number_of bs < word) × (bs ≡ number_bytes (number_of bs))
eight_spelt bs small e = (
  rw e at (number_of_lt bs small),
  sym (rw e at (low_first_number_of bs small)),
)

abbrev pub is_byte : ℕ → Bool
is_byte b = ltb b byte

-- ---- one number that is read

pub number_small : (n : ℕ) → n < word → (ltb n word && true) ≡ true
number_small n h = and_from (ltb n word) true (lt-ltb n word h) refl

-- one byte that is the number k alone
pub alone_only : (k t : ℕ) (bs : List ℕ) → (t ≡ k) × (length bs ≡ 0) → t ∷ bs ≡ k ∷ []
alone_only k t [] (tag, none) = ap (λ (j : ℕ). j ∷ []) tag
alone_only k t (b ∷ bs) (tag, none) = absurd (omega arith)

-- one byte that is the number k, and the eight bytes of a number
pub number_only : (k t n : ℕ) (bs : List ℕ) → bytes (t ∷ bs) ≡ true → (t ≡ k) × ((length bs ≡ number_length) × (n ≡ number_of bs)) →
    ((ltb n word && true) ≡ true) × (t ∷ bs ≡ k ∷ number_bytes n)
number_only k t n bs small (tag, (long, is)) = grind (arith, nat_tests, eight_spelt, number_small)

-- ---- numbers one after the other

pub length_numbers : (ns : List ℕ) → length (flat_map number_bytes ns) ≡ number_length * length ns
length_numbers [] = refl
length_numbers (n ∷ ns) = omega (arith, length-append (number_bytes n) (flat_map number_bytes ns), length_numbers ns)

-- after one byte and i numbers, one number more is written over what was there
pub one_more_written : (t : ℕ) (ns old out bs : List ℕ) (i k : ℕ) → i < length ns → bs ≡ number_bytes (get_or ns i 0) → k ≡ number_length →
    out ≡ (t ∷ flat_map number_bytes (take i ns)) ++ drop (1 + number_length * i) old →
    put_mid (1 + number_length * i) k out bs ≡ (t ∷ flat_map number_bytes (take (i + 1) ns)) ++ drop (1 + number_length * (i + 1)) old
one_more_written t ns old out bs i k near number eight so_far =
    let at : ℕ = 1 + number_length * i in
    let front : List ℕ = t ∷ flat_map number_bytes (take i ns) in
    let long : length front ≡ at = omega (arith, length_numbers (take i ns), length-take i ns) in
    let kept : take at out ≡ front = ap (take at) so_far ∙ take_at front (drop at old) at long in
    let left : drop k (drop at out) ≡ drop (1 + number_length * (i + 1)) old
    = ap₂ (λ (j : ℕ) (xs : List ℕ). drop j xs) eight (ap (drop at) so_far ∙ drop_at front (drop at old) at long)
    ∙ drop-drop number_length at old
    ∙ ap (λ (j : ℕ). drop j old) (omega arith) in
    let more : front ++ bs ≡ t ∷ flat_map number_bytes (take (i + 1) ns)
    = ap (λ (xs : List ℕ). front ++ xs) number
    ∙ flat_map_more number_bytes (t ∷ []) (take i ns) (get_or ns i 0)
    ∙ ap (λ (xs : List ℕ). t ∷ flat_map number_bytes xs) (sym (take_more ns i 0 near)) in
    ap₂ (λ (xs ys : List ℕ). xs ++ (bs ++ ys)) kept left
    ∙ sym (append_assoc front bs (drop (1 + number_length * (i + 1)) old))
    ∙ ap (λ (xs : List ℕ). xs ++ drop (1 + number_length * (i + 1)) old) more
