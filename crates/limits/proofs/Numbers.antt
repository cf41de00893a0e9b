-- Numbers read one after the other have the bytes that they are read from.
use Rattle.std.proofs.Common.{◌≡◌, ℕ, zero, suc, map, ◌/◌, ◌%◌, ◌*◌, true, List, ◌++◌, length, take, drop, sym, ap, ◌∙◌, ap₂, arith, length-drop, take-append-drop, length-take}
use Rattle.std.specs.List.{flat_map}
use Rattle.std.specs.Simd.{first_chunks}
use Rattle.std.proofs.lemmas.List.{take_all, nil_from_length}
use Rattle.grounds.specs.Lists.{bytes}
use Rattle.grounds.proofs.Lists.{every_take, every_drop}
use Rattle.codec.specs.Bytes.{number_bytes, number_length, number_of}
use Rattle.codec.proofs.Numbers.{eight_spelt, is_byte}

-- numbers read from eights have the bytes of these
eights_read : (k : ℕ) (bs : List ℕ) → bytes bs ≡ true → length bs ≡ number_length * k →
    flat_map number_bytes (map number_of (first_chunks number_length k bs)) ≡ bs
eights_read zero bs small whole = sym (nil_from_length bs (omega arith))
eights_read (suc k) bs small whole =
    let eight : number_bytes (number_of (take number_length bs)) ≡ take number_length bs
    = sym (eight_spelt (take number_length bs) (every_take is_byte number_length bs small) (omega (arith, length-take number_length bs))).1 in
    let others : flat_map number_bytes (map number_of (first_chunks number_length k (drop number_length bs))) ≡ drop number_length bs
    = eights_read k (drop number_length bs) (every_drop is_byte number_length bs small) (omega (arith, length-drop number_length bs)) in
    ap₂ (λ (xs ys : List ℕ). xs ++ ys) eight others ∙ take-append-drop number_length bs

pub all_read : (bs table : List ℕ) (eights : List (List ℕ)) (i : ℕ) → bytes bs ≡ true → eights ≡ first_chunks number_length (length bs / number_length) bs →
    length bs % number_length ≡ 0 → i ≡ length eights → take i table ≡ map number_of (take i eights) → bs ≡ flat_map number_bytes (take i table)
all_read bs table eights i small front whole done so_far =
    let all : map number_of (take i eights) ≡ map number_of (first_chunks number_length (length bs / number_length) bs)
    = ap (map number_of) (take_all i eights (omega arith) ∙ front) in
    sym (eights_read (length bs / number_length) bs small (omega arith)) ∙ sym (ap (flat_map number_bytes) (so_far ∙ all))
