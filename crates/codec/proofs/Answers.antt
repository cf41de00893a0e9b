-- Answers as bytes: read back, and one spelling.
use Rattle.std.proofs.Common.{◌≡◌, ◌≢◌, ℕ, ◌*◌, ◌<◌, true, ltb, List, [], ◌∷◌, ◌++◌, length, get_or, take, drop, is_some, Some, None, Option, Ok, Err, Result, sym, refl, ap, ◌∙◌, ap₂, arith, length-drop, take-append-drop, length-take}
use Rattle.std.proofs.lemmas.Bool.{and_parts, and_from, false≢true}
use Rattle.std.proofs.lemmas.Bool.Decides.{nat_tests}
use Rattle.std.specs.Result.{result_ok}
use Rattle.grounds.specs.declared.answer.Refusal.{Refusal}
use Rattle.grounds.specs.declared.answer.Refusal.TheVariants.{NoEvent, OutOfRange, NotOut, NoRoom}
use Rattle.grounds.specs.declared.answer.Answer.{Answer}
use Rattle.grounds.specs.declared.answer.Answer.TheVariants.{Refused, Done, Place, Number, Overrun, Harmed, Whole}
use Rattle.grounds.specs.declared.answer.AnswerKind.{AnswerKind}
use Rattle.grounds.specs.Numbers.{byte, word}
use Rattle.grounds.specs.Lists.{bytes}
use Rattle.grounds.specs.Events.{answer_fits, answer_kind_number, GoesBy, refusal_number}
use Rattle.grounds.proofs.Lists.{every_take, every_drop, bytes_from_reads}
use Rattle.codec.specs.Bytes.{number_of, number_length, number_bytes, answer_bytes}
use Rattle.codec.specs.Codec.{answer_of, refusal_of, ReadsAnswer}
use Rattle.codec.proofs.Numbers.{number_small, alone_only, number_only, eight_spelt, is_byte}

refusal_small : (r : Refusal) → ltb (refusal_number r) word ≡ true
refusal_small NoEvent = refl
refusal_small OutOfRange = refl
refusal_small NotOut = refl
refusal_small NoRoom = refl

-- ---- read back

pub answer_back : (x : Answer) → answer_fits x ≡ true → answer_of (answer_bytes x) ≡ Some x
answer_back (Refused r a) h = grind (arith, nat_tests)
answer_back Done h = refl
answer_back (Place a) h = grind (arith, nat_tests)
answer_back (Number a) h = grind (arith, nat_tests)
answer_back (Overrun a) h = grind (arith, nat_tests)
answer_back (Harmed a) h = grind (arith, nat_tests)
answer_back Whole h = refl

-- ---- one spelling: what the bytes are that read as each

done_read : (t : ℕ) (bs : List ℕ) → answer_of (t ∷ bs) ≡ Some Done → (t ≡ 1) × (length bs ≡ 0)
done_read t bs is = grind (arith, nat_tests)

whole_read : (t : ℕ) (bs : List ℕ) → answer_of (t ∷ bs) ≡ Some Whole → (t ≡ 6) × (length bs ≡ 0)
whole_read t bs is = grind (arith, nat_tests)

place_read : (t n : ℕ) (bs : List ℕ) → answer_of (t ∷ bs) ≡ Some (Place n) → (t ≡ 2) × ((length bs ≡ number_length) × (n ≡ number_of bs))
place_read t n bs is = grind (arith, nat_tests)

number_read : (t n : ℕ) (bs : List ℕ) → answer_of (t ∷ bs) ≡ Some (Number n) → (t ≡ 3) × ((length bs ≡ number_length) × (n ≡ number_of bs))
number_read t n bs is = grind (arith, nat_tests)

overrun_read : (t n : ℕ) (bs : List ℕ) → answer_of (t ∷ bs) ≡ Some (Overrun n) → (t ≡ 4) × ((length bs ≡ number_length) × (n ≡ number_of bs))
overrun_read t n bs is = grind (arith, nat_tests)

harmed_read : (t n : ℕ) (bs : List ℕ) → answer_of (t ∷ bs) ≡ Some (Harmed n) → (t ≡ 5) × ((length bs ≡ number_length) × (n ≡ number_of bs))
harmed_read t n bs is = grind (arith, nat_tests)

refused_read : (t n : ℕ) (r : Refusal) (bs : List ℕ) → answer_of (t ∷ bs) ≡ Some (Refused r n) →
    (t ≡ 0) × ((length bs ≡ 2 * number_length) × ((refusal_number r ≡ number_of (take number_length bs)) × (n ≡ number_of (drop number_length bs))))
refused_read t n r bs is = grind (arith, nat_tests)

-- a front and a rest of eight bytes each are the bytes of two numbers
refused_only : (t n : ℕ) (r : Refusal) (bs : List ℕ) → bytes (t ∷ bs) ≡ true →
    (t ≡ 0) × ((length bs ≡ 2 * number_length) × ((refusal_number r ≡ number_of (take number_length bs)) × (n ≡ number_of (drop number_length bs)))) →
    (answer_fits (Refused r n) ≡ true) × (t ∷ bs ≡ answer_bytes (Refused r n))
refused_only t n r bs small (tag, (long, (first, second))) =
    let each : bytes bs ≡ true = (and_parts (is_byte t) (bytes bs) small).1 in
    let front : List ℕ = take number_length bs in
    let rest : List ℕ = drop number_length bs in
    let one = eight_spelt front (every_take is_byte number_length bs each) (omega (arith, length-take number_length bs)) in
    let two = eight_spelt rest (every_drop is_byte number_length bs each) (omega (arith, length-drop number_length bs)) in
    let joined : bs ≡ number_bytes (refusal_number r) ++ number_bytes n
    = sym (take-append-drop number_length bs)
    ∙ ap₂ (λ (xs ys : List ℕ). xs ++ ys) (one.1 ∙ ap number_bytes (sym first)) (two.1 ∙ ap number_bytes (sym second)) in (
      and_from (ltb (refusal_number r) word) _ (refusal_small r) (number_small n (omega (arith, two.0))),
      ap₂ (λ (j : ℕ) (xs : List ℕ). j ∷ xs) tag joined,
    )

pub answer_only : (bs : List ℕ) → bytes bs ≡ true → (x : Answer) → answer_of bs ≡ Some x → (answer_fits x ≡ true) × (bs ≡ answer_bytes x)
answer_only [] small x is = absurd (false≢true (ap is_some is))
answer_only (t ∷ bs) small (Refused r n) is = refused_only t n r bs small (refused_read t n r bs is)
answer_only (t ∷ bs) small Done is = (refl, alone_only 1 t bs (done_read t bs is))
answer_only (t ∷ bs) small (Place n) is = number_only 2 t n bs small (place_read t n bs is)
answer_only (t ∷ bs) small (Number n) is = number_only 3 t n bs small (number_read t n bs is)
answer_only (t ∷ bs) small (Overrun n) is = number_only 4 t n bs small (overrun_read t n bs is)
answer_only (t ∷ bs) small (Harmed n) is = number_only 5 t n bs small (harmed_read t n bs is)
answer_only (t ∷ bs) small Whole is = (refl, alone_only 6 t bs (whole_read t bs is))

-- ---- both, of a slice

pub answer_read : (bs : List ℕ) (r : Option Answer) → ((i : ℕ) → get_or bs i 0 < byte) → r ≡ answer_of bs → ReadsAnswer bs r
answer_read bs r small is =
    record {
      back = λ x can spelt. is ∙ ap answer_of spelt ∙ answer_back x can;
      only = λ x read. answer_only bs (bytes_from_reads bs small) x (sym is ∙ read);
    }

-- ---- a number that nothing goes by, that no answer goes by, and that no refusal goes by

pub none_goes_by : {X E : Type 0} (number : X → ℕ) (n : ℕ) (r : Result X E) → GoesBy number n r → None ≡ result_ok r → (x : X) → number x ≢ n
none_goes_by number n (Ok y) given none = absurd (false≢true (ap is_some none))
none_goes_by number n (Err e) given none = given

pub unknown_answer : (t : ℕ) (bs : List ℕ) → ((k : AnswerKind) → answer_kind_number k ≢ t) → None ≡ answer_of (t ∷ bs)
unknown_answer t bs none =
    grind (
      arith,
      nat_tests,
      none AnswerKind.Refused,
      none AnswerKind.Done,
      none AnswerKind.Place,
      none AnswerKind.Number,
      none AnswerKind.Overrun,
      none AnswerKind.Harmed,
      none AnswerKind.Whole,
    )

pub unknown_refusal : (n : ℕ) → ((r : Refusal) → refusal_number r ≢ n) → None ≡ refusal_of n
unknown_refusal n none = grind (arith, nat_tests, none NoEvent, none OutOfRange, none NotOut, none NoRoom)
