-- Memory each of whose words is as said is all of it as said; and so an opening is as said, whether it is taken or not.
use Rattle.std.proofs.Common.{◌≡◌, ℕ, ◌<◌, Bool, List, map, length, get_or, sym, refl, ◌∙◌, arith}
use Rattle.std.proofs.lemmas.List.{ext_get_or}
use Rattle.std.specs.List.{range_with_len}
use Rattle.std.proofs.lemmas.List.FromFn.{length-map-range_with_len, get_or-map-range_with_len}
use Rattle.grounds.specs.declared.answer.Answer.TheVariants.{Done, Refused}
use Rattle.grounds.specs.declared.answer.Refusal.TheVariants.{OutOfRange}
use Rattle.grounds.specs.Blocks.{Limits, memory_words}
use Rattle.grounds.specs.Promises.{MayOpen}
use Rattle.opening.specs.Opening.{Opening, opened_word}

all_written : (f : ℕ → ℕ) (m : List ℕ) (n : ℕ) → length m ≡ n → ((i : ℕ) → i < length m → get_or m i 0 ≡ f i) → m ≡ map f (range_with_len 0 n)
all_written f m n long each =
    ext_get_or
    0
    m
    (map f (range_with_len 0 n))
    (long ∙ sym (length-map-range_with_len f 0 n))
    (λ i near. each i near ∙ sym (get_or-map-range_with_len f 0 n i i 0 (omega (arith, long, near)) (omega arith)))

pub not_taken : (can : ℕ → Bool) (l : Limits) (g m : List ℕ) → (MayOpen can m g l → ⊥) → Opening can l g m m (Refused OutOfRange 0)
not_taken can l g m cannot = ((λ may. absurd (cannot may)), (λ _. (refl, refl)))

pub is_taken : (can : ℕ → Bool) (l : Limits) (g m new : List ℕ) → MayOpen can m g l → length new ≡ length m →
    ((i : ℕ) → i < length new → get_or new i 0 ≡ opened_word l i) → Opening can l g m new Done
is_taken can l g m new may long each =
    ((λ _. (refl, all_written (opened_word l) new (memory_words l) (long ∙ may.memory_long) each)), (λ cannot. absurd (cannot may)))
