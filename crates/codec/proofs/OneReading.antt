-- There is one right reading of any bytes.
use Rattle.std.proofs.Common.{◌≡◌, ℕ, ◌<◌, false, ◌⊎◌, List, Some, None, Option, sym, refl, ap, inl, inr}
use Rattle.std.proofs.lemmas.Bool.{cases_order}
use Rattle.grounds.specs.declared.event.Event.{Event}
use Rattle.grounds.specs.declared.event.Event.TheVariants.{Get, Give, Size, Look, Garbled}
use Rattle.grounds.specs.declared.answer.Answer.{Answer}
use Rattle.grounds.specs.Events.{no_event}
use Rattle.codec.specs.Bytes.{Longest}
use Rattle.codec.specs.Codec.{Reads, ReadsAnswer}

one_longest : (bs : List ℕ) (m n : ℕ) → Longest bs m → Longest bs n → m ≡ n
one_longest bs m n p q = go (cases_order m n)
  where
    go : (m ≡ n) ⊎ ((m < n) ⊎ (n < m)) → m ≡ n
    go (inl e) = e
    go (inr (inl h)) = absurd (p.longest n h q.within q.begins)
    go (inr (inr h)) = absurd (q.longest m h p.within p.begins)

real_reading : (bs : List ℕ) (d e : Event) → Reads bs d → Reads bs e → no_event d ≡ false → e ≡ d
real_reading bs d e p q real = let spelt = p.only real in q.back d spelt.0 spelt.1

garbled_reading : (bs : List ℕ) (n : ℕ) (e : Event) → Reads bs (Garbled n) → Reads bs e → Garbled n ≡ e
garbled_reading bs n (Get m) p q = real_reading bs (Get m) (Garbled n) q p refl
garbled_reading bs n (Give a) p q = real_reading bs (Give a) (Garbled n) q p refl
garbled_reading bs n (Size a) p q = real_reading bs (Size a) (Garbled n) q p refl
garbled_reading bs n Look p q = real_reading bs Look (Garbled n) q p refl
garbled_reading bs n (Garbled m) p q = ap Garbled (one_longest bs n m (p.garbled n refl) (q.garbled m refl))

pub one_event : (bs : List ℕ) (d e : Event) → Reads bs d → Reads bs e → d ≡ e
one_event bs (Get m) e p q = sym (real_reading bs (Get m) e p q refl)
one_event bs (Give a) e p q = sym (real_reading bs (Give a) e p q refl)
one_event bs (Size a) e p q = sym (real_reading bs (Size a) e p q refl)
one_event bs Look e p q = sym (real_reading bs Look e p q refl)
one_event bs (Garbled n) e p q = garbled_reading bs n e p q

pub one_answer : (bs : List ℕ) (q r : Option Answer) → ReadsAnswer bs q → ReadsAnswer bs r → q ≡ r
one_answer bs (Some x) r p h = let spelt = p.only x refl in sym (h.back x spelt.0 spelt.1)
one_answer bs None None p h = refl
one_answer bs None (Some x) p h = let spelt = h.only x refl in p.back x spelt.0 spelt.1
