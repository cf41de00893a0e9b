-- Events as bytes: read back, one spelling, and where bytes cease to be an event.
use Rattle.std.proofs.Common.{◌≡◌, ◌≢◌, ℕ, zero, suc, ◌-◌, ◌<◌, ◌≤◌, min, true, false, ◌⊎◌, List, [], ◌∷◌, ◌++◌, length, get_or, take, replicate, sym, refl, ap, ◌∙◌, subst, inl, inr, arith, length-append, length-take}
use lib.ListN.{length-replicate}
use Rattle.std.proofs.lemmas.Bool.{and_parts, false≢true, true≢false}
use Rattle.std.proofs.lemmas.Bool.Decides.{nat_tests}
use Rattle.grounds.specs.declared.event.Event.{Event}
use Rattle.grounds.specs.declared.event.Event.TheVariants.{Get, Give, Size, Look, Garbled}
use Rattle.grounds.specs.declared.event.EventKind.{EventKind}
use Rattle.grounds.specs.Numbers.{byte, word}
use Rattle.grounds.specs.Lists.{bytes}
use Rattle.grounds.proofs.Lists.{every_append, every_take, every_replicate, bytes_from_reads}
use Rattle.grounds.specs.Events.{no_event, event_kind_number}
use Rattle.codec.specs.Bytes.{number_of, number_length, number_bytes, event_bytes, carried, CouldBegin, Longest}
use Rattle.codec.specs.Codec.{event_of, numbered, Reads}
use Rattle.codec.proofs.Numbers.{number_small, alone_only, number_only, eight_spelt, is_byte}

-- ---- read back

pub event_back : (e : Event) → carried e ≡ true → event_of (event_bytes e) ≡ e
event_back (Get n) h = grind (arith, nat_tests)
event_back (Give a) h = grind (arith, nat_tests)
event_back (Size a) h = grind (arith, nat_tests)
event_back Look h = refl
event_back (Garbled n) h = absurd (false≢true h)

-- ---- one spelling: what the bytes are that read as each

get_read : (t n : ℕ) (bs : List ℕ) → event_of (t ∷ bs) ≡ Get n → (t ≡ 0) × ((length bs ≡ number_length) × (n ≡ number_of bs))
get_read t n bs is = grind (arith, nat_tests)

give_read : (t n : ℕ) (bs : List ℕ) → event_of (t ∷ bs) ≡ Give n → (t ≡ 1) × ((length bs ≡ number_length) × (n ≡ number_of bs))
give_read t n bs is = grind (arith, nat_tests)

size_read : (t n : ℕ) (bs : List ℕ) → event_of (t ∷ bs) ≡ Size n → (t ≡ 2) × ((length bs ≡ number_length) × (n ≡ number_of bs))
size_read t n bs is = grind (arith, nat_tests)

look_read : (t : ℕ) (bs : List ℕ) → event_of (t ∷ bs) ≡ Look → (t ≡ 3) × (length bs ≡ 0)
look_read t bs is = grind (arith, nat_tests)

pub event_only : (bs : List ℕ) → bytes bs ≡ true → (e : Event) → event_of bs ≡ e → no_event e ≡ false → (carried e ≡ true) × (bs ≡ event_bytes e)
event_only [] small e is real = absurd (true≢false (ap no_event is ∙ real))
event_only (t ∷ bs) small (Get n) is real = number_only 0 t n bs small (get_read t n bs is)
event_only (t ∷ bs) small (Give a) is real = number_only 1 t a bs small (give_read t a bs is)
event_only (t ∷ bs) small (Size a) is real = number_only 2 t a bs small (size_read t a bs is)
event_only (t ∷ bs) small Look is real = (refl, alone_only 3 t bs (look_read t bs is))
event_only (t ∷ bs) small (Garbled n) is real = absurd (true≢false real)

-- ---- where bytes cease to be an event

-- what begins an event begins one that has a number, or is the whole of one that has none
abbrev Begins : ℕ → List ℕ → Type 0
Begins t bs = ((t < 3) × (length bs ≤ number_length)) ⊎ ((t ≡ 3) × (length bs ≡ 0))

begins_tells : (t : ℕ) (bs : List ℕ) → CouldBegin (t ∷ bs) → Begins t bs
begins_tells t bs (e, rest, can, is) = go e can is
  where
    go : (e : Event) → carried e ≡ true → event_bytes e ≡ (t ∷ bs) ++ rest → Begins t bs
    go (Get n) can is = let tag : t ≡ 0 = cc in inl (omega arith, omega (arith, ap length is, length-append bs rest))
    go (Give a) can is = let tag : t ≡ 1 = cc in inl (omega arith, omega (arith, ap length is, length-append bs rest))
    go (Size a) can is = let tag : t ≡ 2 = cc in inl (omega arith, omega (arith, ap length is, length-append bs rest))
    go Look can is = let tag : t ≡ 3 = cc in inr (tag, omega (arith, ap length is, length-append bs rest))
    go (Garbled n) can is = absurd (false≢true can)

-- how long a front is that begins an event
front_tells : (t : ℕ) (bs : List ℕ) (m : ℕ) → 0 < m → m ≤ suc (length bs) → CouldBegin (take m (t ∷ bs)) →
    ((t < 3) × (m ≤ suc number_length)) ⊎ ((t ≡ 3) × (m ≡ 1))
front_tells t bs zero some inside begins = absurd (omega arith)
front_tells t bs (suc m) some inside begins = grind (arith, begins_tells t (take m bs) begins, length-take m bs)

-- nothing begins every event
nothing_begins : CouldBegin []
nothing_begins = (Look, 3 ∷ [], refl, refl)

numbered_spelt : (t n : ℕ) → t < 3 → n < word → (carried (numbered t n) ≡ true) × (event_bytes (numbered t n) ≡ t ∷ number_bytes n)
numbered_spelt zero n tag small = (number_small n small, refl)
numbered_spelt (suc zero) n tag small = (number_small n small, refl)
numbered_spelt (suc (suc zero)) n tag small = (number_small n small, refl)
numbered_spelt (suc (suc (suc t))) n tag small = absurd (omega arith)

-- a front of no more than eight bytes begins a number
begin_number : (t : ℕ) (bs : List ℕ) → t < 3 → bytes bs ≡ true → length bs ≤ number_length → CouldBegin (t ∷ bs)
begin_number t bs tag small short =
    let more : ℕ = number_length - length bs in
    let zeros : List ℕ = replicate more 0 in
    let long : length (bs ++ zeros) ≡ number_length = omega (arith, length-append bs zeros, length-replicate {A = ℕ} more 0) in
    let eight = eight_spelt (bs ++ zeros) (every_append is_byte bs zeros small (every_replicate is_byte more 0 refl)) long in
    let spelt = numbered_spelt t (number_of (bs ++ zeros)) tag eight.0 in
    (numbered t (number_of (bs ++ zeros)), zeros, spelt.0, spelt.1 ∙ ap (λ (xs : List ℕ). t ∷ xs) (sym eight.1))

-- where bytes cease to be an event, by the first of them
abbrev Ceases : ℕ → List ℕ → ℕ → Type 0
Ceases t bs n =
    ((3 < t) × (n ≡ 0))
    ⊎ (((t ≡ 3) × ((0 < length bs) × (n ≡ 1))) ⊎ ((t < 3) × ((length bs ≢ number_length) × (n ≡ suc (min (length bs) number_length)))))

garbled_read : (t n : ℕ) (bs : List ℕ) → event_of (t ∷ bs) ≡ Garbled n → Ceases t bs n
garbled_read t n bs is = grind (arith, nat_tests)

pub event_where : (bs : List ℕ) → bytes bs ≡ true → (n : ℕ) → event_of bs ≡ Garbled n → Longest bs n
event_where [] small n is =
    let same : 0 ≡ n = cc in
    subst (Longest []) same (record { within = omega arith; begins = nothing_begins; longest = λ m past inside begins. omega arith })
event_where (t ∷ bs) small n is = go (garbled_read t n bs is)
  where
    go : Ceases t bs n → Longest (t ∷ bs) n
    go (inl (tag, none)) =
        subst
        (Longest (t ∷ bs))
        (sym none)
        (record {
          within = omega arith;
          begins = nothing_begins;
          longest = λ m past inside begins. grind (arith, front_tells t bs m past inside begins);
        })
    go (inr (inl (tag, (more, one)))) =
        subst
        (Longest (t ∷ bs))
        (sym one)
        (record {
          within = omega arith;
          begins = subst (λ (k : ℕ). CouldBegin (k ∷ [])) (sym tag) (Look, [], refl, refl);
          longest = λ m past inside begins. grind (arith, front_tells t bs m (omega arith) inside begins);
        })
    go (inr (inr (tag, (other, short)))) =
        let k : ℕ = min (length bs) number_length in
        let rest = (and_parts (is_byte t) (bytes bs) small).1 in
        subst
        (Longest (t ∷ bs))
        (sym short)
        (record {
          within = omega arith;
          begins = begin_number t (take k bs) tag (every_take is_byte k bs rest) (omega (arith, length-take k bs));
          longest = λ m past inside begins. grind (arith, front_tells t bs m (omega arith) inside begins);
        })

-- ---- all three, of a slice

pub event_read : (bs : List ℕ) (e : Event) → ((i : ℕ) → get_or bs i 0 < byte) → e ≡ event_of bs → Reads bs e
event_read bs e small is =
    let each : bytes bs ≡ true = bytes_from_reads bs small in
    record {
      back = λ d can spelt. is ∙ ap event_of spelt ∙ event_back d can;
      only = event_only bs each e (sym is);
      garbled = λ n there. event_where bs each n (sym is ∙ there);
    }

-- ---- a number that no event goes by

pub unknown_event : (t : ℕ) (bs : List ℕ) → ((k : EventKind) → event_kind_number k ≢ t) → Garbled 0 ≡ event_of (t ∷ bs)
unknown_event t bs none = grind (arith, nat_tests, none EventKind.Get, none EventKind.Give, none EventKind.Size, none EventKind.Look)
