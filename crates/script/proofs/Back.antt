-- An event's text has the event's words, and no other line has them. Assumes nothing.
use Rattle.std.proofs.Common.{◌≡◌, ℕ, ◌^◌, ◌<◌, eqb, List, [], ◌∷◌, get_or, Ok, Err, codes, decimal, Result, sym, refl, ap, ◌∙◌, arith, MatchResult}
use Rattle.std.proofs.lemmas.Fmt.{decimal_nonempty, decimal_injective}
use Rattle.std.proofs.lemmas.Bool.{ne_eqb, or_from}
use Rattle.grounds.specs.declared.event.Event.{Event}
use Rattle.grounds.specs.declared.event.Event.TheVariants.{Get, Give, Size, Look, Garbled}
use Rattle.script.specs.declared.expected.Expected.{Expected}
use Rattle.script.specs.declared.expected.Expected.TheVariants.{Command, Number, Byte, Class, Word, End, Memory}
use Rattle.script.specs.declared.line.Line.{Line}
use Rattle.script.specs.declared.line.Line.TheVariants.{Nothing, Open, Ask, Write}
use Rattle.script.specs.Reading.{event_words, FitsEvent, line_words, FitsLine, Blames, Reads}
use Rattle.script.specs.Texts.{event_text}
use Rattle.script.specs.Words.{code, words}
use Rattle.script.proofs.Cuts.{all_code, whole_word}
use Rattle.script.proofs.Decimals.{digit}

one_number : (n : ℕ) → n < 2 ^ 64 → words (code (decimal n)) ≡ decimal n ∷ []
one_number n small =
    ap words (all_code (decimal n) (λ i less is. let at = digit n i small less in omega arith))
    ∙ whole_word (decimal n) (decimal_nonempty n small) (λ i less. let at = digit n i small less in or_from (eqb (get_or (decimal n) i 0) 32) (eqb (get_or (decimal n) i 0) 9) (ne_eqb _ 32 (λ is. omega arith)) (ne_eqb _ 9 (λ is. omega arith)))

pub event_back : (e : Event) → FitsEvent e → words (code (event_text e)) ≡ event_words e
event_back (Get n) small = ap (λ l. codes "get" ∷ l) (one_number n small)
event_back (Give n) small = ap (λ l. codes "give" ∷ l) (one_number n small)
event_back (Size n) small = ap (λ l. codes "size" ∷ l) (one_number n small)
event_back Look small = refl
event_back (Garbled n) none = absurd none

-- the first word's third letter tells the commands apart
abbrev letter : List (List ℕ) → ℕ
letter [] = 1
letter (w ∷ ws) = get_or w 2 0

abbrev second : List (List ℕ) → List ℕ
second [] = []
second (w ∷ []) = []
second (w ∷ v ∷ ws) = v

same_number : (m n : ℕ) (f : ℕ → Event) → m < 2 ^ 64 → n < 2 ^ 64 → decimal m ≡ decimal n → f m ≡ f n
same_number m n f small fits is = ap f (decimal_injective m n small fits is)

same_event : (d e : Event) → FitsEvent d → FitsEvent e → event_words d ≡ event_words e → d ≡ e
same_event (Get m) (Get n) small fits is = same_number m n Get small fits (ap second is)
same_event (Get m) (Give n) small fits is = let other = ap letter is in absurd (omega arith)
same_event (Get m) (Size n) small fits is = let other = ap letter is in absurd (omega arith)
same_event (Get m) Look small fits is = let other = ap letter is in absurd (omega arith)
same_event (Give m) (Get n) small fits is = let other = ap letter is in absurd (omega arith)
same_event (Give m) (Give n) small fits is = same_number m n Give small fits (ap second is)
same_event (Give m) (Size n) small fits is = let other = ap letter is in absurd (omega arith)
same_event (Give m) Look small fits is = let other = ap letter is in absurd (omega arith)
same_event (Size m) (Get n) small fits is = let other = ap letter is in absurd (omega arith)
same_event (Size m) (Give n) small fits is = let other = ap letter is in absurd (omega arith)
same_event (Size m) (Size n) small fits is = same_number m n Size small fits (ap second is)
same_event (Size m) Look small fits is = let other = ap letter is in absurd (omega arith)
same_event Look (Get n) small fits is = let other = ap letter is in absurd (omega arith)
same_event Look (Give n) small fits is = let other = ap letter is in absurd (omega arith)
same_event Look (Size n) small fits is = let other = ap letter is in absurd (omega arith)
same_event Look Look small fits is = refl
same_event (Get m) (Garbled n) small none is = absurd none
same_event (Give m) (Garbled n) small none is = absurd none
same_event (Size m) (Garbled n) small none is = absurd none
same_event Look (Garbled n) small none is = absurd none
same_event (Garbled m) e none fits is = absurd none

no_opening : (e : Event) (ws : List (List ℕ)) → codes "open" ∷ ws ≡ event_words e → ⊥
no_opening (Get n) ws is = let other = ap letter is in omega arith
no_opening (Give n) ws is = let other = ap letter is in omega arith
no_opening (Size n) ws is = let other = ap letter is in omega arith
no_opening Look ws is = let other = ap letter is in omega arith
no_opening (Garbled n) ws is = let other = ap letter is in omega arith

no_write : (e : Event) (ws : List (List ℕ)) → codes "write" ∷ ws ≡ event_words e → ⊥
no_write (Get n) ws is = let other = ap letter is in omega arith
no_write (Give n) ws is = let other = ap letter is in omega arith
no_write (Size n) ws is = let other = ap letter is in omega arith
no_write Look ws is = let other = ap letter is in omega arith
no_write (Garbled n) ws is = let other = ap letter is in omega arith

no_nothing : (e : Event) → [] ≡ event_words e → ⊥
no_nothing (Get n) is = let other = ap letter is in omega arith
no_nothing (Give n) is = let other = ap letter is in omega arith
no_nothing (Size n) is = let other = ap letter is in omega arith
no_nothing Look is = let other = ap letter is in omega arith
no_nothing (Garbled n) is = let other = ap letter is in omega arith

pub same_line : (l : Line) (e : Event) → FitsLine l → FitsEvent e → line_words l ≡ event_words e → l ≡ Ask e
same_line Nothing e small fits is = absurd (no_nothing e is)
same_line (Open o) e small fits is = absurd (no_opening e _ is)
same_line (Ask d) e small fits is = ap (λ (x : Event). Ask x) (same_event d e small fits is)
same_line (Write a bs) e small fits is = absurd (no_write e _ is)

pub only_memory : (e : Expected) {P : Type 0} → Blames e P → (P → ⊥) → e ≡ Memory
only_memory Command h k = absurd (k h)
only_memory Number h k = absurd (k h)
only_memory Byte h k = absurd (k h)
only_memory Class h k = absurd (k h)
only_memory (Word w) h k = absurd (k h)
only_memory End h k = absurd (k h)
only_memory Memory h k = refl

-- what reading gives of an event's text
pub back : (e : Event) (r : Result Line Expected) → Reads FitsLine line_words (words (code (event_text e))) r → FitsEvent e → MatchResult r (λ l. l ≡ Ask e) (λ d. d ≡ Memory)
back e (Ok l) read fits = same_line l e read.0 fits (sym read.1 ∙ event_back e fits)
back e (Err d) read fits = only_memory d read (λ none. none (Ask e) fits (event_back e fits))
