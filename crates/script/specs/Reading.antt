-- What reading gives. Assumes nothing: these are definitions.
--     Writes value limit w r          r is the value whose number is below the limit, and which the word w writes in decimal, or w writes none
--     IsNumber limit w r    the same of a number itself
--     event_words e, line_words l     the words of an event, and of a line
--     classes_words ns      an opening's classes, and the word that ends them
--     opening_words o       the words of an opening, after `open`
--     Below limit ns        each of the numbers ns is below the limit; SomeBelow limit ns: and there is one
--     BeginsWithNoNumber limit ws     the first of the words ws, if there is one, writes no number below the limit
--     FitsEvent e, FitsOpening o, FitsLine l        a script can have it: its numbers and bytes are in range, there is a class or a byte where one
--                           is wanted, and it is no event that stands for bytes that are none
--     Blames e P            e says that memory was wanting, or else P holds
--     Reads fits form ws r  r is what fits and has just the words ws, or says that nothing does
--     Takes fits form before after r     r is what fits and has the first of the words before, and after is what is left of them; or r says that
--                           nothing does
use Rattle.std.specs.Prelude.{◌≡◌, ℕ, ◌^◌, ◌<◌, List, [], ◌∷◌, ◌++◌, map, length, Ok, Err, vec_items, codes, decimal, Option, Result, MatchOption, ◌≢◌}
use Rattle.script.specs.declared.expected.Expected.{Expected}
use Rattle.script.specs.declared.expected.Expected.TheVariants.{Command, Number, Byte, Class, Word, End, Memory}
use Rattle.script.specs.declared.line.Line.{Line}
use Rattle.script.specs.declared.line.Line.TheVariants.{Nothing, Open, Ask, Write}
use Rattle.script.specs.declared.opening.Opening.{Opening}
use Rattle.grounds.specs.declared.event.Event.{Event}
use Rattle.grounds.specs.declared.event.Event.TheVariants.{Get, Give, Size, Look, Garbled}

abbrev pub Writes : {X : Type 0} → (X → ℕ) → ℕ → List ℕ → Option X → Type 0
Writes value limit w r = MatchOption r ((n : ℕ) → n < limit → w ≢ decimal n) (λ x. (value x < limit) × (w ≡ decimal (value x)))

abbrev pub IsNumber : ℕ → List ℕ → Option ℕ → Type 0
IsNumber = Writes (λ n. n)

abbrev pub event_words : Event → List (List ℕ)
event_words (Get n) = codes "get" ∷ decimal n ∷ []
event_words (Give a) = codes "give" ∷ decimal a ∷ []
event_words (Size a) = codes "size" ∷ decimal a ∷ []
event_words Look = codes "look" ∷ []
event_words (Garbled n) = codes "garbled" ∷ decimal n ∷ []

abbrev pub classes_words : List ℕ → List (List ℕ)
classes_words ns = map decimal ns ++ (codes "rests" ∷ [])

abbrev pub opening_words : Opening → List (List ℕ)
opening_words o = codes "pages" ∷ decimal o.pages ∷ codes "classes" ∷ (classes_words (vec_items o.classes) ++ (decimal o.rests ∷ codes "marks" ∷ map decimal o.marks))

abbrev pub line_words : Line → List (List ℕ)
line_words Nothing = []
line_words (Open o) = codes "open" ∷ opening_words o
line_words (Ask e) = event_words e
line_words (Write a bs) = codes "write" ∷ decimal a ∷ map decimal (vec_items bs)

abbrev pub FitsEvent : Event → Type 0
FitsEvent (Get n) = n < 2 ^ 64
FitsEvent (Give a) = a < 2 ^ 64
FitsEvent (Size a) = a < 2 ^ 64
FitsEvent Look = Unit {0}
FitsEvent (Garbled n) = ⊥

abbrev pub Below : ℕ → List ℕ → Type 0
Below limit [] = Unit {0}
Below limit (n ∷ ns) = (n < limit) × Below limit ns

abbrev pub SomeBelow : ℕ → List ℕ → Type 0
SomeBelow limit ns = (0 < length ns) × Below limit ns

abbrev pub BeginsWithNoNumber : ℕ → List (List ℕ) → Type 0
BeginsWithNoNumber limit ws = (n : ℕ) (rest : List (List ℕ)) → n < limit → ws ≢ decimal n ∷ rest

pub record FitsOpening (o : Opening) : Type 0 where
  pub pages : o.pages < 2 ^ 64
  pub classes : SomeBelow (2 ^ 64) (vec_items o.classes)
  pub rests : o.rests < 2 ^ 64
  pub two : length o.marks ≡ 2
  pub marks : Below 256 o.marks

abbrev pub FitsLine : Line → Type 0
FitsLine Nothing = Unit {0}
FitsLine (Open o) = FitsOpening o
FitsLine (Ask e) = FitsEvent e
FitsLine (Write a bs) = (a < 2 ^ 64) × SomeBelow 256 (vec_items bs)

abbrev pub Blames : Expected → Type 0 → Type 0
Blames Command P = P
Blames Number P = P
Blames Byte P = P
Blames Class P = P
Blames (Word k) P = P
Blames End P = P
Blames Memory P = Unit {0}

abbrev pub Reads : {X : Type 0} → (X → Type 0) → (X → List (List ℕ)) → List (List ℕ) → Result X Expected → Type 0
Reads fits form ws (Ok x) = fits x × (ws ≡ form x)
Reads {X} fits form ws (Err e) = Blames e ((x : X) → fits x → ws ≢ form x)

abbrev pub Takes : {X : Type 0} → (X → Type 0) → (X → List (List ℕ)) → List (List ℕ) → List (List ℕ) → Result X Expected → Type 0
Takes fits form before after (Ok x) = fits x × (before ≡ form x ++ after)
Takes {X} fits form before after (Err e) = Blames e ((x : X) (ws : List (List ℕ)) → fits x → before ≢ form x ++ ws)
