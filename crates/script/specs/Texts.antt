-- What is printed. Assumes nothing: these are definitions.
--     event_text e, answer_text x     an event and an answer in words
--     row f xs              the texts that f gives of the values xs, each after a blank, where f gives them all
--     numbers ns            the same of numbers in decimal
--     keyword_text k        a word of an opening
--     expected_text e       why a line cannot be read
--     opening_text o, line_text l     an opening, and a line, with one blank between its words
--     told_text t           a line with its answer
--     complaint_text c      which line of which file cannot be read, and why
use Rattle.std.specs.Prelude.{ℕ, List, [], ◌∷◌, ◌++◌, Some, vec_items, codes, decimal, Option}
use Rattle.std.specs.Fmt.{option_append}
use Rattle.script.specs.declared.complaint.Complaint.{Complaint}
use Rattle.script.specs.declared.line.Line.{Line}
use Rattle.script.specs.declared.line.Line.TheVariants.{Nothing, Open, Ask, Write}
use Rattle.script.specs.declared.opening.Opening.{Opening}
use Rattle.script.specs.declared.told.Told.{Told}
use Rattle.script.specs.declared.keyword.Keyword.{Keyword}
use Rattle.script.specs.declared.keyword.Keyword.TheVariants.{Pages, Classes, Rests, Marks}
use Rattle.script.specs.declared.expected.Expected.{Expected}
use Rattle.script.specs.declared.expected.Expected.TheVariants.{Command, Byte, Class, Word, End, Memory}
use Rattle.script.specs.declared.expected.Expected.TheVariants as expected
use Rattle.grounds.specs.Events.{refusal_number}
use Rattle.grounds.specs.declared.event.Event.{Event}
use Rattle.grounds.specs.declared.event.Event.TheVariants.{Get, Give, Size, Look, Garbled}
use Rattle.grounds.specs.declared.answer.Answer.{Answer}
use Rattle.grounds.specs.declared.answer.Answer.TheVariants.{Refused, Done, Place, Number, Overrun, Harmed, Whole}

abbrev pub event_text : Event → List ℕ
event_text (Get n) = codes "get " ++ decimal n
event_text (Give a) = codes "give " ++ decimal a
event_text (Size a) = codes "size " ++ decimal a
event_text Look = codes "look"
event_text (Garbled n) = codes "garbled " ++ decimal n

abbrev pub answer_text : Answer → List ℕ
answer_text (Refused r a) = codes "refused " ++ (decimal (refusal_number r) ++ (codes " " ++ decimal a))
answer_text Done = codes "done"
answer_text (Place a) = codes "place " ++ decimal a
answer_text (Number n) = codes "number " ++ decimal n
answer_text (Overrun a) = codes "overrun " ++ decimal a
answer_text (Harmed a) = codes "harmed " ++ decimal a
answer_text Whole = codes "whole"

abbrev pub row : {X : Type 0} → (X → Option (List ℕ)) → List X → Option (List ℕ)
row f [] = Some []
row f (x ∷ xs) = option_append (option_append (Some (codes " ")) (f x)) (row f xs)

abbrev pub numbers : List ℕ → List ℕ
numbers [] = []
numbers (n ∷ ns) = codes " " ++ (decimal n ++ numbers ns)

abbrev pub keyword_text : Keyword → List ℕ
keyword_text Pages = codes "pages"
keyword_text Classes = codes "classes"
keyword_text Rests = codes "rests"
keyword_text Marks = codes "marks"

abbrev pub expected_text : Expected → List ℕ
expected_text Command = codes "expected open, get, give, size, look or write"
expected_text expected.Number = codes "expected a number in decimal with no leading zeros"
expected_text Byte = codes "expected a byte, 0 to 255, in decimal with no leading zeros"
expected_text Class = codes "expected a class in decimal with no leading zeros, or the word rests"
expected_text (Word k) = codes "expected the word " ++ keyword_text k
expected_text End = codes "expected the end of the line"
expected_text Memory = codes "expected more memory than there is"

abbrev pub opening_text : Opening → List ℕ
opening_text o =
    codes "open pages " ++ (decimal o.pages ++ (codes " classes" ++ (numbers (vec_items o.classes) ++ (codes " rests " ++ (decimal o.rests ++ (codes " marks" ++ numbers o.marks))))))

abbrev pub line_text : Line → List ℕ
line_text Nothing = []
line_text (Open o) = opening_text o
line_text (Ask e) = event_text e
line_text (Write a bs) = codes "write " ++ (decimal a ++ numbers (vec_items bs))

abbrev pub told_text : Told → List ℕ
told_text t = line_text t.line.now ++ (codes " -> " ++ answer_text t.answer)

abbrev pub complaint_text : Complaint → List ℕ
complaint_text c = c.file.now ++ (codes ":" ++ (decimal c.line ++ (codes ": " ++ (expected_text c.expected ++ (codes ", in: " ++ c.text.now)))))
