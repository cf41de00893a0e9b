-- Where an opening has the words that are left, what was taken of them is its front: so what could not be taken is in no opening.
use Rattle.std.proofs.Common.{◌≡◌, ℕ, List, ◌∷◌, ◌++◌, map, vec_items, codes, decimal, sym, ◌∙◌}
use Rattle.script.specs.declared.opening.Opening.{Opening}
use Rattle.script.specs.Reading.{FitsOpening, classes_words, opening_words}
use Rattle.script.specs.Words.{left}
use Rattle.script.proofs.Blamed.{reads_exit}
use Rattle.script.proofs.Listed.{tails, same_after, no_first, no_second, no_third}
use Rattle.script.proofs.opening.read_opening.Goals as goal
use Rattle.script.proofs.opening.read_opening.Goals.{In_ok-take_keyword, In_ok-pages, In_ok-classes, In_ok-take_keyword-3}

abbrev from_rests : Opening → List (List ℕ)
from_rests o = decimal o.rests ∷ codes "marks" ∷ map decimal o.marks

abbrev from_classes : Opening → List (List ℕ)
from_classes o = codes "classes" ∷ (classes_words (vec_items o.classes) ++ from_rests o)

at_classes : (c : In_ok-pages) (o : Opening) → left c.args.words ≡ opening_words o → left c.take.new.self ≡ from_classes o
at_classes c o is = tails c.in_ok-pages.ensures.takes.1 (tails c.in_ok-take_keyword.ensures.1 is)

at_rests : (c : In_ok-classes) (o : Opening) → FitsOpening o → left c.args.words ≡ opening_words o → left c.take_classes.new.words ≡ from_rests o
at_rests c o fits is =
    let took = c.in_ok-classes.ensures in
    same_after _ _ _ _ took.0.1 fits.classes.1
    (sym took.1 ∙ tails c.in_ok-take_keyword-2.ensures.1 (tails c.in_ok-pages.ensures.takes.1 (tails c.in_ok-take_keyword.ensures.1 is)))

at_marks : (c : In_ok-take_keyword-3) (o : Opening) → left c.take_classes.new.words ≡ from_rests o → left c.take_keyword-3.new.self ≡ map decimal o.marks
at_marks c o is = tails c.in_ok-take_keyword-3.ensures.1 (tails c.in_ok-rests.ensures.takes.1 is)

pub returns-in_err-take_keyword : goal.returns-in_err-take_keyword
returns-in_err-take_keyword c =
    reads_exit _ _ c.from_residual.result _ _ _ c.from_residual.ensures.1 c.in_err-take_keyword.ensures (λ none o fits is. none tt _ tt is)

pub returns-in_err-take_keyword-2 : goal.returns-in_err-take_keyword-2
returns-in_err-take_keyword-2 c =
    reads_exit _ _ c.from_residual-in_err-take_keyword-2.result _ _ _ c.from_residual-in_err-take_keyword-2.ensures.1 c.in_err-take_keyword-2.ensures
    (λ none o fits is. none tt _ tt (at_classes (goal.at.returns-in_err-take_keyword-2 c).In_ok-pages o is))

pub returns-in_err-rests : goal.returns-in_err-rests
returns-in_err-rests c =
    reads_exit _ _ c.from_residual-in_err-rests.result _ _ _ c.from_residual-in_err-rests.ensures.1 c.in_err-rests.ensures.takes
    (λ none o fits is. none o.rests _ fits.rests (at_rests (goal.at.returns-in_err-rests c).In_ok-classes o fits is))

pub returns-in_err-take_keyword-3 : goal.returns-in_err-take_keyword-3
returns-in_err-take_keyword-3 c =
    reads_exit _ _ c.from_residual-in_err-take_keyword-3.result _ _ _ c.from_residual-in_err-take_keyword-3.ensures.1 c.in_err-take_keyword-3.ensures
    (λ none o fits is. none tt _ tt (tails c.in_ok-rests.ensures.takes.1 (at_rests (goal.at.returns-in_err-take_keyword-3 c).In_ok-classes o fits is)))

pub returns-in_err-first : goal.returns-in_err-first
returns-in_err-first c =
    reads_exit _ _ c.from_residual-in_err-first.result _ _ _ c.from_residual-in_err-first.ensures.1 c.in_err-first.ensures.takes
    (λ none o fits is.
    let at = goal.at.returns-in_err-first c in
    no_first _ o.marks fits.two fits.marks (at_marks at.In_ok-take_keyword-3 o (at_rests at.In_ok-classes o fits is)) none)

pub returns-in_err-second : goal.returns-in_err-second
returns-in_err-second c =
    reads_exit _ _ c.from_residual-in_err-second.result _ _ _ c.from_residual-in_err-second.ensures.1 c.in_err-second.ensures.takes
    (λ none o fits is.
    let at = goal.at.returns-in_err-second c in
    no_second _ _ _ o.marks c.in_ok-first.ensures.takes.1 fits.two fits.marks (at_marks at.In_ok-take_keyword-3 o (at_rests at.In_ok-classes o fits is)) none)

pub returns-in_err-end : goal.returns-in_err-end
returns-in_err-end c =
    reads_exit _ _ c.from_residual-in_err-end.result _ _ _ c.from_residual-in_err-end.ensures.1 c.in_err-end.ensures
    (λ none o fits is.
    let at = goal.at.returns-in_err-end c in
    no_third _ _ _ _ _ o.marks c.in_ok-first.ensures.takes.1 c.in_ok-second.ensures.takes.1 fits.two (at_marks at.In_ok-take_keyword-3 o (at_rests at.In_ok-classes o fits is)) (none tt tt))
