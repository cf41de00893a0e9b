use Rattle.std.proofs.Common.{◌≡◌, ◌^◌, Ok, sym, ◌∙◌}
use Rattle.std.specs.Cmp.Lexicographic.{same_text, other_text}
use Rattle.script.specs.Words.{left}
use Rattle.script.proofs.Listed.{plain, classes_end, no_end}
use Rattle.script.proofs.opening.take_classes.Goals as goal
use Rattle.script.proofs.opening.take_classes.Goals.{in_default-via-in-Some+else-eq, in_default-via-in_default}

pub returns-in-Some : goal.returns-in-Some
returns-in-Some c =
    let took = plain (2 ^ 64) (left c.args.words.now) (left c.take_numbers.new.self) (Ok c.in_ok-classes.classes) c.in_ok-classes.ensures.taken in
    (took.0, classes_end _ _ _ _ _ took.1 c.in-Some.ensures (same_text _ _ c.if-eq.ensures ∙ c.text.ensures))

pub returns-in_default : goal.returns-in_default
returns-in_default c = λ v rest fits is.
    let took = plain (2 ^ 64) (left c.args.words.now) (left c.take_numbers.new.self) (Ok c.in_ok-classes.classes) c.in_ok-classes.ensures.taken in
    no_end _ _ _ rest c.in_ok-classes.ensures.all
    (λ after ends. elim c.in_default.branch [
      | in_default-via-in-Some+else-eq w ↦ let same : w.in-Some.word.now ≡ w.text.result.now = cc (ends, w.in-Some.ensures, w.text.ensures) in other_text _ _ w.if-eq.ensures same
      | in_default-via-in_default w ↦ cc (ends, w.in_default.ensures)
    ]) took.0.1 fits.1 (sym took.1 ∙ is)
