use Rattle.std.proofs.Common.{ℕ, List, ◌∙◌, subst}
use Rattle.script.specs.Reading.{FitsLine, Reads, line_words}
use Rattle.script.specs.Words.{code, words}
use Rattle.script.proofs.Back.{back}
use Rattle.script.proofs.line.read_back.Goals as goal

pub returns : goal.returns
returns c =
    back c.args.event c.read_line.result
    (subst (λ (bs : List ℕ). Reads FitsLine line_words (words (code bs)) c.read_line.result) (c.as_str.ensures.value ∙ c.in_ok-text.ensures.ok) c.read_line.ensures)
