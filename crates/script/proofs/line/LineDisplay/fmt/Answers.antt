use Rattle.std.proofs.Common.{ℕ, List, Some, codes, decimal, Option, sym, ap, ◌∙◌}
use Rattle.std.specs.Fmt.{option_append}
use Rattle.std.proofs.Output.{displays_on_ok_of_eq}
use Rattle.script.specs.Texts.{line_text, row}
use Rattle.script.specs.declared.line.Line.{Line}
use Rattle.script.proofs.Rows.{row_numbers}
use Rattle.script.proofs.line.LineDisplay.fmt.Goals as goal

pub returns-in-Write-clause-writes : goal.returns-in-Write-clause-writes
returns-in-Write-clause-writes g c =
    let bytes = ap (row (λ (n : ℕ). Some (decimal n))) c.as_slice.ensures.value ∙ row_numbers _ in
    displays_on_ok_of_eq g.W.Write.write_str_gives c.args.f.now c.write-in-Write.new.self c.write-in-Write.result _ (Some (line_text c.args.self.now))
    (ap (λ (o : Option (List ℕ)). option_append (Some (codes "write ")) (option_append (Some (decimal c.in-Write.place)) o)) bytes ∙ sym (ap (λ (l : Line). Some (line_text l)) c.in-Write.is))
    c.write-in-Write.ensures.writes
