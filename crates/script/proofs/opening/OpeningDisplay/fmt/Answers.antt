use Rattle.std.proofs.Common.{ℕ, Some, codes, decimal, ap, ◌∙◌}
use Rattle.std.specs.Fmt.{option_append}
use Rattle.std.proofs.Output.{displays_on_ok_of_eq}
use Rattle.script.specs.Texts.{opening_text, row}
use Rattle.script.proofs.Rows.{row_numbers}
use Rattle.script.proofs.opening.OpeningDisplay.fmt.Goals as goal

pub returns-clause-writes : goal.returns-clause-writes
returns-clause-writes g c =
    let o = c.args.self.now in
    let classes = ap (row (λ (n : ℕ). Some (decimal n))) c.as_slice.ensures.value ∙ row_numbers _ in
    let marks = row_numbers o.marks in
    displays_on_ok_of_eq g.W.Write.write_str_gives c.args.f.now c.write.new.self c.write.result _ (Some (opening_text o))
    (λ i. option_append (Some (codes "open pages ")) (option_append (Some (decimal o.pages)) (option_append (Some (codes " classes")) (option_append (classes i) (option_append (Some (codes " rests ")) (option_append (Some (decimal o.rests)) (option_append (Some (codes " marks")) (marks i))))))))
    c.write.ensures.writes
