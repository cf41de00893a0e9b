use Rattle.std.proofs.Common.{◌∙◌}
use Rattle.grounds.specs.Events.{answer_kind_number}
use Rattle.codec.proofs.Answers.{none_goes_by, unknown_answer}
use Rattle.codec.proofs.answer.tagged.Goals as goal

pub returns-in_err-ok : goal.returns-in_err-ok
returns-in_err-ok c =
    let none = none_goes_by answer_kind_number c.args.tag c.try_from.result c.try_from.ensures c.in_err-ok.ensures.value in
    c.from_residual.ensures ∙ unknown_answer c.args.tag c.args.rest.now none
