use Rattle.std.proofs.Common.{◌≡◌, None, arith}
use Rattle.std.proofs.lemmas.Grind.{common_steps}
use Rattle.grounds.specs.Events.{refusal_number}
use Rattle.codec.specs.Codec.{refusal_of}
use Rattle.codec.proofs.Answers.{none_goes_by, unknown_refusal}
use Rattle.codec.proofs.answer.read_refused.Goals as goal

pub returns-in_err-refusal : goal.returns-in_err-refusal
returns-in_err-refusal c =
    let none : None ≡ refusal_of c.in_ok-read_number.field-0 =
    unknown_refusal _ (none_goes_by refusal_number _ c.try_from.result c.try_from.ensures c.in_err-refusal.ensures.value) in
    grind (arith, common_steps)
