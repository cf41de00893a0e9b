use Rattle.script.proofs.Blamed.{reads_exit}
use Rattle.script.proofs.Commands.{look_only}
use Rattle.script.proofs.event.read_event.Goals as goal

pub returns-in_err-end-in-look : goal.returns-in_err-end-in-look
returns-in_err-end-in-look c =
    reads_exit _ _ c.from_residual-in_err-end-in-look.result _ _ _ c.from_residual-in_err-end-in-look.ensures.1 c.in_err-end-in-look.ensures
    (λ none. look_only _ _ c.in-look.is (none tt tt))
