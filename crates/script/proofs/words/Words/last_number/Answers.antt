use Rattle.std.proofs.Common.{◌≡◌, []}
use Rattle.script.specs.Words.{left}
use Rattle.script.proofs.Blamed.{reads_exit}
use Rattle.script.proofs.words.Words.last_number.Goals as goal

pub returns-in_err-end : goal.returns-in_err-end
returns-in_err-end c =
    let read = c.in_ok-last.ensures.takes in
    reads_exit _ _ c.from_residual-in_err-end.result _ _ _ c.from_residual-in_err-end.ensures.1 c.in_err-end.ensures
    (λ none n small is. let more : left c.take.new.self ≡ [] = cc (read.1, is) in none tt tt more)
