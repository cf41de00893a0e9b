use Rattle.std.proofs.Common.{◌≡◌, [], Ok, sym, ◌∙◌}
use Rattle.script.specs.Words.{left}
use Rattle.script.proofs.Listed.{plain, all_taken}
use Rattle.script.proofs.line.read_bytes.Goals as goal

pub returns-in-Some : goal.returns-in-Some
returns-in-Some c = λ v fits is.
    let took = plain 256 (left c.args.words) (left c.take_numbers.new.self) (Ok c.in_ok-bytes.bytes) c.in_ok-bytes.ensures.taken in
    let none : left c.take_numbers.new.self ≡ [] = all_taken 256 _ _ _ c.in_ok-bytes.ensures.all fits.1 (sym took.1 ∙ is) in
    cc (none, c.in-Some.ensures)
