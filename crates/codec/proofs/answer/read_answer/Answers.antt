use Rattle.std.proofs.Common.{rules}
use Rattle.codec.proofs.Answers.{answer_read}
use Rattle.codec.proofs.answer.read_answer.Goals as goal

pub returns-clause-reads : goal.returns-clause-reads
returns-clause-reads c = search (rules, answer_read)
