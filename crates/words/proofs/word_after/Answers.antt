use Rattle.std.proofs.Common.{ℕ, get_or, ap, ◌∙◌, arith}
use Rattle.words.proofs.Far.{read_at_most}
use Rattle.words.proofs.word_after.Goals as goal

pub returns : goal.returns
returns c =
    let m = c.args.memory.now in
    c.word.ensures ∙ ap (λ (a : ℕ). get_or m a 0) c.saturating_add.ensures ∙ read_at_most m _ (omega arith)
