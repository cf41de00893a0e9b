use Rattle.std.proofs.Common.{ℕ, set, ap, ◌∙◌, arith}
use Rattle.words.proofs.Far.{set_at_most}
use Rattle.words.proofs.put_after.Goals as goal

pub returns : goal.returns
returns c =
    let m = c.args.memory.now in
    let v = c.args.value in
    c.put.ensures ∙ ap (λ (a : ℕ). set m a v) c.saturating_add.ensures ∙ set_at_most m _ v (omega arith)
