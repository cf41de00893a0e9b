use Rattle.std.proofs.Common.{◌≡◌, ℕ, ◌<◌, Bool, get_or}
use Rattle.limits.specs.Limits.{limits_in}
use Rattle.opening.specs.Opening.{opened_word}
use Rattle.opening.proofs.open.write_all.Given as goal

abbrev pub invariant-loop-at : goal.invariant-loop-at
invariant-loop-at l = (can : ℕ → Bool) (k : ℕ) → k < l.at → get_or l.memory k 0 ≡ opened_word (limits_in can l.good.limits) k
