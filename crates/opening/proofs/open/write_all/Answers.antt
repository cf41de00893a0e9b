use Rattle.std.proofs.Common.{◌<◌, ◌≢◌, length, arith, get_or-set_other, get_or-set_same, below_more}
use Rattle.opening.proofs.open.write_all.Goals as goal

pub loop-at-preserved : goal.loop-at-preserved
loop-at-preserved c = λ can.
    below_more
    _
    _
    (λ k h. let ne : k ≢ c.loop-at.at = omega arith in rw get_or-set_other (c.loop-at.invariant can k h))
    (let lt : c.loop-at.at < length c.loop-at.memory = omega arith in rw get_or-set_same (c.opened_word.ensures can))
