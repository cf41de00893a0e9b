use Rattle.limits.proofs.limits.Limits.ground_bytes.Goals as goal

pub returns : goal.returns
returns c = λ can. rw (← c.in_ok-good.ensures.same) (c.ground_bytes.ensures can)
