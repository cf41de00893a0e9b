use Rattle.limits.proofs.limits.Limits.memory_words.Goals as goal

pub returns : goal.returns
returns c = λ can. rw (← c.in_ok-good.ensures.same) (c.memory_words.ensures can)
