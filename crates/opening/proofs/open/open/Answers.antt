use Rattle.std.proofs.Common.{sym, ◌∙◌}
use Rattle.limits.specs.Limits.{limits_in}
use Rattle.opening.proofs.Whole.{not_taken, is_taken}
use Rattle.opening.proofs.open.open.Goals as goal
use Rattle.opening.proofs.open.open.Goals.{then-memory-memory_words-via-then-memory-memory_words, then-memory-memory_words-via-else-memory-memory_words+then-ground-ground_bytes}

pub returns-in_default : goal.returns-in_default
returns-in_default c =
    λ can.
    not_taken can (limits_in can c.args.limits.now) c.args.ground.now c.args.memory.now (λ may. c.in_default.ensures.refused can may.good)

pub returns-then-memory-memory_words : goal.returns-then-memory-memory_words
returns-then-memory-memory_words c =
    rw (← c.in-Some.ensures.same)
    (λ can.
    not_taken can (limits_in can c.in-Some.good.limits) c.args.ground.now c.args.memory.now
    (λ may.
    elim c.then-memory-memory_words.branch [
      | then-memory-memory_words-via-then-memory-memory_words w ↦ w.if-memory-memory_words.true (may.memory_long ∙ sym (c.memory_words.ensures can))
      | then-memory-memory_words-via-else-memory-memory_words+then-ground-ground_bytes w ↦
          w.if-ground-ground_bytes.true (may.ground_long ∙ sym (w.ground_bytes.ensures can))
    ]))

pub returns : goal.returns
returns c =
    rw (← c.in-Some.ensures.same)
    (λ can.
    is_taken can (limits_in can c.in-Some.good.limits) c.args.ground.now c.args.memory.now c.write_all.new.memory
    (record {
      good = c.in-Some.good.good can;
      memory_long = c.if-memory-memory_words.false ∙ c.memory_words.ensures can;
      ground_long = c.if-ground-ground_bytes.false ∙ c.ground_bytes.ensures can;
    })
    c.write_all.auto.memory
    (c.write_all.ensures can))
