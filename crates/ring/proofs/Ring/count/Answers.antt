use Rattle.std.proofs.Common.{sym, ◌∙◌}
use Rattle.ring.proofs.Held.{held_long}
use Rattle.ring.proofs.Ring.count.Goals as goal

pub returns : goal.returns
returns c = record { words = c.word_after.ensures; long = c.word_after.ensures ∙ sym (held_long c.args.self c.args.memory.now) }
