use Rattle.codec.proofs.Events.{unknown_event}
use Rattle.codec.proofs.event.tagged.Goals as goal

pub returns-in_default : goal.returns-in_default
returns-in_default c = unknown_event c.args.tag c.args.rest.now c.in_default.ensures
