use Rattle.std.proofs.Common.{rules}
use Rattle.codec.proofs.Events.{event_read}
use Rattle.codec.proofs.event.read_event.Goals as goal

pub returns-in-Some-clause-reads : goal.returns-in-Some-clause-reads
returns-in-Some-clause-reads c = search (rules, event_read)

pub returns-in-None-clause-reads : goal.returns-in-None-clause-reads
returns-in-None-clause-reads c = search (rules, event_read)
