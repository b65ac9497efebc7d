use Rattle.echo_run.proofs.Lengths.{spelled_short}
use Rattle.echo_run.proofs.places.end_behind.Goals as goal

pub event_len-requires : goal.event_len-requires
event_len-requires c = spelled_short c.args.event.now c.requires.spelled

pub end_after-requires-clause-event_len : goal.end_after-requires-clause-event_len
end_after-requires-clause-event_len c = rw c.event_len.ensures (spelled_short c.args.event.now c.requires.spelled)
