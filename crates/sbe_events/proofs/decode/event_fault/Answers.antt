use Rattle.std.proofs.Common.{sym}
use Rattle.sbe_events.specs.Laws.{no_fault}
use Rattle.sbe_events.proofs.decode.event_fault.Goals as goal

pub returns-in-Ok : goal.returns-in-Ok
returns-in-Ok c = sym (no_fault c.in-Ok.field-0 c.args.bytes.now c.in-Ok.ensures.sound)
