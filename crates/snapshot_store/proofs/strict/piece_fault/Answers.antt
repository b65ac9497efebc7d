use Rattle.snapshot_store.proofs.Within.{fault_some}
use Rattle.snapshot_store.proofs.strict.piece_fault.Goals as goal

pub returns-in-Ok-clause-within : goal.returns-in-Ok-clause-within
returns-in-Ok-clause-within c = fault_some c.in-Ok.header.template c.args.bytes.now _ c.in-Ok.ensures.found.2 c.fault_past_header.ensures
