use Rattle.module_state.proofs.SoundLaws.{parts_first}
use Rattle.module_state.proofs.state.ModuleState.fresh.Goals as goal

pub invariant_of-result : goal.invariant_of-result
invariant_of-result c = parts_first c.args.services c.new-2.result.table c.new-3.result c.in_ok-pending.pending c.new-4.result c.requires c.new-2.ensures c.new-3.ensures c.in_ok-pending.ensures c.new-4.ensures
