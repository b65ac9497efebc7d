use Rattle.std.proofs.Common.{negsuc, ◌∙◌}
use Rattle.consensus_agent.proofs.Restoring.{module_goes_on}
use Rattle.consensus_agent.proofs.mounting.restored_state.Goals as goal

pub returns-clause-on : goal.returns-clause-on
returns-clause-on g c told =
    let kept = c.args.disk.now.kept in
    module_goes_on kept (g.D.Disk.state c.args.disk.now.disk).files c.args.services c.in_ok-set.set c.as_slice.result.now c.source_of-source.result.origin c.restore_module.result
    c.in_ok-set.ensures.latest c.in_ok-set.ensures.strict (c.in_ok-set.ensures.pieces told) c.as_slice.ensures c.source_of-source.ensures.origin c.restore_module.ensures.restored c.restore_module.ensures.same
