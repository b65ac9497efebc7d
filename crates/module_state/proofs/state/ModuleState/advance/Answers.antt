use Rattle.module_state.specs.Module.{Module}
use Rattle.module_state.proofs.SoundLaws.{made_of, parts_after}
use Rattle.module_state.proofs.state.ModuleState.advance.Goals as goal

pub invariant_of-self-2 : goal.invariant_of-self-2
invariant_of-self-2 c =
    let m : Module = made_of c.self.inside.sessions.table c.self.inside.timers c.self.inside.pending c.self.inside.counts in
    parts_after m c.args.e.now c.apply.new.self.table c.timers_take.new.timers c.pending_take.new.pending c.take.new.self c.requires c.self.invariant c.in_ok-apply.ensures.ok c.timers_take.ensures c.pending_take.ensures c.take.ensures
