use Rattle.module_state.specs.Module.{Module}
use Rattle.module_state.proofs.SoundLaws.{made_of, parts_asked, timers_alone}
use Rattle.module_state.proofs.state.ModuleState.on_command.Goals as goal

pub invariant_of-self-in_err-pending_ask : goal.invariant_of-self-in_err-pending_ask
invariant_of-self-in_err-pending_ask c =
    let m : Module = made_of c.self.inside.sessions.table c.self.inside.timers c.self.inside.pending c.self.inside.counts in
    timers_alone m c.args.service c.args.c.now c.timers_ask.new.timers c.pending_ask.new.pending c.timers_ask.ensures.fits c.self.invariant c.in_ok-timers_ask.ensures.ok c.in_err-pending_ask.ensures.err

pub invariant_of-self-2 : goal.invariant_of-self-2
invariant_of-self-2 c =
    let m : Module = made_of c.self.inside.sessions.table c.self.inside.timers c.self.inside.pending c.self.inside.counts in
    parts_asked m c.args.service c.args.c.now c.sessions_ask.new.sessions.table c.timers_ask.new.timers c.pending_ask.new.pending c.timers_ask.ensures.fits c.self.invariant c.sessions_ask.ensures c.in_ok-timers_ask.ensures.ok c.in_ok-pending_ask.ensures.ok
