use Rattle.member_module.proofs.Events.{take_events}
use Rattle.member_module.proofs.ahead.Ahead.cut.Goals as goal

pub invariant_of-self : goal.invariant_of-self
invariant_of-self c = rw (c.truncate.ensures.items, c.truncate-2.ensures.items) (take_events _ _ c.args.count c.self.invariant)
