use Rattle.member_module.proofs.Events.{push_events}
use Rattle.member_module.proofs.ahead.Ahead.put.Goals as goal

pub invariant_of-self : goal.invariant_of-self
invariant_of-self c = rw (c.push_reserved.ensures.items, c.push_reserved-2.ensures.items) (push_events _ _ c.args.entry c.args.event c.self.invariant c.requires.event c.requires.spelled)
