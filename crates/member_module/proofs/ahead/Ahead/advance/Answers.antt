use Rattle.member_module.proofs.Events.{drop_events}
use Rattle.member_module.proofs.ahead.Ahead.advance.Goals as goal

pub invariant_of-self : goal.invariant_of-self
invariant_of-self c = rw (c.drop_front.ensures, c.drop_front-2.ensures) (drop_events _ _ c.args.count c.self.invariant)
