use Rattle.std.proofs.Common.{◌≡◌, None, ap, ◌∙◌, subst}
use Rattle.std.specs.Prelude.{IfSome}
use Rattle.module_state.specs.Module.{tentative}
use Rattle.member_module.specs.Held.{with_coming}
use Rattle.member_module.proofs.Events.{past_is}
use Rattle.member_module.proofs.module.MemberModule.expect_next.Goals as goal

pub invariant_of-self-2 : goal.invariant_of-self-2
invariant_of-self-2 c =
    let none : c.self.inside.coming ≡ None = ap (λ v. v.coming) c.self.view_is ∙ c.requires.coming in
    let was = subst (λ o. IfSome c.self.inside.latest (λ t. t ≡ tentative c.self.inside.state (with_coming o c.self.inside.ahead.events))) none c.self.invariant.0 in
    (rw c.reserve.ensures.events (past_is c.self.inside.state c.self.inside.ahead.events c.args.event c.self.inside.latest c.bring_past.new.latest was c.in_ok-bring_past.ensures.ok), c.requires.spelled, c.self.invariant.2)
