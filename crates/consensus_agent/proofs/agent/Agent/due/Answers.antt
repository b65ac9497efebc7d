use Rattle.std.proofs.Common.{◌≡◌, ap, subst, ◌∙◌, to_z, of_z, w64, rules}
use Rattle.member_module.specs.Held.{at_end}
use Rattle.consensus_agent.specs.Rows.{due_to}
use Rattle.consensus_agent.proofs.Due.{OfTerm, due_of_term}
use Rattle.consensus_agent.proofs.agent.Agent.due.Goals as goal

pub returns-clause-term : goal.returns-clause-term
returns-clause-term g c =
    let m = c.args.self.now.«module» in
    let term : to_z w64 (of_z w64 c.term-term.result) ≡ c.args.self.now.core.values.election.term = search rules in
    subst (λ t. OfTerm t c.in_ok-due.field-0) term (due_of_term c.in_ok-due.field-0 m.state (at_end m) m.ahead.events m.alive (to_z w64 (of_z w64 c.term-term.result)) c.args.now m.since c.in_ok-due.ensures.due)

pub returns-clause-due : goal.returns-clause-due
returns-clause-due g c =
    let term : to_z w64 (of_z w64 c.term-term.result) ≡ c.args.self.now.core.values.election.term = search rules in
    λ leads. c.in_ok-due.ensures.due ∙ ap (λ t. due_to c.args.self.now.«module» t c.args.now) term
