use Rattle.std.proofs.Common.{◌≡◌, ◌-◌, List, take, sym, subst, ap, ◌∙◌, arith}
use Rattle.owed_egress.specs.Taken.{module_over, sent_over}
use Rattle.service_container.specs.Held.{Held}
use Rattle.service_phases.specs.Phases.{Lending}
use Rattle.consensus_agent.specs.Consumed.{HaveRising, outboxes}
use Rattle.consensus_agent.specs.Written.{AreWritten, StoppedAmong, phase_snapshots}
use Rattle.consensus_agent.proofs.Running.{err_out, on_err}
use Rattle.consensus_agent.proofs.Phasing.{came_back, commit_in, idle_at}
use Rattle.consensus_agent.proofs.agent.Agent.phase_end.Goals as goal

pub returns-clause-idle : goal.returns-clause-idle
returns-clause-idle g c =
    let first : c.consume.new.self.«module».consumed ≡ c.args.self.now.core.values.rest.commit = omega (arith, c.in_ok-sent.ensures.consumed, c.requires.place) in
    let all = c.end.ensures.place c.args.self.now.core.values.rest.commit c.requires.commit c.requires.ended in
    idle_at c.consume.new.self.services c.consume.new.self.«module».consumed c.consume.new.self.core.values.rest.commit c.args.self.now.core.values.rest.commit c.consume.new.self.over c.args.served
    (c.in_ok-sent.ensures.services ∙ came_back _ _ c.args.served c.requires.kept c.end.ensures.kept)
    first
    (ap commit_in c.in_ok-sent.ensures.core)
    c.requires.bound
    all

pub returns-clause-state : goal.returns-clause-state
returns-clause-state g c rising =
    let self = c.args.self.now in
    let kept = ap (λ (l : Lending). l.kept) (came_back _ _ c.args.served c.requires.kept c.end.ensures.kept) in
    subst (λ (cs : List Held). c.consume.new.self.«module».state ≡ module_over (outboxes cs) self.«module».consumed self.«module».state (take (self.core.values.rest.commit - self.«module».consumed) self.«module».ahead.events)) kept
    (c.in_ok-sent.ensures.state (subst HaveRising (sym kept) rising))

pub returns-clause-owed : goal.returns-clause-owed
returns-clause-owed g c rising =
    let self = c.args.self.now in
    let kept = ap (λ (l : Lending). l.kept) (came_back _ _ c.args.served c.requires.kept c.end.ensures.kept) in
    subst (λ (cs : List Held). c.in_ok-sent.sent ≡ sent_over self.role (outboxes cs) self.«module».consumed self.«module».state (take (self.core.values.rest.commit - self.«module».consumed) self.«module».ahead.events)) kept
    (c.in_ok-sent.ensures.owed (subst HaveRising (sym kept) rising))

pub returns-clause-written : goal.returns-clause-written
returns-clause-written g c rising =
    let self = c.args.self.now in
    let kept = ap (λ (l : Lending). l.kept) (came_back _ _ c.args.served c.requires.kept c.end.ensures.kept) in
    subst (λ (cs : List Held). AreWritten g.D.Disk.state g.D.Disk.tells g.D.Disk.is_honest (phase_snapshots cs self.disk.kept.log self.«module» (self.core.values.rest.commit - self.«module».consumed)) self.disk c.consume.new.self.disk) kept
    (c.in_ok-sent.ensures.written (subst HaveRising (sym kept) rising))

pub returns-in_err-sent-clause-stopped : goal.returns-in_err-sent-clause-stopped
returns-in_err-sent-clause-stopped g c rising =
    let self = c.args.self.now in
    let kept = ap (λ (l : Lending). l.kept) (came_back _ _ c.args.served c.requires.kept c.end.ensures.kept) in
    on_err _ (subst (λ (cs : List Held). StoppedAmong g.D.Disk.state g.D.Disk.tells g.D.Disk.is_honest (phase_snapshots cs self.disk.kept.log self.«module» (self.core.values.rest.commit - self.«module».consumed)) self.disk c.consume.new.self.disk) kept
    (err_out c.consume.result _ c.in_err-sent.was (c.consume.ensures.stopped (subst HaveRising (sym kept) rising))))
