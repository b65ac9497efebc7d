use Rattle.std.proofs.Common.{◌≡◌, ℕ, ◌-◌, take, ap, ◌∙◌, arith}
use Rattle.owed_egress.specs.Taken.{module_over, sent_over}
use Rattle.member_module.specs.Held.{Held as ModuleHeld}
use Rattle.service_phases.specs.Phases.{Lending}
use Rattle.consensus_agent.specs.Consumed.{outboxes}
use Rattle.consensus_agent.proofs.Consuming.{all_taken, one_sent, one_taken, taking_on}
use Rattle.entry_log.specs.Shape.{shape_of}
use Rattle.member_disk.specs.Kept.{Held as DiskHeld}
use Rattle.consensus_agent.proofs.Running.{on_err}
use Rattle.consensus_agent.proofs.Writing.{one_acted, stopped_none}
use Rattle.consensus_agent.proofs.agent.Agent.consume.Goals as goal

pub loop-number-preserved : goal.loop-number-preserved
loop-number-preserved g c =
    let was = c.loop-number.invariant in
    let kept = ap (λ (l : Lending). l.kept) was.services in
    record {
      taken = taking_on _ _ _ was.taken c.in_ok-take_entry.ensures.«module»;
      state = one_taken _ _ _ _ _ _ kept was.taken was.state c.in_ok-take_entry.ensures.state;
      owed = one_sent _ _ _ _ _ _ _ _ _ kept was.role was.taken was.state was.owed c.in_ok-take_entry.ensures.owed;
      actions = one_acted _ _ _ _ _ _ _ _ _ kept (ap (λ (d : DiskHeld g.row.D.Denot). shape_of d.kept.log) was.disk) was.taken was.state was.actions c.in_ok-take_entry.ensures.actions;
      services = c.take_entry.ensures.services ∙ was.services;
      core = c.take_entry.ensures.core ∙ was.core;
      disk = c.take_entry.ensures.disk ∙ was.disk;
      role = c.take_entry.ensures.role ∙ was.role;
      base = c.take_entry.ensures.base ∙ was.base;
      unfinished = c.take_entry.ensures.open;
    }

pub returns-clause-rest : goal.returns-clause-rest
returns-clause-rest g c = all_taken _ _ _ c.loop-number.invariant.taken c.advance.ensures.rest

pub returns-clause-state : goal.returns-clause-state
returns-clause-state g c rising =
    let self = c.args.self.now in
    let count : c.loop-number.number ≡ self.core.values.rest.commit - self.«module».consumed = omega arith in
    ap (λ (m : ModuleHeld). m.state) c.advance.ensures.rest
    ∙ c.loop-number.invariant.state rising
    ∙ ap (λ (n : ℕ). module_over (outboxes self.services.kept) self.«module».consumed self.«module».state (take n self.«module».ahead.events)) count

pub returns-clause-owed : goal.returns-clause-owed
returns-clause-owed g c rising =
    let self = c.args.self.now in
    let count : c.loop-number.number ≡ self.core.values.rest.commit - self.«module».consumed = omega arith in
    c.loop-number.invariant.owed rising
    ∙ ap (λ (n : ℕ). sent_over self.role (outboxes self.services.kept) self.«module».consumed self.«module».state (take n self.«module».ahead.events)) count

pub returns-in_err-take_entry-clause-stopped : goal.returns-in_err-take_entry-clause-stopped
returns-in_err-take_entry-clause-stopped g c rising =
    on_err _ (stopped_none g.D.Disk.state g.D.Disk.tells g.D.Disk.is_honest _ _ _ (c.take_entry.ensures.disk ∙ c.loop-number.invariant.disk))
