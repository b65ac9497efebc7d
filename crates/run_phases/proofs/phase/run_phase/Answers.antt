use Rattle.std.proofs.Common.{rules, ◌≡◌, ◌-◌, ◌∙◌, arith, OnErr, OnOk, IfOk, List, map, take, sym, ap, subst}
use Rattle.consensus_agent.specs.Consumed.{outboxes}
use Rattle.consensus_agent.specs.Phases.{stage}
use Rattle.consensus_core.specs.Fit.{Held as CoreHeld}
use Rattle.commit_counter.specs.declared.role.Role.{Role}
use Rattle.member_module.specs.Held.{Held as ModuleHeld}
use Rattle.owed_egress.specs.Taken.{module_over, sent_over}
use Rattle.service_container.specs.Held.{Held}
use Rattle.service_phases.specs.Pairs.{Each, Each2}
use Rattle.service_phases.specs.Phases.{HasEndedWell, IsWithin, Lending, forgetting}
use Rattle.service_phases.specs.Stages.{Stage}
use Rattle.run_phases.specs.Grown.{GoesOn}
use Rattle.run_phases.proofs.Stages.{begins_runs, may_serve, run_back, ends_due, ends_bound, goes_on_runs}
use Rattle.run_phases.proofs.Grown.{all_grew, all_none, all_ran, all_rising, all_whole, began_lent, came_grown, forgot_grown, kept_back}
use Rattle.run_phases.proofs.Fronts.{ahead_same, commit_in, all_ends, all_to_within, back_all, back_within, begun_log, forgot_within, next_log}
use Rattle.run_phases.proofs.Results.{on_fault, on_ok}
use Rattle.consensus_agent.specs.Written.{AreWritten, StoppedAmong, phase_snapshots}
use Rattle.consensus_agent.proofs.Running.{on_err}
use Rattle.consensus_agent.proofs.Writing.{stopped_none}
use Rattle.member_disk.specs.Kept.{Held as DiskHeld}
use Rattle.run_phases.proofs.Short.{any_all, any_within}
use Rattle.run_phases.proofs.phase.run_phase.Goals as goal

pub lend-requires-clause-may : goal.lend-requires-clause-may
lend-requires-clause-may g c κs within = may_serve _ _ _ c.loop.invariant.runs

pub phase_drop-requires : goal.phase_drop-requires
phase_drop-requires g c = record { run = run_back _ _ _ _ _ _ c.loop.invariant.runs c.drive-fed.ensures.ended c.lend.ensures c.take_back-served.ensures.ran }

pub phase_drop-requires-then-not-have_ended : goal.phase_drop-requires-then-not-have_ended
phase_drop-requires-then-not-have_ended g c = record { run = run_back _ _ _ _ _ _ c.loop.invariant.runs c.drive-fed.ensures.ended c.lend.ensures c.take_back-served.ensures.ran }

pub phase_end-requires-clause-run : goal.phase_end-requires-clause-run
phase_end-requires-clause-run g c = run_back _ _ _ _ _ _ c.loop.invariant.runs c.drive-fed.ensures.ended c.lend.ensures c.take_back-served.ensures.ran

pub next_images-requires-clause-run : goal.next_images-requires-clause-run
next_images-requires-clause-run g c = run_back _ _ _ _ _ _ c.loop.invariant.runs c.drive-fed.ensures.ended c.lend.ensures c.take_back-served.ensures.ran

pub have_published-requires : goal.have_published-requires
have_published-requires g c = rw (c.as_slice-in-loop.ensures, c.commit-in-loop.ensures) (ends_due _ _ _ c.drive-fed.ensures.ended)

pub next_images-requires-clause-bound : goal.next_images-requires-clause-bound
next_images-requires-clause-bound g c = ends_bound _ _ _ c.loop.invariant.feeding.bound c.drive-fed.ensures.ended

pub loop-init : goal.loop-init
loop-init g c =
    let a = c.args.agent.now in
    let b = c.phase_begin.new.self in
    let s : Stage = stage a.services a.module a.core a.over in
    let t : Stage = stage b.services b.module b.core b.over in
    let begun = c.in_ok-feeds.ensures.begun in
    let r = begins_runs s t _ _ c.requires.idle begun in
    let lent : b.services.lent ≡ map forgetting a.services.kept = began_lent _ b.services _ _ begun.began in
    record {
      runs = r.0;
      feeding = r.1;
      place = (let p = c.requires.idle.place in omega (arith, p, begun.first, begun.commit));
      kept = r.2;
      on = begun.over;
      none = c.requires.none;
      due = search rules;
      held = c.phase_begin.ensures.module;
      core = c.phase_begin.ensures.core;
      base = c.phase_begin.ensures.base;
      disk = c.phase_begin.ensures.disk;
      role = c.in_ok-feeds.ensures.role;
      grew = subst (Each2 GoesOn (map forgetting a.services.kept)) (sym lent) (all_none (map forgetting a.services.kept));
      log = λ log is reach within. begun_log log s t _ _ c.requires.idle begun reach within;
    }

pub loop-preserved : goal.loop-preserved
loop-preserved g c =
    let i = c.loop.invariant in
    let ran = run_back _ _ _ _ _ _ i.runs c.drive-fed.ensures.ended c.lend.ensures c.take_back-served.ensures.ran in
    let a = c.loop.agent in
    let b = c.next_images.new.self in
    let s : Stage = stage a.services a.module a.core a.over in
    let t : Stage = stage b.services b.module b.core b.over in
    let first : t.first ≡ s.first = λ j. (stage b.services (c.next_images.ensures.module j) b.core b.over).first in
    let commit : t.commit ≡ s.commit = λ j. (stage b.services b.module (c.next_images.ensures.core j) b.over).commit in
    let ended : Each HasEndedWell c.take_back-served.result = search rules in
    let over = c.next_images.ensures.over ∙ i.on in
    let began = c.in_ok-next.ensures.began in
    let r = goes_on_runs s t _ _ _ _ first commit over c.next_images.ensures.closed began i.runs.lent ran ended (ends_due _ _ _ c.drive-fed.ensures.ended) i.feeding.bound in
    let cs = map forgetting c.args.agent.now.services.kept in
    record {
      runs = r.0;
      feeding = r.1;
      place = (let p = i.place in omega (arith, first, commit, p));
      kept = r.2;
      on = over;
      none = c.take_back-served.ensures.none;
      due = i.due;
      held = c.next_images.ensures.module ∙ i.held;
      core = c.next_images.ensures.core ∙ i.core;
      base = c.next_images.ensures.base ∙ i.base;
      disk = c.next_images.ensures.disk ∙ i.disk;
      role = c.next_images.ensures.role ∙ i.role;
      grew = subst (Each2 GoesOn cs) (sym (began_lent _ _ _ _ began)) (all_ran _ cs _ _ i.grew i.runs.lent ran.ran);
      log = λ log is reach within.
          let has = i.log log is reach within in
          let from = c.drive-fed.ensures.log log a.services.begun (ahead_same log _ _ i.held is) has.fed in
          next_log log s t _ _ _ _ commit began ran.ran c.next_images.ensures.closed from (c.next_images.ensures.within log s.commit has.lent (all_ends _ _ _ _ from));
    }

-- ---- no phase began

pub returns-in_err-feeds-clause-grew : goal.returns-in_err-feeds-clause-grew
returns-in_err-feeds-clause-grew g c due = forgot_grown _ _ (ap (λ (l : Lending). l.kept) c.in_err-feeds.ensures.forgot)

pub returns-in_err-feeds-clause-within : goal.returns-in_err-feeds-clause-within
returns-in_err-feeds-clause-within g c log is within =
    subst (Each (IsWithin log c.args.agent.now.core.values.rest.commit)) (sym (ap (λ (l : Lending). l.kept) c.in_err-feeds.ensures.forgot)) (forgot_within log _ _ within)

-- ---- the phase was dropped

pub returns-in-Err-clause-grew : goal.returns-in-Err-clause-grew
returns-in-Err-clause-grew g c due =
    let i = c.loop.invariant in
    let ran = run_back _ _ _ _ _ _ i.runs c.drive-fed.ensures.ended c.lend.ensures c.take_back-served.ensures.ran in
    came_grown _ _ _ _ c.take_back-served.result (kept_back _ _ c.take_back-served.result i.kept c.phase_drop.ensures.kept) i.grew i.runs.lent ran.ran

pub returns-in-Err-clause-within : goal.returns-in-Err-clause-within
returns-in-Err-clause-within g c log is within =
    let i = c.loop.invariant in
    let ran = run_back _ _ _ _ _ _ i.runs c.drive-fed.ensures.ended c.lend.ensures c.take_back-served.ensures.ran in
    let a = c.loop.agent in
    let kept = (kept_back _ _ c.take_back-served.result i.kept c.phase_drop.ensures.kept) in
    any_within _ _ _ log c.args.agent.now.services.kept c.phase_drop.new.self.services.kept c.requires.idle.kept (came_grown _ _ _ _ c.take_back-served.result kept i.grew i.runs.lent ran.ran)
    (λ long there reach w.
    back_within long (stage a.services a.«module» a.core a.over) c.args.agent.now.core.values.rest.commit c.loop.feeds c.drive-fed.new.feeds c.take_back-served.result c.phase_drop.new.self.services.kept (ap commit_in i.core) kept (i.log long there reach w)
    (λ fed. c.drive-fed.ensures.log long a.services.begun (ahead_same long _ _ i.held there) fed)
    (λ lent ends. c.phase_drop.ensures.within long _ lent ends))
    is within

pub returns-then-not-have_ended-clause-grew : goal.returns-then-not-have_ended-clause-grew
returns-then-not-have_ended-clause-grew g c due =
    let i = c.loop.invariant in
    let ran = run_back _ _ _ _ _ _ i.runs c.drive-fed.ensures.ended c.lend.ensures c.take_back-served.ensures.ran in
    came_grown _ _ _ _ c.take_back-served.result (kept_back _ _ c.take_back-served.result i.kept c.phase_drop-then-not-have_ended.ensures.kept) i.grew i.runs.lent ran.ran

pub returns-then-not-have_ended-clause-within : goal.returns-then-not-have_ended-clause-within
returns-then-not-have_ended-clause-within g c log is within =
    let i = c.loop.invariant in
    let ran = run_back _ _ _ _ _ _ i.runs c.drive-fed.ensures.ended c.lend.ensures c.take_back-served.ensures.ran in
    let a = c.loop.agent in
    let kept = (kept_back _ _ c.take_back-served.result i.kept c.phase_drop-then-not-have_ended.ensures.kept) in
    any_within _ _ _ log c.args.agent.now.services.kept c.phase_drop-then-not-have_ended.new.self.services.kept c.requires.idle.kept (came_grown _ _ _ _ c.take_back-served.result kept i.grew i.runs.lent ran.ran)
    (λ long there reach w.
    back_within long (stage a.services a.«module» a.core a.over) c.args.agent.now.core.values.rest.commit c.loop.feeds c.drive-fed.new.feeds c.take_back-served.result c.phase_drop-then-not-have_ended.new.self.services.kept (ap commit_in i.core) kept (i.log long there reach w)
    (λ fed. c.drive-fed.ensures.log long a.services.begun (ahead_same long _ _ i.held there) fed)
    (λ lent ends. c.phase_drop-then-not-have_ended.ensures.within long _ lent ends))
    is within

-- ---- no further images were had

pub returns-in_err-next-clause-grew : goal.returns-in_err-next-clause-grew
returns-in_err-next-clause-grew g c due =
    let i = c.loop.invariant in
    let ran = run_back _ _ _ _ _ _ i.runs c.drive-fed.ensures.ended c.lend.ensures c.take_back-served.ensures.ran in
    came_grown _ _ _ _ c.take_back-served.result (ap (λ (l : Lending). l.kept) c.in_err-next.ensures.kept) i.grew i.runs.lent ran.ran

pub returns-in_err-next-clause-within : goal.returns-in_err-next-clause-within
returns-in_err-next-clause-within g c log is within =
    let i = c.loop.invariant in
    let ran = run_back _ _ _ _ _ _ i.runs c.drive-fed.ensures.ended c.lend.ensures c.take_back-served.ensures.ran in
    let a = c.loop.agent in
    let kept = (ap (λ (l : Lending). l.kept) c.in_err-next.ensures.kept) in
    any_within _ _ _ log c.args.agent.now.services.kept c.next_images.new.self.services.kept c.requires.idle.kept (came_grown _ _ _ _ c.take_back-served.result kept i.grew i.runs.lent ran.ran)
    (λ long there reach w.
    back_within long (stage a.services a.«module» a.core a.over) c.args.agent.now.core.values.rest.commit c.loop.feeds c.drive-fed.new.feeds c.take_back-served.result c.next_images.new.self.services.kept (ap commit_in i.core) kept (i.log long there reach w)
    (λ fed. c.drive-fed.ensures.log long a.services.begun (ahead_same long _ _ i.held there) fed)
    (λ lent ends. c.next_images.ensures.within long _ lent ends))
    is within

-- ---- the phase ended

pub returns-then-have_published-clause-grew : goal.returns-then-have_published-clause-grew
returns-then-have_published-clause-grew g c due =
    let i = c.loop.invariant in
    let ran = run_back _ _ _ _ _ _ i.runs c.drive-fed.ensures.ended c.lend.ensures c.take_back-served.ensures.ran in
    came_grown _ _ _ _ c.take_back-served.result (ap (λ (l : Lending). l.kept) c.phase_end.ensures.kept) i.grew i.runs.lent ran.ran

pub returns-then-have_published-clause-within : goal.returns-then-have_published-clause-within
returns-then-have_published-clause-within g c log is within =
    let i = c.loop.invariant in
    let ran = run_back _ _ _ _ _ _ i.runs c.drive-fed.ensures.ended c.lend.ensures c.take_back-served.ensures.ran in
    let a = c.loop.agent in
    let kept = (ap (λ (l : Lending). l.kept) c.phase_end.ensures.kept) in
    any_within _ _ _ log c.args.agent.now.services.kept c.phase_end.new.self.services.kept c.requires.idle.kept (came_grown _ _ _ _ c.take_back-served.result kept i.grew i.runs.lent ran.ran)
    (λ long there reach w.
    back_within long (stage a.services a.«module» a.core a.over) c.args.agent.now.core.values.rest.commit c.loop.feeds c.drive-fed.new.feeds c.take_back-served.result c.phase_end.new.self.services.kept (ap commit_in i.core) kept (i.log long there reach w)
    (λ fed. c.drive-fed.ensures.log long a.services.begun (ahead_same long _ _ i.held there) fed)
    (λ lent ends. all_to_within long _ _ (c.phase_end.ensures.all long lent ends)))
    is within

pub returns-then-have_published-clause-all : goal.returns-then-have_published-clause-all
returns-then-have_published-clause-all g c log is within =
    let i = c.loop.invariant in
    let ran = run_back _ _ _ _ _ _ i.runs c.drive-fed.ensures.ended c.lend.ensures c.take_back-served.ensures.ran in
    let a = c.loop.agent in
    let kept = ap (λ (l : Lending). l.kept) c.phase_end.ensures.kept in
    on_ok _ _ (any_all _ _ _ log c.args.agent.now.services.kept c.phase_end.new.self.services.kept c.requires.idle.kept (came_grown _ _ _ _ c.take_back-served.result kept i.grew i.runs.lent ran.ran)
    (λ long there reach w.
    back_all long (stage a.services a.«module» a.core a.over) c.args.agent.now.core.values.rest.commit c.loop.feeds c.drive-fed.new.feeds c.take_back-served.result c.phase_end.new.self.services.kept (ap commit_in i.core) kept (i.log long there reach w)
    (λ fed. c.drive-fed.ensures.log long a.services.begun (ahead_same long _ _ i.held there) fed)
    (λ lent ends. c.phase_end.ensures.all long lent ends))
    is within)

pub returns-then-have_published-clause-state : goal.returns-then-have_published-clause-state
returns-then-have_published-clause-state g c =
    let i = c.loop.invariant in
    let ran = run_back _ _ _ _ _ _ i.runs c.drive-fed.ensures.ended c.lend.ensures c.take_back-served.ensures.ran in
    let ended : Each HasEndedWell c.take_back-served.result = search rules in
    let n = c.phase_end.new.self in
    let kept = ap (λ (l : Lending). l.kept) c.phase_end.ensures.kept in
    let back = all_grew _ _ (all_ran _ _ _ c.take_back-served.result i.grew i.runs.lent ran.ran) in
    let F : List Held × (ModuleHeld × CoreHeld) → Type 0 = λ z. OnOk c.phase_end.result (n.«module».state ≡ module_over (outboxes z.0) z.1.0.consumed z.1.0.state (take (z.1.1.values.rest.commit - z.1.0.consumed) z.1.0.ahead.events)) in
    subst F (λ j. (sym kept j, (i.held j, i.core j))) (c.phase_end.ensures.state (all_rising _ _ back (all_whole _ _ ran.ran ended)))

pub returns-then-have_published-clause-owed : goal.returns-then-have_published-clause-owed
returns-then-have_published-clause-owed g c =
    let i = c.loop.invariant in
    let ran = run_back _ _ _ _ _ _ i.runs c.drive-fed.ensures.ended c.lend.ensures c.take_back-served.ensures.ran in
    let ended : Each HasEndedWell c.take_back-served.result = search rules in
    let kept = ap (λ (l : Lending). l.kept) c.phase_end.ensures.kept in
    let back = all_grew _ _ (all_ran _ _ _ c.take_back-served.result i.grew i.runs.lent ran.ran) in
    let F : Role × (List Held × (ModuleHeld × CoreHeld)) → Type 0 =
    λ z. IfOk c.phase_end.result (λ sent. sent ≡ sent_over z.0 (outboxes z.1.0) z.1.1.0.consumed z.1.1.0.state (take (z.1.1.1.values.rest.commit - z.1.1.0.consumed) z.1.1.0.ahead.events)) in
    subst F (λ j. (i.role j, (sym kept j, (i.held j, i.core j)))) (c.phase_end.ensures.owed (all_rising _ _ back (all_whole _ _ ran.ran ended)))

pub returns-then-have_published-clause-written : goal.returns-then-have_published-clause-written
returns-then-have_published-clause-written g c =
    let i = c.loop.invariant in
    let ran = run_back _ _ _ _ _ _ i.runs c.drive-fed.ensures.ended c.lend.ensures c.take_back-served.ensures.ran in
    let ended : Each HasEndedWell c.take_back-served.result = search rules in
    let n = c.phase_end.new.self in
    let kept = ap (λ (l : Lending). l.kept) c.phase_end.ensures.kept in
    let back = all_grew _ _ (all_ran _ _ _ c.take_back-served.result i.grew i.runs.lent ran.ran) in
    let F : List Held × ((ModuleHeld × CoreHeld) × DiskHeld g.row.D.Denot) → Type 0 =
    λ z. OnOk c.phase_end.result (AreWritten g.D.Disk.state g.D.Disk.tells g.D.Disk.is_honest (phase_snapshots z.0 z.1.1.kept.log z.1.0.0 (z.1.0.1.values.rest.commit - z.1.0.0.consumed)) z.1.1 n.disk) in
    subst F (λ j. (sym kept j, ((i.held j, i.core j), i.disk j))) (c.phase_end.ensures.written (all_rising _ _ back (all_whole _ _ ran.ran ended)))

pub returns-then-have_published-clause-stopped : goal.returns-then-have_published-clause-stopped
returns-then-have_published-clause-stopped g c =
    let i = c.loop.invariant in
    let ran = run_back _ _ _ _ _ _ i.runs c.drive-fed.ensures.ended c.lend.ensures c.take_back-served.ensures.ran in
    let ended : Each HasEndedWell c.take_back-served.result = search rules in
    let n = c.phase_end.new.self in
    let kept = ap (λ (l : Lending). l.kept) c.phase_end.ensures.kept in
    let back = all_grew _ _ (all_ran _ _ _ c.take_back-served.result i.grew i.runs.lent ran.ran) in
    let F : List Held × ((ModuleHeld × CoreHeld) × DiskHeld g.row.D.Denot) → Type 0 =
    λ z. OnErr c.phase_end.result (StoppedAmong g.D.Disk.state g.D.Disk.tells g.D.Disk.is_honest (phase_snapshots z.0 z.1.1.kept.log z.1.0.0 (z.1.0.1.values.rest.commit - z.1.0.0.consumed)) z.1.1 n.disk) in
    subst F (λ j. (sym kept j, ((i.held j, i.core j), i.disk j))) (c.phase_end.ensures.stopped (all_rising _ _ back (all_whole _ _ ran.ran ended)))

pub returns-then-have_published-clause-failed : goal.returns-then-have_published-clause-failed
returns-then-have_published-clause-failed g c log is within =
    let i = c.loop.invariant in
    let ran = run_back _ _ _ _ _ _ i.runs c.drive-fed.ensures.ended c.lend.ensures c.take_back-served.ensures.ran in
    let a = c.loop.agent in
    let kept = ap (λ (l : Lending). l.kept) c.phase_end.ensures.kept in
    on_fault _ _ (any_all _ _ _ log c.args.agent.now.services.kept c.phase_end.new.self.services.kept c.requires.idle.kept (came_grown _ _ _ _ c.take_back-served.result kept i.grew i.runs.lent ran.ran)
    (λ long there reach w.
    back_all long (stage a.services a.«module» a.core a.over) c.args.agent.now.core.values.rest.commit c.loop.feeds c.drive-fed.new.feeds c.take_back-served.result c.phase_end.new.self.services.kept (ap commit_in i.core) kept (i.log long there reach w)
    (λ fed. c.drive-fed.ensures.log long a.services.begun (ahead_same long _ _ i.held there) fed)
    (λ lent ends. c.phase_end.ensures.all long lent ends))
    is within)

-- ---- where nothing was written

pub returns-in_err-feeds-clause-stopped : goal.returns-in_err-feeds-clause-stopped
returns-in_err-feeds-clause-stopped g c = on_err _ (stopped_none _ _ _ _ _ _ c.phase_begin.ensures.disk)

pub returns-in-Err-clause-stopped : goal.returns-in-Err-clause-stopped
returns-in-Err-clause-stopped g c = stopped_none _ _ _ _ _ _ (c.phase_drop.ensures.disk ∙ c.loop.invariant.disk)

pub returns-then-not-have_ended-clause-stopped : goal.returns-then-not-have_ended-clause-stopped
returns-then-not-have_ended-clause-stopped g c = stopped_none _ _ _ _ _ _ (c.phase_drop-then-not-have_ended.ensures.disk ∙ c.loop.invariant.disk)

pub returns-in_err-next-clause-stopped : goal.returns-in_err-next-clause-stopped
returns-in_err-next-clause-stopped g c = on_err _ (stopped_none _ _ _ _ _ _ (c.next_images.ensures.disk ∙ c.loop.invariant.disk))
