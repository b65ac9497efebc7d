use Rattle.std.proofs.Common.{List, sym, subst, arith}
use Rattle.service_container.specs.declared.container.Served.{Served}
use Rattle.consensus_agent.specs.Phases.{stage}
use Rattle.service_phases.specs.Stages.{Begins, Stage, Runs}
use Rattle.run_phases.proofs.Stages.{begins_runs, may_serve}
use Rattle.run_phases.proofs.Frees.{may_finish}
use Rattle.run_phases.proofs.Fronts.{begun_log}
use Rattle.run_phases.proofs.free.free_begin.Goals as goal

pub lend-requires-clause-may : goal.lend-requires-clause-may
lend-requires-clause-may g c κs within =
    let a = c.args.agent.now in let b = c.phase_begin.new.self in
    let s : Stage = stage a.services a.module a.core a.over in
    let t : Stage = stage b.services b.module b.core b.over in
    let r = begins_runs s t _ _ c.requires.idle c.in_ok-feeds.ensures.begun in
    may_serve t _ _ r.0

pub returns-clause-free : goal.returns-clause-free
returns-clause-free g c =
    let a = c.args.agent.now in let b = c.phase_begin.new.self in
    let s : Stage = stage a.services a.module a.core a.over in
    let t : Stage = stage b.services b.module b.core b.over in
    let r = begins_runs s t _ _ c.requires.idle c.in_ok-feeds.ensures.begun in
    let R : List Served → Type 0 = λ l. Runs t c.in_ok-feeds.feeds l in
    record { runs = subst R (sym c.lend.ensures) r.0; finish = may_finish _ _ _ r.1.fed }

pub returns-clause-going : goal.returns-clause-going
returns-clause-going g c =
    let a = c.args.agent.now in let b = c.phase_begin.new.self in
    let s : Stage = stage a.services a.module a.core a.over in
    let t : Stage = stage b.services b.module b.core b.over in
    let begun = c.in_ok-feeds.ensures.begun in
    let r = begins_runs s t _ _ c.requires.idle begun in
    record {
      feeding = r.1;
      place = (let p = c.requires.idle.place in omega (arith, p, begun.first, begun.commit));
      kept = r.2;
    }

pub returns-clause-begins : goal.returns-clause-begins
returns-clause-begins g c =
    let a = c.args.agent.now in let b = c.phase_begin.new.self in
    let s : Stage = stage a.services a.module a.core a.over in
    let t : Stage = stage b.services b.module b.core b.over in
    let R : List Served → Type 0 = λ l. Begins s t c.in_ok-feeds.feeds l in
    subst R (sym c.lend.ensures) c.in_ok-feeds.ensures.begun

pub returns-clause-log : goal.returns-clause-log
returns-clause-log g c log reach within =
    let a = c.args.agent.now in let b = c.phase_begin.new.self in
    begun_log log (stage a.services a.module a.core a.over) (stage b.services b.module b.core b.over) _ _ c.requires.idle c.in_ok-feeds.ensures.begun reach within
