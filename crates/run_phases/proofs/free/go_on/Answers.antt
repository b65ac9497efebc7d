use Rattle.std.proofs.Common.{rules, ◌≡◌, ◌≤◌, List, refl, sym, ap, ◌∙◌, subst, arith}
use Rattle.commit_counter.specs.Ends.{Fed}
use Rattle.service_container.specs.declared.container.Served.{Served}
use Rattle.consensus_agent.specs.Phases.{stage}
use Rattle.service_phases.specs.Pairs.{Each, Each2}
use Rattle.service_phases.specs.Phases.{HasEndedWell}
use Rattle.service_phases.specs.Stages.{Stage, HasRun, Runs}
use Rattle.run_phases.proofs.Stages.{goes_on_runs, may_serve}
use Rattle.run_phases.proofs.Frees.{came_back, may_finish, finish_due, finish_bound}
use Rattle.service_phases.specs.Feeds.{Finishes}
use Rattle.service_phases.specs.Phases.{IsWithin, Lending}
use Rattle.run_phases.proofs.Fronts.{all_ends, all_finish, back_within, gone_log, next_log}
use Rattle.run_phases.proofs.Grown.{began_lent, kept_back, lent_back, none_kept, none_lent}
use Rattle.run_phases.proofs.free.go_on.Goals as goal

pub phase_drop-requires : goal.phase_drop-requires
phase_drop-requires g c =
    let feeds : c.replace-feeds.result ≡ c.come_back-served.new.self.feeds = search rules in
    record { run = rw feeds (came_back _ _ _ _ _ c.requires.free.runs c.come_back-served.ensures.feeds c.come_back-served.ensures.ran) }

pub next_images-requires-clause-run : goal.next_images-requires-clause-run
next_images-requires-clause-run g c =
    let feeds : c.replace-feeds.result ≡ c.come_back-served.new.self.feeds = search rules in
    rw feeds (came_back _ _ _ _ _ c.requires.free.runs c.come_back-served.ensures.feeds c.come_back-served.ensures.ran)

pub next_images-requires-clause-bound : goal.next_images-requires-clause-bound
next_images-requires-clause-bound g c =
    let feeds : c.replace-feeds.result ≡ c.come_back-served.new.self.feeds = search rules in
    let going = c.requires.going.feeding in
    rw feeds (finish_bound _ _ going.bound (finish_due _ _ _ _ going.fed c.come_back-served.ensures.feeds))

pub lend-requires-clause-may : goal.lend-requires-clause-may
lend-requires-clause-may g c κs within =
    let a = c.args.agent.now in let b = c.next_images.new.self in
    let s : Stage = stage a.services a.module a.core a.over in
    let t : Stage = stage b.services b.module b.core b.over in
    let f = c.requires.free in let going = c.requires.going.feeding in
    let feeds : c.replace-feeds.result ≡ c.come_back-served.new.self.feeds = search rules in
    let first : t.first ≡ s.first = λ i. (stage b.services (c.next_images.ensures.module i) b.core b.over).first in
    let commit : t.commit ≡ s.commit = λ i. (stage b.services b.module (c.next_images.ensures.core i) b.over).commit in
    let ended : Each HasEndedWell c.come_back-served.result = search rules in
    let run : HasRun s c.replace-feeds.result c.come_back-served.result = rw feeds (came_back _ _ _ _ _ f.runs c.come_back-served.ensures.feeds c.come_back-served.ensures.ran) in
    let due : Each (λ (z : Fed). z.commit ≤ s.commit) c.replace-feeds.result = rw feeds (finish_due _ _ _ _ going.fed c.come_back-served.ensures.feeds) in
    let r = goes_on_runs s t _ _ _ _ first commit (c.next_images.ensures.over ∙ c.requires.on) c.next_images.ensures.closed c.in_ok-next.ensures.began f.runs.lent run ended due going.bound in
    may_serve t _ _ r.0

pub returns-clause-free : goal.returns-clause-free
returns-clause-free g c =
    let a = c.args.agent.now in let b = c.next_images.new.self in
    let s : Stage = stage a.services a.module a.core a.over in
    let t : Stage = stage b.services b.module b.core b.over in
    let f = c.requires.free in let going = c.requires.going.feeding in
    let feeds : c.replace-feeds.result ≡ c.come_back-served.new.self.feeds = search rules in
    let first : t.first ≡ s.first = λ i. (stage b.services (c.next_images.ensures.module i) b.core b.over).first in
    let commit : t.commit ≡ s.commit = λ i. (stage b.services b.module (c.next_images.ensures.core i) b.over).commit in
    let ended : Each HasEndedWell c.come_back-served.result = search rules in
    let run : HasRun s c.replace-feeds.result c.come_back-served.result = rw feeds (came_back _ _ _ _ _ f.runs c.come_back-served.ensures.feeds c.come_back-served.ensures.ran) in
    let due : Each (λ (z : Fed). z.commit ≤ s.commit) c.replace-feeds.result = rw feeds (finish_due _ _ _ _ going.fed c.come_back-served.ensures.feeds) in
    let r = goes_on_runs s t _ _ _ _ first commit (c.next_images.ensures.over ∙ c.requires.on) c.next_images.ensures.closed c.in_ok-next.ensures.began f.runs.lent run ended due going.bound in
    let R : List Served → Type 0 = λ l. Runs t c.in_ok-next.next l in
    record { runs = subst R (sym c.lend.ensures) r.0; finish = may_finish _ _ _ r.1.fed }

pub returns-clause-going : goal.returns-clause-going
returns-clause-going g c =
    let a = c.args.agent.now in let b = c.next_images.new.self in
    let s : Stage = stage a.services a.module a.core a.over in
    let t : Stage = stage b.services b.module b.core b.over in
    let f = c.requires.free in let going = c.requires.going.feeding in
    let feeds : c.replace-feeds.result ≡ c.come_back-served.new.self.feeds = search rules in
    let first : t.first ≡ s.first = λ i. (stage b.services (c.next_images.ensures.module i) b.core b.over).first in
    let commit : t.commit ≡ s.commit = λ i. (stage b.services b.module (c.next_images.ensures.core i) b.over).commit in
    let ended : Each HasEndedWell c.come_back-served.result = search rules in
    let run : HasRun s c.replace-feeds.result c.come_back-served.result = rw feeds (came_back _ _ _ _ _ f.runs c.come_back-served.ensures.feeds c.come_back-served.ensures.ran) in
    let due : Each (λ (z : Fed). z.commit ≤ s.commit) c.replace-feeds.result = rw feeds (finish_due _ _ _ _ going.fed c.come_back-served.ensures.feeds) in
    let r = goes_on_runs s t _ _ _ _ first commit (c.next_images.ensures.over ∙ c.requires.on) c.next_images.ensures.closed c.in_ok-next.ensures.began f.runs.lent run ended due going.bound in
    record {
      feeding = r.1;
      place = (let p = c.requires.going.place in omega (arith, p, first, commit));
      kept = r.2;
    }

pub returns-then-not-have_ended-clause-grew : goal.returns-then-not-have_ended-clause-grew
returns-then-not-have_ended-clause-grew g c =
    let a = c.args.agent.now in
    let feeds : c.replace-feeds.result ≡ c.come_back-served.new.self.feeds = search rules in
    let f = c.requires.free in
    let run : HasRun (stage a.services a.module a.core a.over) c.replace-feeds.result c.come_back-served.result = rw feeds (came_back _ _ _ _ _ f.runs c.come_back-served.ensures.feeds c.come_back-served.ensures.ran) in
    none_lent _ c.phase_drop.new.self.services c.phase_drop.ensures.lent (lent_back _ _ _ c.come_back-served.result (kept_back _ _ c.come_back-served.result c.requires.going.kept c.phase_drop.ensures.kept) f.runs.lent run.ran)

pub returns-then-not-have_ended-clause-log : goal.returns-then-not-have_ended-clause-log
returns-then-not-have_ended-clause-log g c log has =
    let b = c.phase_drop.new.self in
    gone_log log (stage b.services b.module b.core b.over) _ c.phase_drop.ensures.lent (ap (λ (l : Lending). l.begun) c.phase_drop.ensures.kept) (search rules)

pub returns-then-not-have_ended-clause-within : goal.returns-then-not-have_ended-clause-within
returns-then-not-have_ended-clause-within g c log has =
    let a = c.args.agent.now in
    let feeds : c.replace-feeds.result ≡ c.come_back-served.new.self.feeds = search rules in
    let f = c.requires.free in
    let run : HasRun (stage a.services a.module a.core a.over) c.replace-feeds.result c.come_back-served.result = rw feeds (came_back _ _ _ _ _ f.runs c.come_back-served.ensures.feeds c.come_back-served.ensures.ran) in
    let ends : Each2 Finishes c.args.phase.now.feeds c.replace-feeds.result = rw feeds c.come_back-served.ensures.feeds in
    back_within log (stage a.services a.module a.core a.over) _ c.args.phase.now.feeds c.replace-feeds.result c.come_back-served.result c.phase_drop.new.self.services.kept refl (kept_back _ _ c.come_back-served.result c.requires.going.kept c.phase_drop.ensures.kept) has
    (λ fed. all_finish log _ _ _ _ fed ends)
    (λ lent closed. c.phase_drop.ensures.within log _ lent closed)

pub returns-in_err-next-clause-grew : goal.returns-in_err-next-clause-grew
returns-in_err-next-clause-grew g c =
    let a = c.args.agent.now in
    let feeds : c.replace-feeds.result ≡ c.come_back-served.new.self.feeds = search rules in
    let f = c.requires.free in
    let run : HasRun (stage a.services a.module a.core a.over) c.replace-feeds.result c.come_back-served.result = rw feeds (came_back _ _ _ _ _ f.runs c.come_back-served.ensures.feeds c.come_back-served.ensures.ran) in
    none_lent _ c.next_images.new.self.services (ap (λ (l : Lending). l.lent) c.in_err-next.ensures.kept) (lent_back _ _ _ c.come_back-served.result (ap (λ (l : Lending). l.kept) c.in_err-next.ensures.kept) f.runs.lent run.ran)

pub returns-in_err-next-clause-log : goal.returns-in_err-next-clause-log
returns-in_err-next-clause-log g c log has =
    let b = c.next_images.new.self in
    gone_log log (stage b.services b.module b.core b.over) _ (ap (λ (l : Lending). l.lent) c.in_err-next.ensures.kept) (ap (λ (l : Lending). l.begun) c.in_err-next.ensures.kept) (search rules)

pub returns-in_err-next-clause-within : goal.returns-in_err-next-clause-within
returns-in_err-next-clause-within g c log has =
    let a = c.args.agent.now in
    let feeds : c.replace-feeds.result ≡ c.come_back-served.new.self.feeds = search rules in
    let f = c.requires.free in
    let run : HasRun (stage a.services a.module a.core a.over) c.replace-feeds.result c.come_back-served.result = rw feeds (came_back _ _ _ _ _ f.runs c.come_back-served.ensures.feeds c.come_back-served.ensures.ran) in
    let ends : Each2 Finishes c.args.phase.now.feeds c.replace-feeds.result = rw feeds c.come_back-served.ensures.feeds in
    back_within log (stage a.services a.module a.core a.over) _ c.args.phase.now.feeds c.replace-feeds.result c.come_back-served.result c.next_images.new.self.services.kept refl (ap (λ (l : Lending). l.kept) c.in_err-next.ensures.kept) has
    (λ fed. all_finish log _ _ _ _ fed ends)
    (λ lent closed. c.next_images.ensures.within log _ lent closed)

pub returns-clause-grew : goal.returns-clause-grew
returns-clause-grew g c =
    let a = c.args.agent.now in
    let feeds : c.replace-feeds.result ≡ c.come_back-served.new.self.feeds = search rules in
    let f = c.requires.free in
    let run : HasRun (stage a.services a.module a.core a.over) c.replace-feeds.result c.come_back-served.result = rw feeds (came_back _ _ _ _ _ f.runs c.come_back-served.ensures.feeds c.come_back-served.ensures.ran) in
    let began = c.in_ok-next.ensures.began in
    none_kept _ c.next_images.new.self.services (ap (λ (l : Lending). l.kept) began.lending) (lent_back _ _ _ c.come_back-served.result (began_lent _ _ _ _ began) f.runs.lent run.ran)

pub returns-clause-log : goal.returns-clause-log
returns-clause-log g c log has =
    let a = c.args.agent.now in
    let b = c.next_images.new.self in
    let feeds : c.replace-feeds.result ≡ c.come_back-served.new.self.feeds = search rules in
    let f = c.requires.free in
    let run : HasRun (stage a.services a.module a.core a.over) c.replace-feeds.result c.come_back-served.result = rw feeds (came_back _ _ _ _ _ f.runs c.come_back-served.ensures.feeds c.come_back-served.ensures.ran) in
    let ends : Each2 Finishes c.args.phase.now.feeds c.replace-feeds.result = rw feeds c.come_back-served.ensures.feeds in
    let s : Stage = stage a.services a.module a.core a.over in
    let t : Stage = stage b.services b.module b.core b.over in
    let commit : t.commit ≡ s.commit = λ i. (stage b.services b.module (c.next_images.ensures.core i) b.over).commit in
    let from = all_finish log _ _ _ _ has.fed ends in
    next_log log s t _ _ _ _ commit c.in_ok-next.ensures.began run.ran c.next_images.ensures.closed from (c.next_images.ensures.within log s.commit has.lent (all_ends _ _ _ _ from))

pub returns-clause-within : goal.returns-clause-within
returns-clause-within g c log has = subst (Each (IsWithin log c.args.agent.now.core.values.rest.commit)) (sym (ap (λ (l : Lending). l.kept) c.in_ok-next.ensures.began.lending)) tt
