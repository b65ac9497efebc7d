use Rattle.std.proofs.Common.{◌≤◌, ◌∙◌, ap, subst, ℕ}
use Rattle.std.proofs.lemmas.Result.{on_ok_weaker}
use Rattle.entry_log.specs.declared.name.LogName.{LogName}
use Rattle.sbe_events.specs.Spelling.{term_of}
use Rattle.echo_run.proofs.Driving.{kept_with, world_with, next_below}
use Rattle.echo_run.proofs.run.Run.append.Goals as goal

pub apply-requires : goal.apply-requires
apply-requires c = record { numbered = next_below c.args.self.now c.requires.kept }

pub returns-clause-kept : goal.returns-clause-kept
returns-clause-kept c =
    let r = c.args.self.now in
    on_ok_weaker c.push.result
    (λ is. kept_with r c.args.event c.push.new.self c.name_behind-self.result c.apply.new.self c.requires.kept c.requires.spelled
    (subst (λ (n : ℕ). n ≤ 16777216) c.requires.end c.requires.room) is
    (c.name_behind-self.ensures ∙ ap (λ (p : ℕ). let n : LogName = record { term = term_of c.args.event; place = p } in n) c.requires.end)
    c.in_ok-apply.ensures.tables)
    c.push.ensures.ok

pub returns-clause-world : goal.returns-clause-world
returns-clause-world c =
    let r = c.args.self.now in
    on_ok_weaker c.push.result (λ is. world_with r c.args.event c.push.new.self c.name_behind-self.result c.apply.new.self c.requires.kept is) c.push.ensures.ok
