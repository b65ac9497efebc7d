use Rattle.std.proofs.Common.{rules, w64, sym, subst}
use Rattle.std.specs.Prelude.{All, FitsSigned}
use Rattle.std.proofs.lemmas.List.Elements.{All-append}
use Rattle.echo_run.specs.Driver.{IsWritable, member_in, world_of}
use Rattle.echo_run.specs.World.{taken}
use Rattle.echo_run.proofs.OrdersSpelled.{computed_open, computed_spelled, corr_is, open_is}
use Rattle.echo_run.proofs.OrdersWorlds.{connected, counted, kept_connected, told_of}
use Rattle.echo_run.proofs.Writing.{answers_writable}
use Rattle.echo_run.proofs.run.Run.connect.Goals as goal

pub offer_connect-requires-clause-spelled : goal.offer_connect-requires-clause-spelled
offer_connect-requires-clause-spelled c =
    let fits : FitsSigned w64 c.args.self.now.election.term = search rules in
    computed_spelled c.args.self.now c.args.client c.in_ok-of.field-0 c.requires.kept c.requires.client c.requires.moment c.requires.count fits c.in_ok-of.ensures

pub returns-clause-kept : goal.returns-clause-kept
returns-clause-kept c =
    let event = computed_open c.args.self.now c.args.client c.in_ok-of.field-0 in
    kept_connected c.offer_connect.new.self c.put_answer.new.sent c.push.new.self _ (told_of c.args.line c.in_ok-outcome.outcome) c.args.client c.requires.client c.in_ok-push.ensures.ok
    (counted (world_of c.args.self.now) (world_of c.offer_connect.new.self) (taken (member_in c.args.self.now) event c.in_ok-outcome.outcome) c.args.client c.in_ok-outcome.ensures.world)
    (subst (All IsWritable) (sym c.in_ok-put_answer.ensures) (All-append IsWritable c.offer_connect.new.self.sent _ c.in_ok-outcome.ensures.kept.records (answers_writable c.args.client _ c.offer_connect.new.self.election c.in_ok-outcome.outcome)))
    c.in_ok-outcome.ensures.kept

pub returns-clause-world : goal.returns-clause-world
returns-clause-world c =
    let fits : FitsSigned w64 c.args.self.now.election.term = search rules in
    let event = computed_open c.args.self.now c.args.client c.in_ok-of.field-0 in
    connected c.args.line c.args.client c.args.self.now c.offer_connect.new.self c.put_answer.new.sent c.push.new.self _ event c.in_ok-outcome.outcome
    (open_is c.args.self.now c.args.client c.in_ok-of.field-0 c.requires.kept c.requires.client c.requires.moment c.requires.count fits c.in_ok-of.ensures)
    (corr_is c.args.self.now c.args.client c.requires.kept c.requires.client c.requires.count)
    c.in_ok-outcome.ensures.outcome c.in_ok-outcome.ensures.world c.in_ok-put_answer.ensures c.in_ok-push.ensures.ok
