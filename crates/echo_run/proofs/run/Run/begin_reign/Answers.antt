use Rattle.std.proofs.Common.{◌+◌, sym, subst}
use Rattle.sbe_events.specs.Spelling.{HasSpelling}
use Rattle.echo_run.specs.Driver.{IsAlone, world_of}
use Rattle.echo_run.proofs.Driving.{kept_elected, canvass_alone, no_room, reigns, kept_reigning, new_term_spelled, ends_behind}
use Rattle.echo_run.proofs.run.Run.begin_reign.Goals as goal

pub returns-then-end-gt-LOG_LIMIT-clause-kept : goal.returns-then-end-gt-LOG_LIMIT-clause-kept
returns-then-end-gt-LOG_LIMIT-clause-kept c =
    let r = c.args.self.now in
    kept_elected r c.enter_canvass.new.self c.requires.kept (subst IsAlone (sym c.enter_canvass.ensures) (canvass_alone r.election r.clock c.requires.kept.election))

pub returns-then-end-gt-LOG_LIMIT-clause-world : goal.returns-then-end-gt-LOG_LIMIT-clause-world
returns-then-end-gt-LOG_LIMIT-clause-world c =
    let r = c.args.self.now in
    no_room r c.new_term-event.result c.end_behind-end.result c.enter_canvass.new.self c.requires.kept c.requires.state c.if-end-gt-LOG_LIMIT.true c.new_term-event.ensures
    (ends_behind r c.new_term-event.result c.end_behind-end.result c.requires.kept c.end_behind-end.ensures) c.enter_canvass.ensures

pub end_behind-end-requires-clause-spelled : goal.end_behind-end-requires-clause-spelled
end_behind-end-requires-clause-spelled c = subst HasSpelling (sym c.new_term-event.ensures) (new_term_spelled c.args.self.now c.requires.kept c.requires.state c.requires.moment)

pub append-requires-clause-spelled : goal.append-requires-clause-spelled
append-requires-clause-spelled c = subst HasSpelling (sym c.new_term-event.ensures) (new_term_spelled c.args.self.now c.requires.kept c.requires.state c.requires.moment)

pub append-requires-clause-end : goal.append-requires-clause-end
append-requires-clause-end c = ends_behind c.args.self.now c.new_term-event.result c.end_behind-end.result c.requires.kept c.end_behind-end.ensures

pub returns-clause-kept : goal.returns-clause-kept
returns-clause-kept c =
    let r = c.args.self.now in
    kept_reigning r c.append.new.self c.new_term-event.result (r.clock + 100) c.end_behind-end.result c.requires.kept c.in_ok-append.ensures.kept c.requires.state c.in_ok-append.ensures.world

pub returns-clause-world : goal.returns-clause-world
returns-clause-world c =
    let r = c.args.self.now in
    reigns r (world_of c.append.new.self) c.new_term-event.result c.end_behind-end.result c.requires.kept c.requires.state c.if-end-gt-LOG_LIMIT.false c.new_term-event.ensures
    (ends_behind r c.new_term-event.result c.end_behind-end.result c.requires.kept c.end_behind-end.ensures) c.in_ok-append.ensures.world
