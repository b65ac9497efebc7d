use Rattle.std.proofs.Common.{◌-◌, ◌+◌, ap, ◌∙◌, arith, sym}
use Rattle.module_state.specs.Recorded.{take_counters}
use Rattle.module_state.specs.Reading.{left_by}
use Rattle.module_state.proofs.ReadLaws.{counters_stop, counters_go}
use Rattle.module_state.proofs.reading.take_counters.Goals as goal

pub returns-in_default : goal.returns-in_default
returns-in_default c =
    let test = c.loop-service-test.true in
    counters_stop (c.args.services - c.loop-service.service) (c.args.services - (c.loop-service.service + 1)) c.loop-service.service c.loop-service.pieces.items c.take_count.new.pieces.items c.loop-service.counts.items (take_counters c.args.services 0 c.args.pieces.now.items)
    (omega arith) (sym c.take_count.ensures.count ∙ c.in_default.is) (c.take_count.ensures.left ∙ ap (λ r. left_by r c.loop-service.pieces.items) c.in_default.is) c.loop-service.invariant

pub loop-service-preserved : goal.loop-service-preserved
loop-service-preserved c =
    let test = c.loop-service-test.true in
    counters_go (c.args.services - c.loop-service.service) (c.args.services - (c.loop-service.service + 1)) c.loop-service.service (c.loop-service.service + 1) c.loop-service.pieces.items c.take_count.new.pieces.items c.loop-service.counts.items c.push.new.self.items c.in-Some.count (take_counters c.args.services 0 c.args.pieces.now.items)
    (omega arith) (omega arith) (sym c.take_count.ensures.count ∙ c.in-Some.is) (c.take_count.ensures.left ∙ ap (λ r. left_by r c.loop-service.pieces.items) c.in-Some.is) c.in-Ok.ensures.items c.loop-service.invariant
