use Rattle.std.proofs.Common.{◌<◌, length, arith}
use Rattle.module_state.specs.Ranges.{OffersFit}
use Rattle.module_state.proofs.LoopLaws.{offers_all}
use Rattle.module_state.proofs.records.add_counters.Goals as goal

pub add_counter-requires-clause-fit : goal.add_counter-requires-clause-fit
add_counter-requires-clause-fit c =
    let count = c.len-service-end.ensures in
    let test = c.loop-service-test.true in
    let within : c.loop-service.service < length c.args.pending.now = omega arith in
    offers_all OffersFit c.loop-service.service c.args.pending.now c.requires.fit within
