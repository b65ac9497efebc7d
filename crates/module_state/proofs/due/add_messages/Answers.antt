use Rattle.std.proofs.Common.{◌<◌, length, arith}
use Rattle.module_state.specs.Ranges.{OffersFit}
use Rattle.module_state.proofs.LoopLaws.{offers_all}
use Rattle.module_state.proofs.due.add_messages.Goals as goal

pub add_messages_of-requires-clause-offered : goal.add_messages_of-requires-clause-offered
add_messages_of-requires-clause-offered c =
    let count = c.len-service-end.ensures in
    let test = c.loop-service-test.true in
    let within : c.loop-service.service < length c.args.pending.now = omega arith in
    (offers_all OffersFit c.loop-service.service c.args.pending.now c.requires.fit within).offered
