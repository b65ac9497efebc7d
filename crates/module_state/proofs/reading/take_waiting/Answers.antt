use Rattle.std.proofs.Common.{◌-◌, ◌+◌, ap, ◌∙◌, arith, sym}
use Rattle.module_state.specs.Recorded.{take_waiting}
use Rattle.module_state.specs.Reading.{left_by}
use Rattle.module_state.proofs.ReadLaws.{waiting_stop, waiting_go}
use Rattle.module_state.proofs.reading.take_waiting.Goals as goal

pub returns-in_default : goal.returns-in_default
returns-in_default c =
    let test = c.loop-before-test.true in
    waiting_stop (c.args.count - c.loop-before.before) (c.args.count - (c.loop-before.before + 1)) c.args.service (c.args.appended + c.loop-before.before) c.loop-before.pieces.items c.take_message.new.pieces.items c.loop-before.waiting.items (take_waiting c.args.count c.args.service c.args.appended c.args.pieces.now.items)
    (omega arith) (sym c.take_message.ensures.payload ∙ c.in_default.is) (c.take_message.ensures.left ∙ ap (λ r. left_by r c.loop-before.pieces.items) c.in_default.is) c.loop-before.invariant

pub loop-before-preserved : goal.loop-before-preserved
loop-before-preserved c =
    let test = c.loop-before-test.true in
    waiting_go (c.args.count - c.loop-before.before) (c.args.count - (c.loop-before.before + 1)) c.args.service (c.args.appended + c.loop-before.before) (c.args.appended + (c.loop-before.before + 1)) c.loop-before.pieces.items c.take_message.new.pieces.items c.loop-before.waiting.items c.push_back.new.self.items c.in-Some.payload (take_waiting c.args.count c.args.service c.args.appended c.args.pieces.now.items)
    (omega arith) (omega arith) (sym c.take_message.ensures.payload ∙ c.in-Some.is) (c.take_message.ensures.left ∙ ap (λ r. left_by r c.loop-before.pieces.items) c.in-Some.is) c.in-Ok.ensures.items c.loop-before.invariant
