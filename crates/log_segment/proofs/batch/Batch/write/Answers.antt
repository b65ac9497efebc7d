-- Each kind of append, as the log's.
use Rattle.std.specs.Prelude.{if◌then◌else◌}
use Rattle.std.proofs.Common.{◌-◌, ◌/◌, ◌++◌, length, take, drop, sym, ◌∙◌, ap, subst, arith, length-take}
use Rattle.cl_base.specs.Fuse.{FuseEnds}
use Rattle.cl_base.specs.declared.fault.Trouble.TheVariants.{Failed}
use Rattle.log_segment.specs.Segment.{pad_frame}
use Rattle.log_segment.specs.Whole.{LogLeft}
use Rattle.log_segment.proofs.PadLemmas.{pad_size}
use Rattle.log_segment.proofs.WriteLemmas.{rolls_false, calls_pad, calls_here, append_is, is_ready, pad_is, batch_size}
use Rattle.log_segment.proofs.batch.Batch.write.Goals as goal

pub append_with_pad-requires-clause-size : goal.append_with_pad-requires-clause-size
append_with_pad-requires-clause-size g c = ap length (c.before-then-self.ensures ∙ ap (take 31) c.write_frame.ensures) ∙ omega (arith, length-take 31 (pad_frame c.args.self.now.place), pad_size c.args.self.now.place)

pub append_to_end-requires-clause-size : goal.append_to_end-requires-clause-size
append_to_end-requires-clause-size g c = let size = batch_size c.args.self.now c.requires.spelled.0 c.requires.spelled.1 c.requires.spelled.2 in ap length (c.before-head.ensures ∙ ap (take 31) c.deref-2.ensures.value) ∙ omega (arith, length-take 31 c.args.self.now.bytes.items, size)

pub append_in-requires-clause-size : goal.append_in-requires-clause-size
append_in-requires-clause-size g c = let size = batch_size c.args.self.now c.requires.spelled.0 c.requires.spelled.1 c.requires.spelled.2 in ap length (c.before-head.ensures ∙ ap (take 31) c.deref-2.ensures.value) ∙ omega (arith, length-take 31 c.args.self.now.bytes.items, size)

pub returns-then-self-clause-reads : goal.returns-then-self-clause-reads
returns-then-self-clause-reads g c told log entries held spelled stands =
    let b = c.args.self.now in
    c.append_with_pad.ensures.reads told log entries spelled.frames (pad_is log entries b held spelled c.if-self.true c.before-then-self.result.now c.deref.result.now (c.before-then-self.ensures ∙ ap (take 31) c.write_frame.ensures) c.deref.ensures.value) stands

pub returns-then-self-clause-done : goal.returns-then-self-clause-done
returns-then-self-clause-done g c honest log entries can =
    let b = c.args.self.now in
    c.append_with_pad.ensures.done honest log entries can.spelled.frames (record { is = (pad_is log entries b can.sound can.spelled c.if-self.true c.before-then-self.result.now c.deref.result.now (c.before-then-self.ensures ∙ ap (take 31) c.write_frame.ensures) c.deref.ensures.value); stands = can.stands })

pub returns-then-self-clause-each : goal.returns-then-self-clause-each
returns-then-self-clause-each g c honest log entries can =
    let b = c.args.self.now in
    c.append_with_pad.ensures.each honest log entries can.spelled.frames (record { is = (pad_is log entries b can.sound can.spelled c.if-self.true c.before-then-self.result.now c.deref.result.now (c.before-then-self.ensures ∙ ap (take 31) c.write_frame.ensures) c.deref.ensures.value); stands = can.stands })

pub returns-then-self-clause-cut_well : goal.returns-then-self-clause-cut_well
returns-then-self-clause-cut_well g c honest log entries can =
    let b = c.args.self.now in
    c.append_with_pad.ensures.cut_well honest log entries can.spelled.frames (record { is = (pad_is log entries b can.sound can.spelled c.if-self.true c.before-then-self.result.now c.deref.result.now (c.before-then-self.ensures ∙ ap (take 31) c.write_frame.ensures) c.deref.ensures.value); stands = can.stands })

pub returns-then-self-clause-fuse : goal.returns-then-self-clause-fuse
returns-then-self-clause-fuse g c honest log entries can =
    let b = c.args.self.now in
    subst (λ n. FuseEnds n Failed (LogLeft (n - 1) log (log ++ entries)) (g.D.Disk.state c.args.disk.now) (g.D.Disk.state c.append_with_pad.new.disk) c.append_with_pad.result) (sym (calls_pad b c.if-self.true)) (c.append_with_pad.ensures.fuse honest log entries can.spelled.frames (record { is = (pad_is log entries b can.sound can.spelled c.if-self.true c.before-then-self.result.now c.deref.result.now (c.before-then-self.ensures ∙ ap (take 31) c.write_frame.ensures) c.deref.ensures.value); stands = can.stands }))

pub returns-then-rolls-clause-reads : goal.returns-then-rolls-clause-reads
returns-then-rolls-clause-reads g c told log entries held spelled stands =
    let b = c.args.self.now in
    c.append_to_end.ensures.reads told log entries spelled.frames (append_is log entries b held spelled c.if-self.false c.before-head.result.now c.behind-tail.result.now (c.before-head.ensures ∙ ap (take 31) c.deref-2.ensures.value) (c.behind-tail.ensures ∙ ap (drop 32) c.deref-3.ensures.value)) stands

pub returns-then-rolls-clause-done : goal.returns-then-rolls-clause-done
returns-then-rolls-clause-done g c honest log entries can =
    let b = c.args.self.now in
    c.append_to_end.ensures.done honest log entries can.spelled.frames (record { is = (append_is log entries b can.sound can.spelled c.if-self.false c.before-head.result.now c.behind-tail.result.now (c.before-head.ensures ∙ ap (take 31) c.deref-2.ensures.value) (c.behind-tail.ensures ∙ ap (drop 32) c.deref-3.ensures.value)); stands = can.stands })

pub returns-then-rolls-clause-each : goal.returns-then-rolls-clause-each
returns-then-rolls-clause-each g c honest log entries can =
    let b = c.args.self.now in
    c.append_to_end.ensures.each honest log entries can.spelled.frames (record { is = (append_is log entries b can.sound can.spelled c.if-self.false c.before-head.result.now c.behind-tail.result.now (c.before-head.ensures ∙ ap (take 31) c.deref-2.ensures.value) (c.behind-tail.ensures ∙ ap (drop 32) c.deref-3.ensures.value)); stands = can.stands })

pub returns-then-rolls-clause-cut_well : goal.returns-then-rolls-clause-cut_well
returns-then-rolls-clause-cut_well g c honest log entries can =
    let b = c.args.self.now in
    c.append_to_end.ensures.cut_well honest log entries can.spelled.frames (record { is = (append_is log entries b can.sound can.spelled c.if-self.false c.before-head.result.now c.behind-tail.result.now (c.before-head.ensures ∙ ap (take 31) c.deref-2.ensures.value) (c.behind-tail.ensures ∙ ap (drop 32) c.deref-3.ensures.value)); stands = can.stands })

pub returns-then-rolls-clause-fuse : goal.returns-then-rolls-clause-fuse
returns-then-rolls-clause-fuse g c honest log entries can =
    let b = c.args.self.now in
    subst (λ n. FuseEnds n Failed (LogLeft (n - 1) log (log ++ entries)) (g.D.Disk.state c.args.disk.now) (g.D.Disk.state c.append_to_end.new.disk) c.append_to_end.result) (sym (calls_here b c.rolls.result c.if-self.false c.rolls.ensures ∙ ap (λ r. if r then 7 else 5) c.if-rolls.true)) (c.append_to_end.ensures.fuse honest log entries can.spelled.frames (record { is = (append_is log entries b can.sound can.spelled c.if-self.false c.before-head.result.now c.behind-tail.result.now (c.before-head.ensures ∙ ap (take 31) c.deref-2.ensures.value) (c.behind-tail.ensures ∙ ap (drop 32) c.deref-3.ensures.value)); stands = can.stands }))

pub returns-else-rolls-clause-reads : goal.returns-else-rolls-clause-reads
returns-else-rolls-clause-reads g c told log entries held spelled stands =
    let b = c.args.self.now in
    c.append_in.ensures.reads told log entries spelled.frames (append_is log entries b held spelled c.if-self.false c.before-head.result.now c.behind-tail.result.now (c.before-head.ensures ∙ ap (take 31) c.deref-2.ensures.value) (c.behind-tail.ensures ∙ ap (drop 32) c.deref-3.ensures.value)) stands ((is_ready log entries b held spelled c.if-self.false (rolls_false b.fills (b.place / 65536) (sym c.rolls.ensures ∙ c.if-rolls.false))) (λ f. ((g.D.Disk.state c.args.disk.now).files f).reads))

pub returns-else-rolls-clause-done : goal.returns-else-rolls-clause-done
returns-else-rolls-clause-done g c honest log entries can =
    let b = c.args.self.now in
    c.append_in.ensures.done honest log entries can.spelled.frames (record { is = (append_is log entries b can.sound can.spelled c.if-self.false c.before-head.result.now c.behind-tail.result.now (c.before-head.ensures ∙ ap (take 31) c.deref-2.ensures.value) (c.behind-tail.ensures ∙ ap (drop 32) c.deref-3.ensures.value)); stands = can.stands; ready = λ x image. (is_ready log entries b can.sound can.spelled c.if-self.false (rolls_false b.fills (b.place / 65536) (sym c.rolls.ensures ∙ c.if-rolls.false))) x })

pub returns-else-rolls-clause-each : goal.returns-else-rolls-clause-each
returns-else-rolls-clause-each g c honest log entries can =
    let b = c.args.self.now in
    c.append_in.ensures.each honest log entries can.spelled.frames (record { is = (append_is log entries b can.sound can.spelled c.if-self.false c.before-head.result.now c.behind-tail.result.now (c.before-head.ensures ∙ ap (take 31) c.deref-2.ensures.value) (c.behind-tail.ensures ∙ ap (drop 32) c.deref-3.ensures.value)); stands = can.stands; ready = λ x image. (is_ready log entries b can.sound can.spelled c.if-self.false (rolls_false b.fills (b.place / 65536) (sym c.rolls.ensures ∙ c.if-rolls.false))) x })

pub returns-else-rolls-clause-cut_well : goal.returns-else-rolls-clause-cut_well
returns-else-rolls-clause-cut_well g c honest log entries can =
    let b = c.args.self.now in
    c.append_in.ensures.cut_well honest log entries can.spelled.frames (record { is = (append_is log entries b can.sound can.spelled c.if-self.false c.before-head.result.now c.behind-tail.result.now (c.before-head.ensures ∙ ap (take 31) c.deref-2.ensures.value) (c.behind-tail.ensures ∙ ap (drop 32) c.deref-3.ensures.value)); stands = can.stands; ready = λ x image. (is_ready log entries b can.sound can.spelled c.if-self.false (rolls_false b.fills (b.place / 65536) (sym c.rolls.ensures ∙ c.if-rolls.false))) x })

pub returns-else-rolls-clause-fuse : goal.returns-else-rolls-clause-fuse
returns-else-rolls-clause-fuse g c honest log entries can =
    let b = c.args.self.now in
    subst (λ n. FuseEnds n Failed (LogLeft (n - 1) log (log ++ entries)) (g.D.Disk.state c.args.disk.now) (g.D.Disk.state c.append_in.new.disk) c.append_in.result) (sym (calls_here b c.rolls.result c.if-self.false c.rolls.ensures ∙ ap (λ r. if r then 7 else 5) c.if-rolls.false)) (c.append_in.ensures.fuse honest log entries can.spelled.frames (record { is = (append_is log entries b can.sound can.spelled c.if-self.false c.before-head.result.now c.behind-tail.result.now (c.before-head.ensures ∙ ap (take 31) c.deref-2.ensures.value) (c.behind-tail.ensures ∙ ap (drop 32) c.deref-3.ensures.value)); stands = can.stands; ready = λ x image. (is_ready log entries b can.sound can.spelled c.if-self.false (rolls_false b.fills (b.place / 65536) (sym c.rolls.ensures ∙ c.if-rolls.false))) x }))
