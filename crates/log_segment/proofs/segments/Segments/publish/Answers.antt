-- What the batch's append does.
use Rattle.std.proofs.Common.{◌≡◌, false, ◌-◌, ◌++◌, sym, ◌∙◌, ap, subst}
use Rattle.cl_base.specs.Fuse.{FuseEnds, Passed, fuse_of_member}
use Rattle.cl_base.specs.declared.fault.MemberFault.TheVariants as fault
use Rattle.entry_log.specs.Log.{Log, place}
use Rattle.log_segment.specs.Segment.{LogIs}
use Rattle.log_segment.specs.Held.{IsHeld}
use Rattle.log_segment.specs.Spelled.{write_calls}
use Rattle.log_segment.specs.Whole.{LogLeft}
use Rattle.log_segment.proofs.WriteLemmas.{write_room, calls_are}
use Rattle.log_segment.proofs.LookLemmas.{err_of}
use Rattle.log_segment.proofs.segments.Segments.publish.Goals as goal

pub write-requires-clause-spelled : goal.write-requires-clause-spelled
write-requires-clause-spelled g c =
    let log = c.args.self.now in
    let entries = c.args.entries.now in
    let b = c.args.batch.now in
    let held = subst IsHeld c.self.view_is c.index.ensures.sound in
    (place log, entries, c.requires.spelled)

pub write-requires-clause-room : goal.write-requires-clause-room
write-requires-clause-room g c told =
    let log = c.args.self.now in
    let entries = c.args.entries.now in
    let b = c.args.batch.now in
    let held = subst IsHeld c.self.view_is c.index.ensures.sound in
    let room = write_room log entries b held c.requires.spelled (λ f. ((g.D.Disk.state c.args.disk.now).files f).reads) (c.requires.stands told) in
    room

pub returns-in-Ok-write-clause-stands : goal.returns-in-Ok-write-clause-stands
returns-in-Ok-write-clause-stands g c told =
    let log = c.args.self.now in
    let entries = c.args.entries.now in
    let b = c.args.batch.now in
    let held = subst IsHeld c.self.view_is c.index.ensures.sound in
    subst (λ l. LogIs l (λ f. ((g.D.Disk.state c.write.new.disk).files f).reads)) (sym (c.in-Ok.ensures.ok ∙ ap (λ (l : Log). l ++ entries) c.self.view_is)) (c.in-Ok-write.ensures.reads told log entries held c.requires.spelled (c.requires.stands told))

pub returns-in-Ok-write-clause-done : goal.returns-in-Ok-write-clause-done
returns-in-Ok-write-clause-done g c honest stands =
    let log = c.args.self.now in
    let entries = c.args.entries.now in
    let b = c.args.batch.now in
    let held = subst IsHeld c.self.view_is c.index.ensures.sound in
    c.in-Ok-write.ensures.done honest log entries (record { sound = held; spelled = c.requires.spelled; stands = stands })

pub returns-in-Ok-write-clause-each : goal.returns-in-Ok-write-clause-each
returns-in-Ok-write-clause-each g c honest stands =
    let log = c.args.self.now in
    let entries = c.args.entries.now in
    let b = c.args.batch.now in
    let held = subst IsHeld c.self.view_is c.index.ensures.sound in
    c.write.ensures.each honest log entries (record { sound = held; spelled = c.requires.spelled; stands = stands })

pub returns-in-Ok-write-clause-cut_well : goal.returns-in-Ok-write-clause-cut_well
returns-in-Ok-write-clause-cut_well g c honest stands =
    let log = c.args.self.now in
    let entries = c.args.entries.now in
    let b = c.args.batch.now in
    let held = subst IsHeld c.self.view_is c.index.ensures.sound in
    c.write.ensures.cut_well honest log entries (record { sound = held; spelled = c.requires.spelled; stands = stands })

pub returns-in-Err-write-clause-each : goal.returns-in-Err-write-clause-each
returns-in-Err-write-clause-each g c honest stands =
    let log = c.args.self.now in
    let entries = c.args.entries.now in
    let b = c.args.batch.now in
    let held = subst IsHeld c.self.view_is c.index.ensures.sound in
    c.write.ensures.each honest log entries (record { sound = held; spelled = c.requires.spelled; stands = stands })

pub returns-in-Err-write-clause-cut_well : goal.returns-in-Err-write-clause-cut_well
returns-in-Err-write-clause-cut_well g c honest stands =
    let log = c.args.self.now in
    let entries = c.args.entries.now in
    let b = c.args.batch.now in
    let held = subst IsHeld c.self.view_is c.index.ensures.sound in
    c.write.ensures.cut_well honest log entries (record { sound = held; spelled = c.requires.spelled; stands = stands })

pub returns-in-Ok-write-clause-fuse : goal.returns-in-Ok-write-clause-fuse
returns-in-Ok-write-clause-fuse g c honest stands =
    let log = c.args.self.now in
    let entries = c.args.entries.now in
    let held = subst IsHeld c.self.view_is c.index.ensures.sound in
    let s0 = g.D.Disk.state c.args.disk.now in
    let s1 = g.D.Disk.state c.write.new.disk in
    subst (λ k. s0.burnt ≡ false → Passed k s0 s1) (calls_are c.args.batch.now (place log) entries c.requires.spelled) (c.in-Ok-write.ensures.fuse honest log entries (record { sound = held; spelled = c.requires.spelled; stands = stands }))

pub returns-in-Err-write-clause-fuse : goal.returns-in-Err-write-clause-fuse
returns-in-Err-write-clause-fuse g c honest stands =
    let log = c.args.self.now in
    let entries = c.args.entries.now in
    let b = c.args.batch.now in
    let held = subst IsHeld c.self.view_is c.index.ensures.sound in
    let s0 = g.D.Disk.state c.args.disk.now in
    let s1 = g.D.Disk.state c.write.new.disk in
    subst (λ k. FuseEnds k fault.Device (LogLeft (k - 1) log (log ++ entries)) s0 s1 (err_of (Unit {0}) c.from.result)) (calls_are b (place log) entries c.requires.spelled)
    (fuse_of_member (Unit {0}) (Unit {0}) (write_calls b) (LogLeft (write_calls b - 1) log (log ++ entries)) s0 s1 c.in-Err-write.trouble c.from.result c.from.ensures (c.in-Err-write.ensures.fuse honest log entries (record { sound = held; spelled = c.requires.spelled; stands = stands })))
