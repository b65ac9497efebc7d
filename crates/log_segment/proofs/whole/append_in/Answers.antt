-- One segment changes, and the others stand for the log after too.
use Rattle.std.proofs.Common.{ℕ, ◌+◌, ◌++◌}
use Rattle.cl_base.specs.Images.{IsSound}
use Rattle.cl_base.specs.Every.{FileIs}
use Rattle.cl_base.specs.Torn.{weaker}
use Rattle.cl_base.specs.Fuse.{ends_weaker}
use Rattle.cl_base.specs.declared.fault.Trouble.{Trouble}
use Rattle.cl_base.specs.declared.fault.Trouble.TheVariants.{Failed}
use Rattle.log_segment.specs.Batch.{SegmentIsOne, AppendLeft}
use Rattle.log_segment.specs.Whole.{LogIsOne, LogLeft}
use Rattle.log_segment.proofs.SpellLemmas.{mapped}
use Rattle.log_segment.proofs.WholeLemmas.{every_before, whole_one, each_one, each_after, left_whole}
use Rattle.log_segment.proofs.StillLemmas.{append_reads}
use Rattle.log_segment.proofs.whole.append_in.Goals as goal

pub returns-clause-done : goal.returns-clause-done
returns-clause-done g c honest log batch bytes can =
    let d0 = c.args.disk.now in
    let f0 = (g.D.Disk.state d0).files in
    let f1 = (g.D.Disk.state c.append_inside.new.disk).files in
    let s = c.args.segment in
    let reads = λ (f : ℕ). g.met.D.Disk.reads_is_image d0 f honest in
    let every = every_before log batch s c.args.at bytes c.args.head.now c.args.tail.now can.is f0 reads can.stands c.requires.segment in
    mapped (Unit {0}) Trouble _ _ c.append_inside.result (each_after log batch s c.args.at bytes c.args.head.now c.args.tail.now can.is f0 reads can.stands can.ready f1) (c.append_inside.ensures.done honest log batch bytes can.is every)

pub returns-clause-each : goal.returns-clause-each
returns-clause-each g c honest log batch bytes can =
    let d0 = c.args.disk.now in
    let f0 = (g.D.Disk.state d0).files in
    let f1 = (g.D.Disk.state c.append_inside.new.disk).files in
    let s = c.args.segment in
    let reads = λ (f : ℕ). g.met.D.Disk.reads_is_image d0 f honest in
    let every = every_before log batch s c.args.at bytes c.args.head.now c.args.tail.now can.is f0 reads can.stands c.requires.segment in
    each_one log batch s c.args.at bytes c.args.head.now c.args.tail.now can.is f0 reads can.stands can.ready f1 (c.append_inside.ensures.each honest log batch bytes can.is every)

pub returns-clause-cut_well : goal.returns-clause-cut_well
returns-clause-cut_well g c honest log batch bytes can =
    let d0 = c.args.disk.now in
    let d1 = c.append_inside.new.disk in
    let f0 = (g.D.Disk.state d0).files in
    let s = c.args.segment in
    let reads = λ (f : ℕ). g.met.D.Disk.reads_is_image d0 f honest in
    let every = every_before log batch s c.args.at bytes c.args.head.now c.args.tail.now can.is f0 reads can.stands c.requires.segment in
    weaker g.D.Disk.moment g.D.Disk.left_since d0 d1 (FileIs (2 + s) (SegmentIsOne s log (log ++ batch)) f0) (LogIsOne log (log ++ batch))
    (whole_one log batch s c.args.at bytes c.args.head.now c.args.tail.now can.is f0 reads can.stands can.ready) (c.append_inside.ensures.cut_well honest log batch bytes can.is every)

pub returns-clause-fuse : goal.returns-clause-fuse
returns-clause-fuse g c honest log batch bytes can =
    let d0 = c.args.disk.now in
    let d1 = c.append_inside.new.disk in
    let f0 = (g.D.Disk.state d0).files in
    let s = c.args.segment in
    let reads = λ (f : ℕ). g.met.D.Disk.reads_is_image d0 f honest in
    let sound : (f : ℕ) → IsSound (f0 f) = λ f. record { reads = g.met.D.Disk.reads_is_image d0 f honest; synced = g.met.D.Disk.synced_is_image d0 f honest } in
    let every = every_before log batch s c.args.at bytes c.args.head.now c.args.tail.now can.is f0 reads can.stands c.requires.segment in
    let stay = c.append_inside.ensures.others (g.met.D.Disk.honest_tells d0 honest) in
    ends_weaker (Unit {0}) Trouble Failed 5 (AppendLeft s log (log ++ batch)) (LogLeft 4 log (log ++ batch)) (g.D.Disk.state d0) (g.D.Disk.state d1) c.append_inside.result
    (λ k few left. left_whole log batch s c.args.at bytes c.args.head.now c.args.tail.now can.is f0 reads can.stands can.ready (g.D.Disk.state d1) k stay sound left)
    (c.append_inside.ensures.fuse honest log batch bytes can.is every)

pub returns-clause-reads : goal.returns-clause-reads
returns-clause-reads g c told log batch bytes is stands ready =
    mapped (Unit {0}) Trouble _ _ c.append_inside.result
    (append_reads log batch c.args.segment c.args.at bytes c.args.head.now c.args.tail.now (g.D.Disk.state c.args.disk.now).files (g.D.Disk.state c.append_inside.new.disk).files stands is c.requires.segment c.requires.size ready)
    (c.append_inside.ensures.written told)
