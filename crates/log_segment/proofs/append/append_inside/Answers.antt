-- What a gated write makes of a segment.
use Rattle.std.specs.Prelude.{OnOk}
use Rattle.std.proofs.Common.{◌+◌, ◌++◌, Result, Ok, Err, arith}
use Rattle.cl_base.specs.Every.{FileIs}
use Rattle.cl_base.specs.Torn.{weaker}
use Rattle.cl_base.specs.Fuse.{ends_weaker}
use Rattle.cl_base.specs.Gated.{GatedImage, GatedLeft}
use Rattle.cl_base.specs.declared.fault.Trouble.{Trouble}
use Rattle.cl_base.specs.declared.fault.Trouble.TheVariants.{Failed}
use Rattle.log_segment.specs.Batch.{SegmentIsOne, AppendLeft}
use Rattle.log_segment.proofs.ApartLemmas.{apart_file}
use Rattle.log_segment.proofs.InsideLemmas.{appended_all, appended_each, appended_moment, appended_fuse}
use Rattle.log_segment.proofs.append.append_inside.Goals as goal

on_ok : (T E P Q : Type 0) (result : Result T E) → (P → Q) → OnOk result P → OnOk result Q
on_ok T E P Q (Ok v) so on = so on
on_ok T E P Q (Err e) so on = on

pub returns-clause-done : goal.returns-clause-done
returns-clause-done g c honest log batch bytes is every =
    let d0 = c.args.disk.now in
    let d1 = c.write_gated.new.disk in
    let s = c.args.segment in
    let at = c.args.at in
    let head = c.args.head.now in
    let tail = c.args.tail.now in
    let f0 = (g.D.Disk.state d0).files in
    let f1 = (g.D.Disk.state d1).files in
    let read = every.this (f0 (2 + s)).reads (g.met.D.Disk.reads_is_image d0 (2 + s) honest) in
    on_ok (Unit {0}) Trouble _ _ c.write_gated.result (appended_all log batch s at bytes head tail is c.requires.segment c.requires.size f0 every read f1) (c.write_gated.ensures.done (g.met.D.Disk.honest_tells d0 honest))

pub returns-clause-each : goal.returns-clause-each
returns-clause-each g c honest log batch bytes is every =
    let d0 = c.args.disk.now in
    let d1 = c.write_gated.new.disk in
    let s = c.args.segment in
    let at = c.args.at in
    let head = c.args.head.now in
    let tail = c.args.tail.now in
    let f0 = (g.D.Disk.state d0).files in
    let f1 = (g.D.Disk.state d1).files in
    let read = every.this (f0 (2 + s)).reads (g.met.D.Disk.reads_is_image d0 (2 + s) honest) in
    appended_each log batch s at bytes head tail is c.requires.segment c.requires.size f0 every read f1 (c.write_gated.ensures.images honest)

pub returns-clause-cut_well : goal.returns-clause-cut_well
returns-clause-cut_well g c honest log batch bytes is every =
    let d0 = c.args.disk.now in
    let d1 = c.write_gated.new.disk in
    let s = c.args.segment in
    let at = c.args.at in
    let head = c.args.head.now in
    let tail = c.args.tail.now in
    let f0 = (g.D.Disk.state d0).files in
    let f1 = (g.D.Disk.state d1).files in
    let read = every.this (f0 (2 + s)).reads (g.met.D.Disk.reads_is_image d0 (2 + s) honest) in
    weaker g.D.Disk.moment g.D.Disk.left_since d0 d1 (FileIs (2 + s) (GatedImage at head (at + 31) tail (f0 (2 + s))) f0) (FileIs (2 + s) (SegmentIsOne s log (log ++ batch)) f0)
    (appended_moment log batch s at bytes head tail is c.requires.segment c.requires.size f0 every read) (c.write_gated.ensures.any_moment honest)

pub returns-clause-fuse : goal.returns-clause-fuse
returns-clause-fuse g c honest log batch bytes is every =
    let d0 = c.args.disk.now in
    let d1 = c.write_gated.new.disk in
    let s = c.args.segment in
    let at = c.args.at in
    let head = c.args.head.now in
    let tail = c.args.tail.now in
    let f0 = (g.D.Disk.state d0).files in
    let f1 = (g.D.Disk.state d1).files in
    let read = every.this (f0 (2 + s)).reads (g.met.D.Disk.reads_is_image d0 (2 + s) honest) in
    ends_weaker (Unit {0}) Trouble Failed 5 (GatedLeft (2 + s) at head (at + 31) tail (f0 (2 + s))) (AppendLeft s log (log ++ batch)) (g.D.Disk.state d0) (g.D.Disk.state d1) c.write_gated.result
    (appended_fuse log batch s at bytes head tail is c.requires.segment c.requires.size f0 every read (g.D.Disk.state d1)) (c.write_gated.ensures.fuse honest)

pub returns-clause-apart : goal.returns-clause-apart
returns-clause-apart g c honest =
    let d0 = c.args.disk.now in
    let f0 = (g.D.Disk.state d0).files in
    let file = 2 + c.args.segment in
    let gate = c.args.at + 31 in
    apart_file g.D.Disk.moment g.D.Disk.left_since d0 c.write_gated.new.disk f0 file (GatedImage c.args.at c.args.head.now gate c.args.tail.now (f0 file)) (omega arith) (omega (arith, c.requires.segment)) (c.write_gated.ensures.any_moment honest)
