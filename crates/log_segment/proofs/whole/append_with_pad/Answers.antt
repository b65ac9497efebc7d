-- A pad's gate, behind which the next segment goes on.
use Rattle.std.specs.Prelude.{OnOk}
use Rattle.std.proofs.Common.{ℕ, ◌+◌, ◌++◌, Result, Ok, Err, arith}
use Rattle.cl_base.specs.Images.{IsSound}
use Rattle.cl_base.specs.Torn.{weaker}
use Rattle.cl_base.specs.Gated.{LedImage, LedLeft}
use Rattle.cl_base.specs.Fuse.{ends_weaker}
use Rattle.cl_base.specs.declared.fault.Trouble.{Trouble}
use Rattle.cl_base.specs.declared.fault.Trouble.TheVariants.{Failed}
use Rattle.log_segment.specs.Whole.{LogIsOne, LogLeft}
use Rattle.log_segment.proofs.ApartLemmas.{apart_led}
use Rattle.log_segment.proofs.PadLemmas.{pad_one, pad_after, pad_left}
use Rattle.log_segment.proofs.StillLemmas.{pad_reads}
use Rattle.log_segment.proofs.whole.append_with_pad.Goals as goal

both : (T E P Q R : Type 0) (result : Result T E) → (P → Q → R) → OnOk result P → OnOk result Q → OnOk result R
both T E P Q R (Ok v) so p q = so p q
both T E P Q R (Err e) so p q = p

pub returns-clause-done : goal.returns-clause-done
returns-clause-done g c honest log batch bytes can =
    let d0 = c.args.disk.now in
    let f0 = (g.D.Disk.state d0).files in
    let f1 = (g.D.Disk.state c.write_led.new.disk).files in
    let told = g.met.D.Disk.honest_tells d0 honest in
    let reads = λ (f : ℕ). g.met.D.Disk.reads_is_image d0 f honest in
    both (Unit {0}) Trouble _ _ _ c.write_led.result
    (λ first second. pad_after log batch c.args.segment c.args.at bytes c.args.head.now c.args.tail.now can.is c.requires.segment c.requires.size f0 reads can.stands f1 first second (c.write_led.ensures.others told))
    (c.write_led.ensures.first told) (c.write_led.ensures.second told)

pub returns-clause-each : goal.returns-clause-each
returns-clause-each g c honest log batch bytes can =
    let d0 = c.args.disk.now in
    let f0 = (g.D.Disk.state d0).files in
    let reads = λ (f : ℕ). g.met.D.Disk.reads_is_image d0 f honest in
    λ image_files image. pad_one log batch c.args.segment c.args.at bytes c.args.head.now c.args.tail.now can.is c.requires.segment c.requires.size f0 reads can.stands image_files (c.write_led.ensures.images honest image_files image)

pub returns-clause-cut_well : goal.returns-clause-cut_well
returns-clause-cut_well g c honest log batch bytes can =
    let d0 = c.args.disk.now in
    let d1 = c.write_led.new.disk in
    let f0 = (g.D.Disk.state d0).files in
    let s = c.args.segment in
    let reads = λ (f : ℕ). g.met.D.Disk.reads_is_image d0 f honest in
    weaker g.D.Disk.moment g.D.Disk.left_since d0 d1 (LedImage (2 + s) c.args.at c.args.head.now (c.args.at + 31) (3 + s) c.args.tail.now f0) (LogIsOne log (log ++ batch))
    (pad_one log batch s c.args.at bytes c.args.head.now c.args.tail.now can.is c.requires.segment c.requires.size f0 reads can.stands) (c.write_led.ensures.any_moment honest)

pub returns-clause-fuse : goal.returns-clause-fuse
returns-clause-fuse g c honest log batch bytes can =
    let d0 = c.args.disk.now in
    let d1 = c.write_led.new.disk in
    let f0 = (g.D.Disk.state d0).files in
    let s = c.args.segment in
    let reads = λ (f : ℕ). g.met.D.Disk.reads_is_image d0 f honest in
    let sound : (f : ℕ) → IsSound (f0 f) = λ f. record { reads = g.met.D.Disk.reads_is_image d0 f honest; synced = g.met.D.Disk.synced_is_image d0 f honest } in
    ends_weaker (Unit {0}) Trouble Failed 6 (LedLeft (2 + s) c.args.at c.args.head.now (c.args.at + 31) (3 + s) c.args.tail.now f0) (LogLeft 5 log (log ++ batch)) (g.D.Disk.state d0) (g.D.Disk.state d1) c.write_led.result
    (λ k few left. pad_left log batch s c.args.at bytes c.args.head.now c.args.tail.now can.is c.requires.segment c.requires.size f0 reads can.stands (g.D.Disk.state d1) k few (c.write_led.ensures.others (g.met.D.Disk.honest_tells d0 honest)) sound left)
    (c.write_led.ensures.fuse honest)

pub returns-clause-reads : goal.returns-clause-reads
returns-clause-reads g c told log batch bytes is stands =
    both (Unit {0}) Trouble _ _ _ c.write_led.result
    (λ first second. pad_reads log batch c.args.segment c.args.at bytes c.args.head.now c.args.tail.now (g.D.Disk.state c.args.disk.now).files (g.D.Disk.state c.write_led.new.disk).files stands is c.requires.segment c.requires.size first second (c.write_led.ensures.others told))
    (c.write_led.ensures.first told) (c.write_led.ensures.second told)

pub returns-clause-apart : goal.returns-clause-apart
returns-clause-apart g c honest =
    let d0 = c.args.disk.now in
    let s = c.args.segment in
    apart_led g.D.Disk.moment g.D.Disk.left_since d0 c.write_led.new.disk (g.D.Disk.state d0).files (2 + s) c.args.at c.args.head.now (c.args.at + 31) (3 + s) c.args.tail.now
    (omega arith) (omega (arith, c.requires.segment)) (omega arith) (omega (arith, c.requires.segment)) (c.write_led.ensures.any_moment honest)
