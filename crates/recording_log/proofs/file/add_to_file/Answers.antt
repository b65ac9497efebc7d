-- Each exit of the addition.
use Rattle.std.proofs.Common.{◌+◌, inl, List, [], ◌∷◌, ◌++◌, length, IsTrue, refl, sym, subst, ap, arith, ◌<◌}
use Rattle.cl_base.specs.Disk.{FileState}
use Rattle.cl_base.specs.Images.{IsSound}
use Rattle.cl_base.specs.Torn.{run_after, weaker}
use Rattle.cl_base.specs.Through.{IsTornFrom, ThroughLeft}
use Rattle.cl_base.specs.declared.fault.Trouble.{Trouble}
use Rattle.cl_base.specs.declared.fault.Trouble.TheVariants.{Failed}
use Rattle.recording_log.specs.declared.entry.RecEntry.{RecEntry}
use Rattle.cl_base.specs.Every.{FileIs, takes}
use Rattle.recording_log.specs.Entries.{Holds, HoldsOne}
use Rattle.recording_log.specs.Steps.{staged, IsReady, is_open}
use Rattle.cl_base.specs.EveryRun.{every_through, moment_through, every_settled, flips_either, through_left}
use Rattle.recording_log.proofs.HoldLemmas.{staged_ready, gate_flips_at}
use Rattle.recording_log.proofs.Run.{Left, left_before, fuse_of_two}
use Rattle.cl_base.specs.Fuse.{ends_weaker}
use Rattle.recording_log.proofs.file.add_to_file.Goals as goal

pub returns-in-Ok-clause-each : goal.returns-in-Ok-clause-each
returns-in-Ok-clause-each g c honest before entry is every =
    let d0 = c.args.disk.now in
    let f0 = (g.D.Disk.state d0).files in
    let d1 = c.stage.new.disk in
    let f1 = (g.D.Disk.state d1).files in
    let d2 = c.write_through.new.disk in
    let f2 = (g.D.Disk.state d2).files in
    let told = g.met.D.Disk.honest_tells d0 honest in
    let honest1 = subst IsTrue (sym c.stage.ensures.honest) honest in
    let ch = c.in-Ok.ensures.done told in
    let reads = (f0 1).reads in
    let next = before ++ entry ∷ [] in
    let two = staged c.args.at c.args.block.now reads in
    let ready = staged_ready c.args.at c.args.block.now before entry is reads (every.this reads (g.met.D.Disk.reads_is_image d0 1 honest)) in
    let every1 = every_settled 1 (IsReady before entry) f0 two f1 ch.changed ch.others ready in
    let flips = gate_flips_at before entry c.args.at is.place in
    every_through 1 (IsReady before entry) f0 (HoldsOne before next) (c.args.at + 63) 1 f1 f2 every1 (flips_either (List RecEntry) Holds is_open before next (IsReady before entry) (c.args.at + 63) (λ e ready. ready.holds) flips) (c.write_through.ensures.images honest1)

pub returns-in-Ok-clause-cut_well : goal.returns-in-Ok-clause-cut_well
returns-in-Ok-clause-cut_well g c honest before entry is every =
    let d0 = c.args.disk.now in
    let f0 = (g.D.Disk.state d0).files in
    let d1 = c.stage.new.disk in
    let f1 = (g.D.Disk.state d1).files in
    let d2 = c.write_through.new.disk in
    let f2 = (g.D.Disk.state d2).files in
    let told = g.met.D.Disk.honest_tells d0 honest in
    let honest1 = subst IsTrue (sym c.stage.ensures.honest) honest in
    let ch = c.in-Ok.ensures.done told in
    let reads = (f0 1).reads in
    let next = before ++ entry ∷ [] in
    let two = staged c.args.at c.args.block.now reads in
    let ready = staged_ready c.args.at c.args.block.now before entry is reads (every.this reads (g.met.D.Disk.reads_is_image d0 1 honest)) in
    let every1 = every_settled 1 (IsReady before entry) f0 two f1 ch.changed ch.others ready in
    let flips = gate_flips_at before entry c.args.at is.place in
    let run1 = weaker g.D.Disk.moment g.D.Disk.left_since d0 d1 (FileIs 1 (Holds before) f0) (FileIs 1 (HoldsOne before next) f0) (λ x now. record { this = inl now.this; others = now.others }) (c.stage.ensures.cut_well honest before is.place every) in
    let run2 = weaker g.D.Disk.moment g.D.Disk.left_since d1 d2 (IsTornFrom 1 (c.args.at + 63) 1 f1) (FileIs 1 (HoldsOne before next) f0) (moment_through 1 (IsReady before entry) f0 (HoldsOne before next) (c.args.at + 63) 1 f1 every1 (flips_either (List RecEntry) Holds is_open before next (IsReady before entry) (c.args.at + 63) (λ e ready. ready.holds) flips)) (c.write_through.ensures.any_moment honest1) in
    run_after g.D.Disk.moment g.D.Disk.left_since d0 d1 d2 (FileIs 1 (HoldsOne before next) f0) run1 run2

pub returns-in-Ok-clause-fuse : goal.returns-in-Ok-clause-fuse
returns-in-Ok-clause-fuse g c honest before entry is every alive =
    let d0 = c.args.disk.now in
    let f0 = (g.D.Disk.state d0).files in
    let d1 = c.stage.new.disk in
    let f1 = (g.D.Disk.state d1).files in
    let d2 = c.write_through.new.disk in
    let f2 = (g.D.Disk.state d2).files in
    let told = g.met.D.Disk.honest_tells d0 honest in
    let honest1 = subst IsTrue (sym c.stage.ensures.honest) honest in
    let ch = c.in-Ok.ensures.done told in
    let reads = (f0 1).reads in
    let next = before ++ entry ∷ [] in
    let two = staged c.args.at c.args.block.now reads in
    let ready = staged_ready c.args.at c.args.block.now before entry is reads (every.this reads (g.met.D.Disk.reads_is_image d0 1 honest)) in
    let every1 = every_settled 1 (IsReady before entry) f0 two f1 ch.changed ch.others ready in
    let flips = gate_flips_at before entry c.args.at is.place in
    let told1 = subst IsTrue (sym c.stage.ensures.tells) told in
    let s0 = g.D.Disk.state d0 in
    let s1 = g.D.Disk.state d1 in
    let s2 = g.D.Disk.state d2 in
    let sound : IsSound (f1 1) = record { reads = g.met.D.Disk.reads_is_image d1 1 honest1; synced = g.met.D.Disk.synced_is_image d1 1 honest1 } in
    let within : c.args.at + 63 < length (f1 1).reads = omega (arith, ready.room, is.place, ap (λ (s : FileState). length s.reads) ch.changed) in
    fuse_of_two (List RecEntry) Holds before next 1 (takes is_open) (Unit {0}) 3 s0 s1 s2 c.write_through.result (c.in-Ok.ensures.fuse told alive)
    (ends_weaker (Unit {0}) Trouble Failed 2 (ThroughLeft 1 (c.args.at + 63) (90 ∷ []) f1) (Left (List RecEntry) Holds before next 1 (takes is_open) 1) s1 s2 c.write_through.result
    (λ k few left. through_left (List RecEntry) Holds is_open before next (IsReady before entry) (c.args.at + 63) (λ e ready. ready.holds) flips 90 refl (f1 1) sound within every1.this 1 f1 s2 k refl few left)
    (c.write_through.ensures.fuse told1)) alive

pub returns-in-Err-clause-fuse : goal.returns-in-Err-clause-fuse
returns-in-Err-clause-fuse g c honest before entry is every =
    let d0 = c.args.disk.now in
    let d1 = c.stage.new.disk in
    let told = g.met.D.Disk.honest_tells d0 honest in
    let honest1 = subst IsTrue (sym c.stage.ensures.honest) honest in
    let sound : IsSound ((g.D.Disk.state d1).files 1) = record { reads = g.met.D.Disk.reads_is_image d1 1 honest1; synced = g.met.D.Disk.synced_is_image d1 1 honest1 } in
    left_before (List RecEntry) Holds before (before ++ entry ∷ []) 1 (takes is_open) (Unit {0}) 3 (g.D.Disk.state d0) (g.D.Disk.state d1) c.in-Err.trouble sound (c.stage.ensures.each honest before is.place every).this (c.in-Err.ensures.fuse told)
