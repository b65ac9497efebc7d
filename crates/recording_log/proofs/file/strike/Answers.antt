-- The one exit of the strike.
use Rattle.std.proofs.Common.{List, [], ◌∷◌, refl}
use Rattle.cl_base.specs.Images.{IsSound}
use Rattle.cl_base.specs.Torn.{weaker}
use Rattle.cl_base.specs.Through.{IsTornFrom, ThroughLeft}
use Rattle.cl_base.specs.declared.fault.Trouble.{Trouble}
use Rattle.cl_base.specs.declared.fault.Trouble.TheVariants.{Failed}
use Rattle.recording_log.specs.declared.entry.RecEntry.{RecEntry}
use Rattle.cl_base.specs.Every.{FileIs, takes}
use Rattle.recording_log.specs.Entries.{Holds}
use Rattle.recording_log.specs.Valid.{Stands, StandsOne, valid_of}
use Rattle.recording_log.specs.Sets.{struck, is_struck}
use Rattle.cl_base.specs.EveryRun.{every_through, moment_through, flips_either, through_left}
use Rattle.recording_log.proofs.StrikeLemmas.{holds_stands, strike_flips}
use Rattle.recording_log.proofs.Run.{Left}
use Rattle.cl_base.specs.Fuse.{ends_weaker}
use Rattle.recording_log.proofs.file.strike.Goals as goal

pub returns-clause-each : goal.returns-clause-each
returns-clause-each g c honest entries i e is every =
    let f0 = (g.D.Disk.state c.args.disk.now).files in
    let f1 = (g.D.Disk.state c.write_through.new.disk).files in
    let before = valid_of entries in
    let after = valid_of (struck i e entries) in
    every_through 1 (Holds entries) f0 (StandsOne before after) c.args.at 1 f0 f1 every
    (flips_either (List RecEntry) Stands is_struck before after (Holds entries) c.args.at (holds_stands entries i e is.there is.snapshot) (strike_flips entries i e is.there is.snapshot c.args.at is.place)) (c.write_through.ensures.images honest)

pub returns-clause-cut_well : goal.returns-clause-cut_well
returns-clause-cut_well g c honest entries i e is every =
    let d0 = c.args.disk.now in
    let d1 = c.write_through.new.disk in
    let f0 = (g.D.Disk.state d0).files in
    let before = valid_of entries in
    let after = valid_of (struck i e entries) in
    weaker g.D.Disk.moment g.D.Disk.left_since d0 d1 (IsTornFrom 1 c.args.at 1 f0) (FileIs 1 (StandsOne before after) f0)
    (moment_through 1 (Holds entries) f0 (StandsOne before after) c.args.at 1 f0 every
    (flips_either (List RecEntry) Stands is_struck before after (Holds entries) c.args.at (holds_stands entries i e is.there is.snapshot) (strike_flips entries i e is.there is.snapshot c.args.at is.place)))
    (c.write_through.ensures.any_moment honest)

pub returns-clause-fuse : goal.returns-clause-fuse
returns-clause-fuse g c honest entries i e is every =
    let d0 = c.args.disk.now in
    let s0 = g.D.Disk.state d0 in
    let s1 = g.D.Disk.state c.write_through.new.disk in
    let told = g.met.D.Disk.honest_tells d0 honest in
    let before = valid_of entries in
    let after = valid_of (struck i e entries) in
    let sound : IsSound (s0.files 1) = record { reads = g.met.D.Disk.reads_is_image d0 1 honest; synced = g.met.D.Disk.synced_is_image d0 1 honest } in
    ends_weaker (Unit {0}) Trouble Failed 2 (ThroughLeft 1 c.args.at (128 ∷ []) s0.files) (Left (List RecEntry) Stands before after 1 (takes is_struck) 1) s0 s1 c.write_through.result
    (λ k few left. through_left (List RecEntry) Stands is_struck before after (Holds entries) c.args.at (holds_stands entries i e is.there is.snapshot) (strike_flips entries i e is.there is.snapshot c.args.at is.place)
    128 refl (s0.files 1) sound (c.requires told) every.this 1 s0.files s1 k refl few left)
    (c.write_through.ensures.fuse told)
