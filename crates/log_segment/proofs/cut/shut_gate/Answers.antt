-- One byte, and a sync.
use Rattle.std.proofs.Common.{inl, ℕ, ◌+◌, [], ◌∷◌, arith}
use Rattle.cl_base.specs.Images.{IsSound}
use Rattle.cl_base.specs.Through.{ThroughLeft}
use Rattle.cl_base.specs.Fuse.{ends_weaker}
use Rattle.cl_base.specs.Runs.{DiskLaws, start, through}
use Rattle.cl_base.specs.declared.fault.Trouble.{Trouble}
use Rattle.cl_base.specs.declared.fault.Trouble.TheVariants.{Failed}
use Rattle.log_segment.specs.Segment.{LogIs}
use Rattle.log_segment.specs.Whole.{LogIsOne}
use Rattle.log_segment.specs.Cuts.{CutLeft}
use Rattle.log_segment.proofs.SpellLemmas.{mapped}
use Rattle.log_segment.proofs.CutLemmas.{cut_one, cut_after, cut_left}
use Rattle.log_segment.proofs.ApartLemmas.{apart_through}
use Rattle.log_segment.proofs.StillLemmas.{cut_reads}
use Rattle.log_segment.proofs.cut.shut_gate.Given as given
use Rattle.log_segment.proofs.cut.shut_gate.Goals as goal

abbrev laws_of : (g : given.Over) → DiskLaws g.row.D.Denot
laws_of g = record {
  state = g.D.Disk.state;
  is_honest = g.D.Disk.is_honest;
  tells = g.D.Disk.tells;
  moment = g.D.Disk.moment;
  left_since = g.D.Disk.left_since;
  reads = g.met.D.Disk.reads_is_image;
  synced = g.met.D.Disk.synced_is_image;
  honest_tells = g.met.D.Disk.honest_tells;
  only_now = g.met.D.Disk.only_now;
}

pub returns-clause-done : goal.returns-clause-done
returns-clause-done g c honest log kept can =
    let d0 = c.args.disk.now in
    let f0 = (g.D.Disk.state d0).files in
    let f1 = (g.D.Disk.state c.write_through.new.disk).files in
    let told = g.met.D.Disk.honest_tells d0 honest in
    let reads = λ (f : ℕ). g.met.D.Disk.reads_is_image d0 f honest in
    mapped (Unit {0}) Trouble _ _ c.write_through.result (λ ch. cut_after log kept c.args.segment c.args.at can.is c.requires.segment f0 reads can.stands f1 ch.changed ch.others) (c.write_through.ensures.done told)

pub returns-clause-each : goal.returns-clause-each
returns-clause-each g c honest log kept can =
    let d0 = c.args.disk.now in
    let s = c.args.segment in
    let one = LogIsOne log kept in
    (through (laws_of g) d0 one (LogIs log) one (2 + s) (c.args.at + 31) 1 d0 c.write_through.new.disk (start (laws_of g) d0 one (LogIs log) honest can.stands (λ x is. inl is)) c.write_through.ensures.honest
    (c.write_through.ensures.images honest) (c.write_through.ensures.any_moment honest) (λ e x is torn. cut_one log kept s c.args.at can.is c.requires.segment e x is torn) (λ x is. is)).each

pub returns-clause-cut_well : goal.returns-clause-cut_well
returns-clause-cut_well g c honest log kept can =
    let d0 = c.args.disk.now in
    let s = c.args.segment in
    let one = LogIsOne log kept in
    (through (laws_of g) d0 one (LogIs log) one (2 + s) (c.args.at + 31) 1 d0 c.write_through.new.disk (start (laws_of g) d0 one (LogIs log) honest can.stands (λ x is. inl is)) c.write_through.ensures.honest
    (c.write_through.ensures.images honest) (c.write_through.ensures.any_moment honest) (λ e x is torn. cut_one log kept s c.args.at can.is c.requires.segment e x is torn) (λ x is. is)).run

pub returns-clause-fuse : goal.returns-clause-fuse
returns-clause-fuse g c honest log kept can =
    let d0 = c.args.disk.now in
    let d1 = c.write_through.new.disk in
    let f0 = (g.D.Disk.state d0).files in
    let s = c.args.segment in
    let reads = λ (f : ℕ). g.met.D.Disk.reads_is_image d0 f honest in
    let sound : (f : ℕ) → IsSound (f0 f) = λ f. record { reads = g.met.D.Disk.reads_is_image d0 f honest; synced = g.met.D.Disk.synced_is_image d0 f honest } in
    ends_weaker (Unit {0}) Trouble Failed 2 (ThroughLeft (2 + s) (c.args.at + 31) (0 ∷ []) f0) (CutLeft log kept) (g.D.Disk.state d0) (g.D.Disk.state d1) c.write_through.result
    (λ k few left. cut_left log kept s c.args.at can.is c.requires.segment f0 reads can.stands (g.D.Disk.state d1) k few sound left)
    (c.write_through.ensures.fuse (g.met.D.Disk.honest_tells d0 honest))

pub returns-clause-reads : goal.returns-clause-reads
returns-clause-reads g c told log kept is stands =
    mapped (Unit {0}) Trouble _ _ c.write_through.result
    (cut_reads log kept c.args.segment c.args.at (g.D.Disk.state c.args.disk.now).files (g.D.Disk.state c.write_through.new.disk).files is c.requires.segment stands)
    (c.write_through.ensures.done told)

pub returns-clause-apart : goal.returns-clause-apart
returns-clause-apart g c honest =
    let d0 = c.args.disk.now in
    apart_through g.D.Disk.moment g.D.Disk.left_since d0 c.write_through.new.disk (g.D.Disk.state d0).files (2 + c.args.segment) (c.args.at + 31) 1 (omega arith) (omega (arith, c.requires.segment)) (c.write_through.ensures.any_moment honest)
