-- A cut of the segments is a change of one part, or of none.
use Rattle.std.proofs.Common.{IsTrue, take, refl, sym, subst}
use Rattle.cl_base.specs.Runs.{DiskLaws, EachImage}
use Rattle.log_segment.specs.Segment.{LogIs}
use Rattle.log_segment.specs.Held.{new_terms}
use Rattle.member_disk.specs.Kept.{Kept, EachStands}
use Rattle.member_disk.specs.Parts.{IsMade, cut_parts}
use Rattle.member_disk.specs.CutWell.{no_file}
use Rattle.member_disk.proofs.LogFiles.{cut_made}
use Rattle.member_disk.proofs.Sparing.{spares_log}
use Rattle.member_disk.proofs.CutWells.{cut_cut_well, terms_take}
use Rattle.member_disk.proofs.durable.Durable.cut.Given as given
use Rattle.member_disk.proofs.durable.Durable.cut.Goals as goal

abbrev laws_of : (g : given.Over) → DiskLaws g.row.D.Denot
laws_of g = record {
  state = g.D.Disk.state;
  is_honest = g.D.Disk.is_honest;
  tells = g.D.Disk.tells;
  moment = g.D.Disk.moment;
  left_since = g.D.Disk.left_since;
  reads = g.met.D.Disk.reads_is_image;
  synced = g.met.D.Disk.synced_is_image;
  honest_tells = g.met.D.Disk.honest_tells;
  only_now = g.met.D.Disk.only_now;
}

pub returns-clause-made : goal.returns-clause-made
returns-clause-made g c honest all =
    let mine : Kept = record { node = c.self.inside.node; entries = c.self.inside.recording; log = c.self.inside.log; services = c.self.inside.services } in
    let d0 = c.args.disk.now in
    let d1 = c.cut.new.disk in
    let here = subst (λ (k : Kept). EachStands k (g.D.Disk.state d0).files) (sym c.self.view_is) all in
    let told = g.met.D.Disk.honest_tells d0 honest in
    let each_log : EachImage (LogIs mine.log) (g.D.Disk.state d0).files = λ x image. (here x image).log in
    subst (λ (k : Kept). IsMade g.D.Disk.state g.D.Disk.moment g.D.Disk.left_since (cut_parts k c.args.entries) k d0 d1 c.cut.result) c.self.view_is
    (cut_made (laws_of g) (Unit {0}) mine d0 d1 c.cut.result c.args.entries honest here (c.cut.ensures.others told) (c.cut.ensures.done honest each_log) (c.cut.ensures.each honest each_log) (c.cut.ensures.cut_well honest each_log) (c.cut.ensures.apart honest) (c.cut.ensures.fuse honest each_log))

pub returns-clause-spares : goal.returns-clause-spares
returns-clause-spares g c honest all =
    let d0 = c.args.disk.now in
    spares_log (laws_of g) no_file d0 c.cut.new.disk (c.cut.ensures.others (g.met.D.Disk.honest_tells d0 honest)) (c.cut.ensures.apart honest)

pub returns-clause-cut_well : goal.returns-clause-cut_well
returns-clause-cut_well g c honest all terms =
    let kept = c.args.self.now in
    let n = c.args.entries in
    let after : Kept = record kept { log = take n kept.log } in
    cut_cut_well g.D.Disk.state g.D.Disk.moment g.D.Disk.left_since (Unit {0}) no_file kept after c.args.disk.now c.cut.new.disk c.cut.result n refl terms (terms_take kept.entries 0 n kept.log terms)
    (returns-clause-made g c honest all) (returns-clause-spares g c honest all)
