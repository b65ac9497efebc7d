-- Each exit of the write of a whole file.
use Rattle.std.proofs.Common.{◌≤◌, ℕ, List, length, sym, subst, ap, arith}
use Rattle.cl_base.specs.Disk.{FileState, IsImage, IsImageOf}
use Rattle.cl_base.specs.Every.{FileIs}
use Rattle.cl_base.specs.Images.{length-overwritten}
use Rattle.cl_base.specs.Runs.{DiskLaws, TornIn, CutIn, start, wrote, was_cut, was_synced}
use Rattle.cl_base.proofs.several.write_whole.Given as given
use Rattle.cl_base.proofs.several.write_whole.Goals as goal

abbrev laws_of : (g : given.Over) → DiskLaws g.row.D.Denot
laws_of g = record {
  state = g.D.Disk.state;
  is_honest = g.D.Disk.is_honest;
  tells = g.D.Disk.tells;
  moment = g.D.Disk.moment;
  left_since = g.D.Disk.left_since;
  reads = g.met.D.Disk.reads_is_image;
  synced = g.met.D.Disk.synced_is_image;
  honest_tells = g.met.D.Disk.honest_tells;
  only_now = g.met.D.Disk.only_now;
}

module _ (files : ℕ → FileState) (f : ℕ) where
  abbrev Others : (ℕ → List ℕ) → Type 0
  Others c = FileIs f (λ _. Unit {0}) files c

  as_others : (c : ℕ → List ℕ) → IsImageOf files c → Others c
  as_others c image = record { this = tt; others = λ g ne. image g }

  torn_others : (at n : ℕ) (e c : ℕ → List ℕ) → Others e → TornIn f at n e c → Others c
  torn_others at n e c has torn = record { this = tt; others = λ g ne. subst (IsImage (files g)) (sym (torn.others g ne)) (has.others g ne) }

  cut_others : (n : ℕ) (e c : ℕ → List ℕ) → Others e → CutIn f n e c → Others c
  cut_others n e c has cut = record { this = tt; others = λ g ne. subst (IsImage (files g)) (sym (cut.others g ne)) (has.others g ne) }

pub returns-in-Err-clause-any_moment : goal.returns-in-Err-clause-any_moment
returns-in-Err-clause-any_moment g c honest =
    let laws = laws_of g in
    let d0 = c.args.disk.now in
    let d1 = c.write_at.new.self in
    let f0 = (g.D.Disk.state d0).files in
    let told = g.met.D.Disk.honest_tells d0 honest in
    let n = length c.args.bytes.now in
    let P = Others f0 c.args.file in
    let r0 = start laws d0 P P honest (as_others f0 c.args.file) (λ x is. is) in
    let r1 = wrote laws d0 P P P c.args.file 0 c.args.bytes.now d0 d1 c.write_at.result r0 c.write_at.ensures.honest (omega arith) c.write_at.ensures.told c.write_at.ensures.time (torn_others f0 c.args.file 0 n) (λ x is. is) in
    r1.run

pub returns-in-Err-cut-clause-any_moment : goal.returns-in-Err-cut-clause-any_moment
returns-in-Err-cut-clause-any_moment g c honest =
    let laws = laws_of g in
    let d0 = c.args.disk.now in
    let d1 = c.write_at.new.self in
    let f0 = (g.D.Disk.state d0).files in
    let told = g.met.D.Disk.honest_tells d0 honest in
    let n = length c.args.bytes.now in
    let P = Others f0 c.args.file in
    let r0 = start laws d0 P P honest (as_others f0 c.args.file) (λ x is. is) in
    let r1 = wrote laws d0 P P P c.args.file 0 c.args.bytes.now d0 d1 c.write_at.result r0 c.write_at.ensures.honest (omega arith) c.write_at.ensures.told c.write_at.ensures.time (torn_others f0 c.args.file 0 n) (λ x is. is) in
    let d2 = c.cut.new.self in
    let fits : n ≤ length ((g.D.Disk.state d1).files c.args.file).reads = omega (arith, ap (λ (s : FileState). length s.reads) (c.in-Ok.ensures.told told).files.changed, length-overwritten 0 c.args.bytes.now (f0 c.args.file).reads (omega arith)) in
    let r2 = was_cut laws d0 P P P c.args.file n d1 d2 c.cut.result r1 c.cut.ensures.honest fits c.cut.ensures.told c.cut.ensures.time (cut_others f0 c.args.file n) (λ x is. is) in
    r2.run

pub returns-in-Ok-cut-clause-any_moment : goal.returns-in-Ok-cut-clause-any_moment
returns-in-Ok-cut-clause-any_moment g c honest =
    let laws = laws_of g in
    let d0 = c.args.disk.now in
    let d1 = c.write_at.new.self in
    let f0 = (g.D.Disk.state d0).files in
    let told = g.met.D.Disk.honest_tells d0 honest in
    let n = length c.args.bytes.now in
    let P = Others f0 c.args.file in
    let r0 = start laws d0 P P honest (as_others f0 c.args.file) (λ x is. is) in
    let r1 = wrote laws d0 P P P c.args.file 0 c.args.bytes.now d0 d1 c.write_at.result r0 c.write_at.ensures.honest (omega arith) c.write_at.ensures.told c.write_at.ensures.time (torn_others f0 c.args.file 0 n) (λ x is. is) in
    let d2 = c.cut.new.self in
    let fits : n ≤ length ((g.D.Disk.state d1).files c.args.file).reads = omega (arith, ap (λ (s : FileState). length s.reads) (c.in-Ok.ensures.told told).files.changed, length-overwritten 0 c.args.bytes.now (f0 c.args.file).reads (omega arith)) in
    let r2 = was_cut laws d0 P P P c.args.file n d1 d2 c.cut.result r1 c.cut.ensures.honest fits c.cut.ensures.told c.cut.ensures.time (cut_others f0 c.args.file n) (λ x is. is) in
    let d3 = c.sync.new.self in
    let r3 = was_synced laws d0 P P c.args.file d2 d3 c.sync.result r2 c.sync.ensures.honest c.sync.ensures.told c.sync.ensures.time (λ x is. is) in
    r3.run
