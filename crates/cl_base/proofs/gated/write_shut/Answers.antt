-- Each exit of the writes before and behind the gate.
use Rattle.std.proofs.Common.{ℕ, ◌+◌, List, length, IsTrue, refl, sym, subst, arith}
use Rattle.cl_base.specs.Disk.{FileState, IsImage, IsImageOf}
use Rattle.cl_base.specs.Every.{EveryImage, FileIs}
use Rattle.cl_base.specs.EveryRun.{every_written, every_through}
use Rattle.cl_base.specs.Torn.{Torn, write_may}
use Rattle.cl_base.specs.Gated.{FromTwice, twice_none, twice_first, twice_second}
use Rattle.cl_base.specs.Runs.{DiskLaws, TornIn, start, wrote, through, sound_at}
use Rattle.cl_base.proofs.gated.write_shut.Given as given
use Rattle.cl_base.proofs.gated.write_shut.Goals as goal

abbrev laws_of : (g : given.Over) → DiskLaws g.row.D.Denot
laws_of g = record {
  state = g.D.Disk.state;
  is_honest = g.D.Disk.is_honest;
  tells = g.D.Disk.tells;
  moment = g.D.Disk.moment;
  left_since = g.D.Disk.left_since;
  reads = g.met.D.Disk.reads_is_image;
  synced = g.met.D.Disk.synced_is_image;
  honest_tells = g.met.D.Disk.honest_tells;
  only_now = g.met.D.Disk.only_now;
}

module _ (files : ℕ → FileState) (f at n place m : ℕ) where
  abbrev Twice : List ℕ → Type 0
  Twice c = FromTwice at n place m (files f) c

  abbrev Here : (ℕ → List ℕ) → Type 0
  Here c = FileIs f Twice files c

  first_here : (e c : List ℕ) → IsImage (files f) e → Torn at n e c → Twice c
  first_here e c image torn = record { before = e; image = image; torn = twice_first at n place m e c torn }

  second_here : (e c : List ℕ) → Twice e → Torn place m e c → Twice c
  second_here e c from torn = record { before = from.before; image = from.image; torn = twice_second at n place m from.before e c from.torn torn }

  every_start : EveryImage f (IsImage (files f)) files files
  every_start = record { this = λ c image. image; others = λ g ne. refl }

  whole_start : (c : ℕ → List ℕ) → IsImageOf files c → Here c
  whole_start c image = record { this = record { before = c f; image = image f; torn = twice_none at n place m (c f) }; others = λ g ne. image g }

  whole_first : (e c : ℕ → List ℕ) → IsImageOf files e → TornIn f at n e c → Here c
  whole_first e c image torn = record { this = first_here (e f) (c f) (image f) torn.this; others = λ g ne. subst (IsImage (files g)) (sym (torn.others g ne)) (image g) }

  whole_second : (e c : ℕ → List ℕ) → Here e → TornIn f place m e c → Here c
  whole_second e c here torn = record { this = second_here (e f) (c f) here.this torn.this; others = λ g ne. subst (IsImage (files g)) (sym (torn.others g ne)) (here.others g ne) }

pub returns-in-Err-clause-images : goal.returns-in-Err-clause-images
returns-in-Err-clause-images g c honest =
    let laws = laws_of g in
    let d0 = c.args.disk.now in
    let d1 = c.write_at.new.self in
    let s0 = g.D.Disk.state d0 in
    let f0 = s0.files in
    let told = g.met.D.Disk.honest_tells d0 honest in
    let n = length c.args.head.now in
    let m = length c.args.tail.now in
    let file = c.args.file in
    let at = c.args.at in
    let place = c.args.gate + 1 in
    let fits = c.requires.within told in
    let e1 = every_written file (IsImage (f0 file)) f0 (Twice f0 file at n place m) at n f0 (g.D.Disk.state d1).files (every_start f0 file at n place m) (sound_at laws d0 (IsImageOf f0) d0 file honest) (first_here f0 file at n place m)
    (write_may file at c.args.head.now s0 (g.D.Disk.state d1) c.write_at.result (omega (arith, fits, c.requires.before)) (c.write_at.ensures.told told)) in
    e1

pub returns-in-Err-clause-any_moment : goal.returns-in-Err-clause-any_moment
returns-in-Err-clause-any_moment g c honest =
    let laws = laws_of g in
    let d0 = c.args.disk.now in
    let d1 = c.write_at.new.self in
    let s0 = g.D.Disk.state d0 in
    let f0 = s0.files in
    let told = g.met.D.Disk.honest_tells d0 honest in
    let n = length c.args.head.now in
    let m = length c.args.tail.now in
    let file = c.args.file in
    let at = c.args.at in
    let place = c.args.gate + 1 in
    let fits = c.requires.within told in
    let Q = Here f0 file at n place m in
    let r0 = start laws d0 Q (IsImageOf f0) honest (λ x image. image) (whole_start f0 file at n place m) in
    let r1 = wrote laws d0 Q (IsImageOf f0) Q file at c.args.head.now d0 d1 c.write_at.result r0 c.write_at.ensures.honest (omega (arith, fits, c.requires.before)) c.write_at.ensures.told c.write_at.ensures.time (whole_first f0 file at n place m) (λ x is. is) in
    r1.run

pub returns-in-Ok-clause-images : goal.returns-in-Ok-clause-images
returns-in-Ok-clause-images g c honest =
    let laws = laws_of g in
    let d0 = c.args.disk.now in
    let d1 = c.write_at.new.self in
    let s0 = g.D.Disk.state d0 in
    let f0 = s0.files in
    let told = g.met.D.Disk.honest_tells d0 honest in
    let n = length c.args.head.now in
    let m = length c.args.tail.now in
    let file = c.args.file in
    let at = c.args.at in
    let place = c.args.gate + 1 in
    let fits = c.requires.within told in
    let e1 = every_written file (IsImage (f0 file)) f0 (Twice f0 file at n place m) at n f0 (g.D.Disk.state d1).files (every_start f0 file at n place m) (sound_at laws d0 (IsImageOf f0) d0 file honest) (first_here f0 file at n place m)
    (write_may file at c.args.head.now s0 (g.D.Disk.state d1) c.write_at.result (omega (arith, fits, c.requires.before)) (c.write_at.ensures.told told)) in
    let honest1 = subst IsTrue (sym c.write_at.ensures.honest) honest in
    let e2 = every_through file (Twice f0 file at n place m) f0 (Twice f0 file at n place m) place m (g.D.Disk.state d1).files (g.D.Disk.state c.write_through.new.disk).files e1 (second_here f0 file at n place m) (c.write_through.ensures.images honest1) in
    e2

pub returns-in-Ok-clause-any_moment : goal.returns-in-Ok-clause-any_moment
returns-in-Ok-clause-any_moment g c honest =
    let laws = laws_of g in
    let d0 = c.args.disk.now in
    let d1 = c.write_at.new.self in
    let s0 = g.D.Disk.state d0 in
    let f0 = s0.files in
    let told = g.met.D.Disk.honest_tells d0 honest in
    let n = length c.args.head.now in
    let m = length c.args.tail.now in
    let file = c.args.file in
    let at = c.args.at in
    let place = c.args.gate + 1 in
    let fits = c.requires.within told in
    let Q = Here f0 file at n place m in
    let r0 = start laws d0 Q (IsImageOf f0) honest (λ x image. image) (whole_start f0 file at n place m) in
    let r1 = wrote laws d0 Q (IsImageOf f0) Q file at c.args.head.now d0 d1 c.write_at.result r0 c.write_at.ensures.honest (omega (arith, fits, c.requires.before)) c.write_at.ensures.told c.write_at.ensures.time (whole_first f0 file at n place m) (λ x is. is) in
    let r2 = through laws d0 Q Q Q file place m d1 c.write_through.new.disk r1 c.write_through.ensures.honest (c.write_through.ensures.images r1.honest) (c.write_through.ensures.any_moment r1.honest) (whole_second f0 file at n place m) (λ x is. is) in
    r2.run
