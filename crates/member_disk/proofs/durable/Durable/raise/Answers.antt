-- A raise of the node state is a change of one part.
use Rattle.std.proofs.Common.{ℤ, [], ◌∷◌, refl, sym, subst, arith}
use Rattle.std.specs.Int.{w64, cast_signed, cast_unsigned}
use Rattle.std.proofs.lemmas.Int.{to_z-of_z}
use Rattle.cl_base.specs.Runs.{DiskLaws}
use Rattle.member_disk.specs.Kept.{Kept, EachStands}
use Rattle.member_disk.specs.Parts.{IsMade, raise_part}
use Rattle.member_disk.proofs.Files.{raise_made}
use Rattle.node_state.specs.Node.{Tells}
use Rattle.log_segment.specs.Held.{new_terms}
use Rattle.member_disk.specs.CutWell.{no_file}
use Rattle.member_disk.proofs.Compose.{every_of}
use Rattle.member_disk.proofs.Sparing.{spares_file, front_file}
use Rattle.member_disk.proofs.CutWells.{part_cut_well}
use Rattle.member_disk.proofs.durable.Durable.raise.Given as given
use Rattle.member_disk.proofs.durable.Durable.raise.Goals as goal

abbrev laws_of : (g : given.Over) → DiskLaws g.row.D.Denot
laws_of g = record {
  state = g.D.Disk.state;
  is_honest = g.D.Disk.is_honest;
  tells = g.D.Disk.tells;
  moment = g.D.Disk.moment;
  left_since = g.D.Disk.left_since;
  reads = g.met.D.Disk.reads_is_image;
  synced = g.met.D.Disk.synced_is_image;
  honest_tells = g.met.D.Disk.honest_tells;
  only_now = g.met.D.Disk.only_now;
}

pub returns-clause-made : goal.returns-clause-made
returns-clause-made g c honest all =
    let mine : Kept = record { node = c.self.inside.node; entries = c.self.inside.recording; log = c.self.inside.log; services = c.self.inside.services } in
    let d0 = c.args.disk.now in
    let d1 = c.raise.new.disk in
    let here = subst (λ (k : Kept). EachStands k (g.D.Disk.state d0).files) (sym c.self.view_is) all in
    subst (λ (k : Kept). IsMade g.D.Disk.state g.D.Disk.moment g.D.Disk.left_since (raise_part k c.args.term c.args.voted ∷ []) k d0 d1 c.raise.result) c.self.view_is
    (subst (λ (t : ℤ). IsMade g.D.Disk.state g.D.Disk.moment g.D.Disk.left_since (raise_part mine t c.args.voted ∷ []) mine d0 d1 c.raise.result) (to_z-of_z w64 c.args.term c.ranges.term)
    (raise_made (laws_of g) (Unit {0}) mine d0 d1 c.raise.result honest here (cast_signed w64 (cast_unsigned w64 c.args.term)) c.args.voted (c.raise.ensures.others (g.met.D.Disk.honest_tells d0 honest)) (c.raise.ensures.done honest) (c.raise.ensures.each honest) (c.raise.ensures.cut_well honest) (c.raise.ensures.fuse honest)))

pub returns-clause-spares : goal.returns-clause-spares
returns-clause-spares g c honest all =
    let mine : Kept = record { node = c.self.inside.node; entries = c.self.inside.recording; log = c.self.inside.log; services = c.self.inside.services } in
    let d0 = c.args.disk.now in
    let here = subst (λ (k : Kept). EachStands k (g.D.Disk.state d0).files) (sym c.self.view_is) all in
    let there = every_of (laws_of g) 0 (Tells mine.node) mine d0 honest here (λ x is. is.node) in
    spares_file (laws_of g) no_file 0 _ d0 c.raise.new.disk (front_file no_file 0 (omega arith)) (c.raise.ensures.others (g.met.D.Disk.honest_tells d0 honest)) (c.raise.ensures.cut_well honest there)

pub returns-clause-cut_well : goal.returns-clause-cut_well
returns-clause-cut_well g c honest all terms =
    let kept = c.args.self.now in
    let part = raise_part kept c.args.term c.args.voted in
    part_cut_well g.D.Disk.state g.D.Disk.moment g.D.Disk.left_since (Unit {0}) no_file kept part.makes c.args.disk.now c.raise.new.disk c.raise.result part refl terms terms
    (returns-clause-made g c honest all) (returns-clause-spares g c honest all)
