use Rattle.std.proofs.Common.{ℤ, [], ◌∷◌, Result, Ok, Err, IsTrue, subst}
use Rattle.std.specs.Int.{w64}
use Rattle.std.proofs.lemmas.Int.{to_z-of_z}
use Rattle.cl_base.specs.declared.fault.MemberFault.{MemberFault}
use Rattle.member_disk.specs.Kept.{Held, EachStands}
use Rattle.member_disk.specs.Parts.{IsMade, raise_part}
use Rattle.log_segment.specs.Held.{new_terms}
use Rattle.member_disk.specs.Changes.{HaveTerms}
use Rattle.member_disk.specs.CutWell.{IsCutWell, no_file}
use Rattle.member_disk.proofs.disk.MemberDisk.raise_term.Goals as goal

pub returns-in-Ok-clause-made : goal.returns-in-Ok-clause-made
returns-in-Ok-clause-made g c =
    let d1 = c.raise.new.disk in
    let result : Result (Unit {0}) MemberFault = Ok tt in
    subst (λ (h : Held g.row.D.Denot). IsTrue (g.D.Disk.is_honest h.disk) → EachStands h.kept (g.D.Disk.state h.disk).files → IsMade g.D.Disk.state g.D.Disk.moment g.D.Disk.left_since (raise_part h.kept c.args.term c.args.voted ∷ []) h.kept h.disk d1 result) c.self.view_is
    (λ honest all. subst (λ (t : ℤ). IsMade g.D.Disk.state g.D.Disk.moment g.D.Disk.left_since (raise_part c.self.inside.durable t c.args.voted ∷ []) c.self.inside.durable c.self.inside.disk d1 result) (to_z-of_z w64 c.args.term c.ranges.term) (c.in-Ok.ensures.made honest all))

pub returns-in-Err-clause-made : goal.returns-in-Err-clause-made
returns-in-Err-clause-made g c =
    let d1 = c.raise.new.disk in
    let result : Result (Unit {0}) MemberFault = Err c.in-Err.fault in
    subst (λ (h : Held g.row.D.Denot). IsTrue (g.D.Disk.is_honest h.disk) → EachStands h.kept (g.D.Disk.state h.disk).files → IsMade g.D.Disk.state g.D.Disk.moment g.D.Disk.left_since (raise_part h.kept c.args.term c.args.voted ∷ []) h.kept h.disk d1 result) c.self.view_is
    (λ honest all. subst (λ (t : ℤ). IsMade g.D.Disk.state g.D.Disk.moment g.D.Disk.left_since (raise_part c.self.inside.durable t c.args.voted ∷ []) c.self.inside.durable c.self.inside.disk d1 result) (to_z-of_z w64 c.args.term c.ranges.term) (c.in-Err.ensures.made honest all))

pub returns-in-Ok-clause-cut_well : goal.returns-in-Ok-clause-cut_well
returns-in-Ok-clause-cut_well g c =
    let d1 = c.raise.new.disk in
    let result : Result (Unit {0}) MemberFault = Ok tt in
    subst (λ (h : Held g.row.D.Denot). IsTrue (g.D.Disk.is_honest h.disk) → EachStands h.kept (g.D.Disk.state h.disk).files → HaveTerms h.kept.entries (new_terms 0 h.kept.log) → IsCutWell g.D.Disk.state g.D.Disk.moment g.D.Disk.left_since no_file h.kept (raise_part h.kept c.args.term c.args.voted).makes h.disk d1) c.self.view_is
    (λ honest all terms. subst (λ (t : ℤ). IsCutWell g.D.Disk.state g.D.Disk.moment g.D.Disk.left_since no_file c.self.inside.durable (raise_part c.self.inside.durable t c.args.voted).makes c.self.inside.disk d1) (to_z-of_z w64 c.args.term c.ranges.term) (c.raise.ensures.cut_well honest all terms))

pub returns-in-Err-clause-cut_well : goal.returns-in-Err-clause-cut_well
returns-in-Err-clause-cut_well g c =
    let d1 = c.raise.new.disk in
    let result : Result (Unit {0}) MemberFault = Err c.in-Err.fault in
    subst (λ (h : Held g.row.D.Denot). IsTrue (g.D.Disk.is_honest h.disk) → EachStands h.kept (g.D.Disk.state h.disk).files → HaveTerms h.kept.entries (new_terms 0 h.kept.log) → IsCutWell g.D.Disk.state g.D.Disk.moment g.D.Disk.left_since no_file h.kept (raise_part h.kept c.args.term c.args.voted).makes h.disk d1) c.self.view_is
    (λ honest all terms. subst (λ (t : ℤ). IsCutWell g.D.Disk.state g.D.Disk.moment g.D.Disk.left_since no_file c.self.inside.durable (raise_part c.self.inside.durable t c.args.voted).makes c.self.inside.disk d1) (to_z-of_z w64 c.args.term c.ranges.term) (c.raise.ensures.cut_well honest all terms))
