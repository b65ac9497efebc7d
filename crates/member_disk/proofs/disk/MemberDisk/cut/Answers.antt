use Rattle.std.proofs.Common.{take, Result, Ok, Err, IsTrue, subst}
use Rattle.cl_base.specs.declared.fault.MemberFault.{MemberFault}
use Rattle.log_segment.specs.Held.{new_terms}
use Rattle.member_disk.specs.Kept.{Kept, Held, EachStands}
use Rattle.member_disk.specs.Changes.{HaveTerms}
use Rattle.member_disk.specs.Parts.{IsMade, cut_parts}
use Rattle.member_disk.specs.CutWell.{IsCutWell, no_file}
use Rattle.member_disk.proofs.disk.MemberDisk.cut.Goals as goal

pub returns-in-Ok-clause-made : goal.returns-in-Ok-clause-made
returns-in-Ok-clause-made g c =
    let d1 = c.cut.new.disk in
    let result : Result (Unit {0}) MemberFault = Ok tt in
    subst (λ (h : Held g.row.D.Denot). IsTrue (g.D.Disk.is_honest h.disk) → EachStands h.kept (g.D.Disk.state h.disk).files → IsMade g.D.Disk.state g.D.Disk.moment g.D.Disk.left_since (cut_parts h.kept c.args.entries) h.kept h.disk d1 result) c.self.view_is
    (λ honest all. c.in-Ok.ensures.made honest all)

pub returns-in-Err-clause-made : goal.returns-in-Err-clause-made
returns-in-Err-clause-made g c =
    let d1 = c.cut.new.disk in
    let result : Result (Unit {0}) MemberFault = Err c.in-Err.fault in
    subst (λ (h : Held g.row.D.Denot). IsTrue (g.D.Disk.is_honest h.disk) → EachStands h.kept (g.D.Disk.state h.disk).files → IsMade g.D.Disk.state g.D.Disk.moment g.D.Disk.left_since (cut_parts h.kept c.args.entries) h.kept h.disk d1 result) c.self.view_is
    (λ honest all. c.in-Err.ensures.made honest all)

pub returns-in-Ok-clause-cut_well : goal.returns-in-Ok-clause-cut_well
returns-in-Ok-clause-cut_well g c =
    let d1 = c.cut.new.disk in
    let result : Result (Unit {0}) MemberFault = Ok tt in
    subst (λ (h : Held g.row.D.Denot). IsTrue (g.D.Disk.is_honest h.disk) → EachStands h.kept (g.D.Disk.state h.disk).files → HaveTerms h.kept.entries (new_terms 0 h.kept.log) → IsCutWell g.D.Disk.state g.D.Disk.moment g.D.Disk.left_since no_file h.kept (let k : Kept = record (h.kept) { log = take c.args.entries h.kept.log } in k) h.disk d1) c.self.view_is
    (λ honest all terms. c.cut.ensures.cut_well honest all terms)

pub returns-in-Err-clause-cut_well : goal.returns-in-Err-clause-cut_well
returns-in-Err-clause-cut_well g c =
    let d1 = c.cut.new.disk in
    let result : Result (Unit {0}) MemberFault = Err c.in-Err.fault in
    subst (λ (h : Held g.row.D.Denot). IsTrue (g.D.Disk.is_honest h.disk) → EachStands h.kept (g.D.Disk.state h.disk).files → HaveTerms h.kept.entries (new_terms 0 h.kept.log) → IsCutWell g.D.Disk.state g.D.Disk.moment g.D.Disk.left_since no_file h.kept (let k : Kept = record (h.kept) { log = take c.args.entries h.kept.log } in k) h.disk d1) c.self.view_is
    (λ honest all terms. c.cut.ensures.cut_well honest all terms)
