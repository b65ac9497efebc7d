use Rattle.std.proofs.Common.{◌++◌, Result, Ok, Err, IsTrue, subst}
use Rattle.cl_base.specs.declared.fault.MemberFault.{MemberFault}
use Rattle.cl_base.specs.declared.fault.MemberFault.TheVariants.{LogFull}
use Rattle.log_segment.specs.Held.{new_terms}
use Rattle.member_disk.specs.Kept.{Kept, Held, EachStands}
use Rattle.member_disk.specs.Changes.{HaveTerms}
use Rattle.member_disk.specs.Parts.{IsMade, append_parts}
use Rattle.member_disk.specs.CutWell.{IsCutWell, no_file}
use Rattle.member_disk.proofs.disk.MemberDisk.append.Goals as goal

pub returns-in-Ok-clause-made : goal.returns-in-Ok-clause-made
returns-in-Ok-clause-made g c =
    let d1 = c.append.new.disk in
    let result : Result (Unit {0}) MemberFault = Ok tt in
    subst (λ (h : Held g.row.D.Denot). IsTrue (g.D.Disk.is_honest h.disk) → EachStands h.kept (g.D.Disk.state h.disk).files → IsMade g.D.Disk.state g.D.Disk.moment g.D.Disk.left_since (append_parts h.kept c.args.entries.now) h.kept h.disk d1 result) c.self.view_is
    (λ honest all. c.in-Ok.ensures.made honest all)

pub returns-in-Ok-clause-cut_well : goal.returns-in-Ok-clause-cut_well
returns-in-Ok-clause-cut_well g c =
    let d1 = c.append.new.disk in
    subst (λ (h : Held g.row.D.Denot). IsTrue (g.D.Disk.is_honest h.disk) → EachStands h.kept (g.D.Disk.state h.disk).files → HaveTerms h.kept.entries (new_terms 0 h.kept.log) → IsCutWell g.D.Disk.state g.D.Disk.moment g.D.Disk.left_since no_file h.kept (let k : Kept = record (h.kept) { log = h.kept.log ++ c.args.entries.now } in k) h.disk d1) c.self.view_is
    (λ honest all terms. c.append.ensures.cut_well honest all terms)

pub returns-in-Err-LogFull-clause-made : goal.returns-in-Err-LogFull-clause-made
returns-in-Err-LogFull-clause-made g c =
    let d1 = c.append.new.disk in
    let result : Result (Unit {0}) MemberFault = Err (LogFull c.in-Err-LogFull.place) in
    subst (λ (h : Held g.row.D.Denot). IsTrue (g.D.Disk.is_honest h.disk) → EachStands h.kept (g.D.Disk.state h.disk).files → IsMade g.D.Disk.state g.D.Disk.moment g.D.Disk.left_since (append_parts h.kept c.args.entries.now) h.kept h.disk d1 result) c.self.view_is
    (λ honest all. subst (λ (e : MemberFault). IsMade {T = Unit {0}} g.D.Disk.state g.D.Disk.moment g.D.Disk.left_since (append_parts c.self.inside.durable c.args.entries.now) c.self.inside.durable c.self.inside.disk d1 (Err e)) c.in-Err-LogFull.field-0-is (c.in-Err-LogFull.ensures.made honest all))

pub returns-in-Err-LogFull-clause-cut_well : goal.returns-in-Err-LogFull-clause-cut_well
returns-in-Err-LogFull-clause-cut_well g c =
    let d1 = c.append.new.disk in
    subst (λ (h : Held g.row.D.Denot). IsTrue (g.D.Disk.is_honest h.disk) → EachStands h.kept (g.D.Disk.state h.disk).files → HaveTerms h.kept.entries (new_terms 0 h.kept.log) → IsCutWell g.D.Disk.state g.D.Disk.moment g.D.Disk.left_since no_file h.kept (let k : Kept = record (h.kept) { log = h.kept.log ++ c.args.entries.now } in k) h.disk d1) c.self.view_is
    (λ honest all terms. c.append.ensures.cut_well honest all terms)

pub returns-in-Err-clause-made : goal.returns-in-Err-clause-made
returns-in-Err-clause-made g c =
    let d1 = c.append.new.disk in
    let result : Result (Unit {0}) MemberFault = Err c.in-Err.fault in
    subst (λ (h : Held g.row.D.Denot). IsTrue (g.D.Disk.is_honest h.disk) → EachStands h.kept (g.D.Disk.state h.disk).files → IsMade g.D.Disk.state g.D.Disk.moment g.D.Disk.left_since (append_parts h.kept c.args.entries.now) h.kept h.disk d1 result) c.self.view_is
    (λ honest all. c.in-Err.ensures.made honest all)

pub returns-in-Err-clause-cut_well : goal.returns-in-Err-clause-cut_well
returns-in-Err-clause-cut_well g c =
    let d1 = c.append.new.disk in
    subst (λ (h : Held g.row.D.Denot). IsTrue (g.D.Disk.is_honest h.disk) → EachStands h.kept (g.D.Disk.state h.disk).files → HaveTerms h.kept.entries (new_terms 0 h.kept.log) → IsCutWell g.D.Disk.state g.D.Disk.moment g.D.Disk.left_since no_file h.kept (let k : Kept = record (h.kept) { log = h.kept.log ++ c.args.entries.now } in k) h.disk d1) c.self.view_is
    (λ honest all terms. c.append.ensures.cut_well honest all terms)
