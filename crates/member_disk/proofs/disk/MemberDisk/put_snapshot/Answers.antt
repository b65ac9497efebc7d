use Rattle.std.proofs.Common.{◌≡◌, ◌⊎◌, ◌+◌, [], ◌∷◌, Result, Ok, Err, IsTrue, subst}
use Rattle.cl_base.specs.Disk.{settled_file}
use Rattle.snapshot_store.specs.Snapshots.{spelled}
use Rattle.cl_base.specs.declared.fault.MemberFault.{MemberFault}
use Rattle.recording_log.specs.Listed.{IsThere}
use Rattle.member_disk.specs.Kept.{Held, EachStands}
use Rattle.member_disk.specs.Changes.{HaveTerms, entry_for}
use Rattle.member_disk.specs.Parts.{IsMade, put_part}
use Rattle.log_segment.specs.Held.{new_terms}
use Rattle.member_disk.specs.CutWell.{IsCutWell, file_of}
use Rattle.member_disk.proofs.disk.MemberDisk.put_snapshot.Goals as goal

pub returns-in-Ok-clause-made : goal.returns-in-Ok-clause-made
returns-in-Ok-clause-made g c =
    let d1 = c.put_snapshot.new.disk in
    let result : Result (Unit {0}) MemberFault = Ok tt in
    subst (λ (h : Held g.row.D.Denot). IsTrue (g.D.Disk.is_honest h.disk) → EachStands h.kept (g.D.Disk.state h.disk).files → (IsThere (entry_for h.kept c.args.head) h.kept.entries → ⊥) → IsMade g.D.Disk.state g.D.Disk.moment g.D.Disk.left_since (put_part h.kept c.args.head ∷ []) h.kept h.disk d1 result) c.self.view_is
    (λ honest all none. c.in-Ok.ensures.made honest all none)

pub returns-in-Err-clause-made : goal.returns-in-Err-clause-made
returns-in-Err-clause-made g c =
    let d1 = c.put_snapshot.new.disk in
    let result : Result (Unit {0}) MemberFault = Err c.in-Err.fault in
    subst (λ (h : Held g.row.D.Denot). IsTrue (g.D.Disk.is_honest h.disk) → EachStands h.kept (g.D.Disk.state h.disk).files → (IsThere (entry_for h.kept c.args.head) h.kept.entries → ⊥) → IsMade g.D.Disk.state g.D.Disk.moment g.D.Disk.left_since (put_part h.kept c.args.head ∷ []) h.kept h.disk d1 result) c.self.view_is
    (λ honest all none. c.in-Err.ensures.made honest all none)

pub returns-in-Ok-clause-cut_well : goal.returns-in-Ok-clause-cut_well
returns-in-Ok-clause-cut_well g c =
    let d1 = c.put_snapshot.new.disk in
    let result : Result (Unit {0}) MemberFault = Ok tt in
    subst (λ (h : Held g.row.D.Denot). IsTrue (g.D.Disk.is_honest h.disk) → EachStands h.kept (g.D.Disk.state h.disk).files → HaveTerms h.kept.entries (new_terms 0 h.kept.log) → (IsThere (entry_for h.kept c.args.head) h.kept.entries → ⊥) → IsCutWell g.D.Disk.state g.D.Disk.moment g.D.Disk.left_since (file_of c.args.head.recording) h.kept (put_part h.kept c.args.head).makes h.disk d1) c.self.view_is
    (λ honest all terms none. c.put_snapshot.ensures.cut_well honest all terms none)

pub returns-in-Err-clause-cut_well : goal.returns-in-Err-clause-cut_well
returns-in-Err-clause-cut_well g c =
    let d1 = c.put_snapshot.new.disk in
    let result : Result (Unit {0}) MemberFault = Err c.in-Err.fault in
    subst (λ (h : Held g.row.D.Denot). IsTrue (g.D.Disk.is_honest h.disk) → EachStands h.kept (g.D.Disk.state h.disk).files → HaveTerms h.kept.entries (new_terms 0 h.kept.log) → (IsThere (entry_for h.kept c.args.head) h.kept.entries → ⊥) → IsCutWell g.D.Disk.state g.D.Disk.moment g.D.Disk.left_since (file_of c.args.head.recording) h.kept (put_part h.kept c.args.head).makes h.disk d1) c.self.view_is
    (λ honest all terms none. c.put_snapshot.ensures.cut_well honest all terms none)

pub returns-in-Err-clause-filed : goal.returns-in-Err-clause-filed
returns-in-Err-clause-filed g c =
    let files = (g.D.Disk.state c.put_snapshot.new.disk).files in
    subst (λ (h : Held g.row.D.Denot). IsTrue (g.D.Disk.is_honest h.disk) → EachStands h.kept (g.D.Disk.state h.disk).files → (IsThere (entry_for h.kept c.args.head) h.kept.entries → ⊥) → EachStands h.kept files ⊎ (files (258 + c.args.head.recording) ≡ settled_file (spelled c.args.pieces.now))) c.self.view_is
    (λ honest all none. c.in-Err.ensures.filed honest all none)
