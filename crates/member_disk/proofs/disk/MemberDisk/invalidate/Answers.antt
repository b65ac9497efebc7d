use Rattle.std.specs.Prelude.{IsFalse}
use Rattle.std.proofs.Common.{◌↔◌, ℕ, Bool, Result, Ok, Err, IsTrue, sym, ◌∙◌, ap, subst}
use Rattle.recording_log.specs.Sets.{HasNoSet, IsLatest, struck}
use Rattle.member_disk.specs.Kept.{Kept, Held, EachStands}
use Rattle.cl_base.specs.declared.fault.MemberFault.{MemberFault}
use Rattle.recording_log.specs.declared.entry.RecEntry.{RecEntry}
use Rattle.log_segment.specs.Held.{new_terms}
use Rattle.member_disk.specs.Changes.{HaveTerms}
use Rattle.member_disk.specs.Struck.{IsStruck, with_struck}
use Rattle.member_disk.specs.CutWell.{IsCutWell, no_file}
use Rattle.member_disk.proofs.disk.MemberDisk.invalidate.Goals as goal

pub returns-in-Ok-clause-found : goal.returns-in-Ok-clause-found
returns-in-Ok-clause-found g c = subst (λ (h : Held g.row.D.Denot). IsFalse c.in-Ok.found ↔ HasNoSet h.kept.services h.kept.entries) c.self.view_is c.in-Ok.ensures.found

pub returns-in-Ok-clause-nothing : goal.returns-in-Ok-clause-nothing
returns-in-Ok-clause-nothing g c none =
    let there = subst (λ (h : Held g.row.D.Denot). HasNoSet h.kept.services h.kept.entries) (sym c.self.view_is) none in
    c.invalidate.ensures.nothing there ∙ ap (λ (h : Held g.row.D.Denot). h.kept) c.self.view_is

pub returns-in-Ok-clause-untouched : goal.returns-in-Ok-clause-untouched
returns-in-Ok-clause-untouched g c none =
    let there = subst (λ (h : Held g.row.D.Denot). HasNoSet h.kept.services h.kept.entries) (sym c.self.view_is) none in
    c.invalidate.ensures.untouched there ∙ ap (λ (h : Held g.row.D.Denot). g.D.Disk.state h.disk) c.self.view_is

pub returns-in-Err-clause-untouched : goal.returns-in-Err-clause-untouched
returns-in-Err-clause-untouched g c none =
    let there = subst (λ (h : Held g.row.D.Denot). HasNoSet h.kept.services h.kept.entries) (sym c.self.view_is) none in
    c.invalidate.ensures.untouched there ∙ ap (λ (h : Held g.row.D.Denot). g.D.Disk.state h.disk) c.self.view_is

pub returns-in-Ok-clause-ok : goal.returns-in-Ok-clause-ok
returns-in-Ok-clause-ok g c i e latest =
    let there = subst (λ (h : Held g.row.D.Denot). IsLatest h.kept.services h.kept.entries i e) (sym c.self.view_is) latest in
    c.in-Ok.ensures.ok i e there ∙ ap (λ (h : Held g.row.D.Denot). let k : Kept = record (h.kept) { entries = struck i e h.kept.entries } in k) c.self.view_is

pub returns-in-Ok-clause-struck : goal.returns-in-Ok-clause-struck
returns-in-Ok-clause-struck g c =
    let d1 = c.invalidate.new.disk in
    let result : Result (Bool) MemberFault = Ok c.in-Ok.found in
    subst (λ (h : Held g.row.D.Denot). IsTrue (g.D.Disk.is_honest h.disk) → EachStands h.kept (g.D.Disk.state h.disk).files → (i : ℕ) (e : RecEntry) → IsLatest h.kept.services h.kept.entries i e → IsStruck g.D.Disk.state g.D.Disk.moment g.D.Disk.left_since h.kept (with_struck h.kept i e) h.disk d1 result) c.self.view_is
    (λ honest all i e latest. c.in-Ok.ensures.struck honest all i e latest)

pub returns-in-Err-clause-struck : goal.returns-in-Err-clause-struck
returns-in-Err-clause-struck g c =
    let d1 = c.invalidate.new.disk in
    let result : Result (Bool) MemberFault = Err c.in-Err.fault in
    subst (λ (h : Held g.row.D.Denot). IsTrue (g.D.Disk.is_honest h.disk) → EachStands h.kept (g.D.Disk.state h.disk).files → (i : ℕ) (e : RecEntry) → IsLatest h.kept.services h.kept.entries i e → IsStruck g.D.Disk.state g.D.Disk.moment g.D.Disk.left_since h.kept (with_struck h.kept i e) h.disk d1 result) c.self.view_is
    (λ honest all i e latest. c.in-Err.ensures.struck honest all i e latest)

pub returns-in-Ok-clause-cut_well : goal.returns-in-Ok-clause-cut_well
returns-in-Ok-clause-cut_well g c =
    let d1 = c.invalidate.new.disk in
    let result : Result (Bool) MemberFault = Ok c.in-Ok.found in
    subst (λ (h : Held g.row.D.Denot). IsTrue (g.D.Disk.is_honest h.disk) → EachStands h.kept (g.D.Disk.state h.disk).files → HaveTerms h.kept.entries (new_terms 0 h.kept.log) → (i : ℕ) (e : RecEntry) → IsLatest h.kept.services h.kept.entries i e → IsCutWell g.D.Disk.state g.D.Disk.moment g.D.Disk.left_since no_file h.kept (with_struck h.kept i e) h.disk d1) c.self.view_is
    (λ honest all terms i e latest. c.invalidate.ensures.cut_well honest all terms i e latest)

pub returns-in-Err-clause-cut_well : goal.returns-in-Err-clause-cut_well
returns-in-Err-clause-cut_well g c =
    let d1 = c.invalidate.new.disk in
    let result : Result (Bool) MemberFault = Err c.in-Err.fault in
    subst (λ (h : Held g.row.D.Denot). IsTrue (g.D.Disk.is_honest h.disk) → EachStands h.kept (g.D.Disk.state h.disk).files → HaveTerms h.kept.entries (new_terms 0 h.kept.log) → (i : ℕ) (e : RecEntry) → IsLatest h.kept.services h.kept.entries i e → IsCutWell g.D.Disk.state g.D.Disk.moment g.D.Disk.left_since no_file h.kept (with_struck h.kept i e) h.disk d1) c.self.view_is
    (λ honest all terms i e latest. c.invalidate.ensures.cut_well honest all terms i e latest)
