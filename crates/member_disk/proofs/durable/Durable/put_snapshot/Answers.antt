-- A snapshot is put by one part: the file's calls leave standing what is kept.
use Rattle.std.proofs.Common.{◌+◌, ◌≤◌, inl, inr, [], ◌∷◌, Result, Ok, Err, IsTrue, refl, sym, ◌∙◌, subst, arith}
use Rattle.std.specs.Prelude.{OnErr}
use Rattle.cl_base.specs.Runs.{DiskLaws}
use Rattle.recording_log.specs.declared.entry.RecEntry.{RecEntry}
use Rattle.recording_log.specs.Listed.{IsThere}
use Rattle.member_disk.specs.Kept.{Kept}
use Rattle.member_disk.specs.Parts.{entry_part}
use Rattle.member_disk.proofs.Files.{stays_all, stays_run, stays_fuse}
use Rattle.member_disk.proofs.Preludes.{prelude_done, prelude_ended}
use Rattle.log_segment.specs.Held.{new_terms}
use Rattle.member_disk.specs.Changes.{entry_for}
use Rattle.member_disk.specs.Parts.{put_part}
use Rattle.member_disk.specs.CutWell.{file_of}
use Rattle.member_disk.proofs.Sparing.{spares_none, spares_file, spares_after, spares_more}
use Rattle.member_disk.proofs.CutWells.{part_cut_well, terms_front}
use Rattle.member_disk.proofs.durable.Durable.put_snapshot.Given as given
use Rattle.member_disk.proofs.durable.Durable.put_snapshot.Goals as goal

abbrev laws_of : (g : given.Over) → DiskLaws g.row.D.Denot
laws_of g = record {
  state = g.D.Disk.state;
  is_honest = g.D.Disk.is_honest;
  tells = g.D.Disk.tells;
  moment = g.D.Disk.moment;
  left_since = g.D.Disk.left_since;
  reads = g.met.D.Disk.reads_is_image;
  synced = g.met.D.Disk.synced_is_image;
  honest_tells = g.met.D.Disk.honest_tells;
  only_now = g.met.D.Disk.only_now;
}

pub returns-in-Ok-clause-made : goal.returns-in-Ok-clause-made
returns-in-Ok-clause-made g c honest all none =
    let d0 = c.args.disk.now in
    let d1 = c.write.new.disk in
    let d2 = c.add_snapshot.new.disk in
    let head = c.args.head in
    let kept = c.args.self.now in
    let file = 258 + head.recording in
    let past : 258 ≤ 258 + c.args.head.recording = omega arith in
    let told = g.met.D.Disk.honest_tells d0 honest in
    let others = c.write.ensures.others told in
    let laws = laws_of g in
    let honest1 = subst IsTrue (sym c.write.ensures.honest) honest in
    prelude_done g.D.Disk.state g.D.Disk.moment g.D.Disk.left_since (Unit {0}) (Unit {0}) 3 (entry_part kept head) kept d0 d1 tt d2 c.add_snapshot.result
    (stays_run laws kept d0 d1 file past honest all others (c.write.ensures.any_moment honest))
    (stays_fuse laws kept d0 d1 file past honest all others (Unit {0}) 3 (Ok tt) (c.in-Ok.ensures.fuse told))
    (c.add_snapshot.ensures.made honest1 (stays_all laws kept d0 d1 file past honest all others))

pub returns-in-Err-clause-made : goal.returns-in-Err-clause-made
returns-in-Err-clause-made g c honest all none =
    let d0 = c.args.disk.now in
    let d1 = c.write.new.disk in
    let head = c.args.head in
    let kept = c.args.self.now in
    let file = 258 + head.recording in
    let past : 258 ≤ 258 + c.args.head.recording = omega arith in
    let told = g.met.D.Disk.honest_tells d0 honest in
    let others = c.write.ensures.others told in
    let laws = laws_of g in
    prelude_ended g.D.Disk.state g.D.Disk.moment g.D.Disk.left_since (Unit {0}) (Unit {0}) 3 (entry_part kept head) kept d0 d1 c.in-Err.fault (omega arith)
    (stays_all laws kept d0 d1 file past honest all others)
    (stays_run laws kept d0 d1 file past honest all others (c.write.ensures.any_moment honest))
    (stays_fuse laws kept d0 d1 file past honest all others (Unit {0}) 3 (Err c.in-Err.fault) (c.in-Err.ensures.fuse told))

pub returns-then-has_entry-clause-made : goal.returns-then-has_entry-clause-made
returns-then-has_entry-clause-made g c honest all none =
    let there = c.has_entry.ensures.there c.if-has_entry.true in
    absurd (none (subst (λ (e : RecEntry). IsThere e c.args.self.now.entries) c.entry_for.ensures (subst (λ (k : Kept). IsThere c.entry_for.result k.entries) c.self.view_is there)))

pub returns-in-Ok-clause-spares : goal.returns-in-Ok-clause-spares
returns-in-Ok-clause-spares g c honest all =
    let d0 = c.args.disk.now in
    let d1 = c.write.new.disk in
    let head = c.args.head in
    let file = 258 + head.recording in
    let told = g.met.D.Disk.honest_tells d0 honest in
    let first = spares_file (laws_of g) (file_of head.recording) file (λ _. Unit {0}) d0 d1 (λ x far ne. ne) (c.write.ensures.others told) (c.write.ensures.any_moment honest) in
    let d2 = c.add_snapshot.new.disk in
    let past : 258 ≤ 258 + c.args.head.recording = omega arith in
    let honest1 = subst IsTrue (sym c.write.ensures.honest) honest in
    spares_after (laws_of g) (file_of head.recording) d0 d1 d2 first
    (spares_more (laws_of g) (file_of head.recording) d1 d2 (c.add_snapshot.ensures.spares honest1 (stays_all (laws_of g) c.args.self.now d0 d1 file past honest all (c.write.ensures.others told))))

pub returns-in-Err-clause-spares : goal.returns-in-Err-clause-spares
returns-in-Err-clause-spares g c honest all =
    let d0 = c.args.disk.now in
    let d1 = c.write.new.disk in
    let head = c.args.head in
    let file = 258 + head.recording in
    let told = g.met.D.Disk.honest_tells d0 honest in
    let first = spares_file (laws_of g) (file_of head.recording) file (λ _. Unit {0}) d0 d1 (λ x far ne. ne) (c.write.ensures.others told) (c.write.ensures.any_moment honest) in
    first

pub returns-then-has_entry-clause-spares : goal.returns-then-has_entry-clause-spares
returns-then-has_entry-clause-spares g c honest all = spares_none (laws_of g) (file_of c.args.head.recording) c.args.disk.now honest

pub returns-in-Ok-clause-cut_well : goal.returns-in-Ok-clause-cut_well
returns-in-Ok-clause-cut_well g c honest all terms none =
    let kept = c.args.self.now in
    let head = c.args.head in
    let part = put_part kept head in
    part_cut_well g.D.Disk.state g.D.Disk.moment g.D.Disk.left_since (Unit {0}) (file_of head.recording) kept part.makes c.args.disk.now c.add_snapshot.new.disk (c.add_snapshot.result) part refl terms (terms_front kept.entries (entry_for kept head ∷ []) (new_terms 0 kept.log) terms)
    (returns-in-Ok-clause-made g c honest all none) (returns-in-Ok-clause-spares g c honest all)

pub returns-in-Err-clause-cut_well : goal.returns-in-Err-clause-cut_well
returns-in-Err-clause-cut_well g c honest all terms none =
    let kept = c.args.self.now in
    let head = c.args.head in
    let part = put_part kept head in
    part_cut_well g.D.Disk.state g.D.Disk.moment g.D.Disk.left_since (Unit {0}) (file_of head.recording) kept part.makes c.args.disk.now c.write.new.disk (Err c.in-Err.fault) part refl terms (terms_front kept.entries (entry_for kept head ∷ []) (new_terms 0 kept.log) terms)
    (returns-in-Err-clause-made g c honest all none) (returns-in-Err-clause-spares g c honest all)

pub returns-then-has_entry-clause-cut_well : goal.returns-then-has_entry-clause-cut_well
returns-then-has_entry-clause-cut_well g c honest all terms none =
    let there = c.has_entry.ensures.there c.if-has_entry.true in
    absurd (none (subst (λ (e : RecEntry). IsThere e c.args.self.now.entries) c.entry_for.ensures (subst (λ (k : Kept). IsThere c.entry_for.result k.entries) c.self.view_is there)))

-- ---- where it fails

on_err : {T E : Type 0} (result : Result T E) (P : Type 0) → P → OnErr result P
on_err (Ok x) P is = tt
on_err (Err e) P is = is

pub returns-in-Err-clause-filed : goal.returns-in-Err-clause-filed
returns-in-Err-clause-filed g c honest all none =
    let past : 258 ≤ 258 + c.args.head.recording = omega arith in
    inl (stays_all (laws_of g) c.args.self.now c.args.disk.now c.write.new.disk (258 + c.args.head.recording) past honest all (c.write.ensures.others (g.met.D.Disk.honest_tells c.args.disk.now honest)))

pub returns-in-Ok-clause-filed : goal.returns-in-Ok-clause-filed
returns-in-Ok-clause-filed g c honest all none =
    let told = g.met.D.Disk.honest_tells c.args.disk.now honest in
    let told1 = subst IsTrue (sym c.write.ensures.tells) told in
    on_err c.add_snapshot.result _ (inr (c.add_snapshot.ensures.others told1 (258 + c.args.head.recording) (λ e. absurd (omega (arith, e))) ∙ c.in-Ok.ensures.done told))

pub returns-then-has_entry-clause-filed : goal.returns-then-has_entry-clause-filed
returns-then-has_entry-clause-filed g c honest all none = tt
