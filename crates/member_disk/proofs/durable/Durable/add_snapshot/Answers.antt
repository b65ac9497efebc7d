use Rattle.std.proofs.Common.{◌≡◌, List, [], ◌∷◌, ◌++◌, Result, Ok, Err, rules, sym, ◌∙◌, ap, subst, arith}
use Rattle.std.specs.Int.{w32, w64, cast_signed, cast_unsigned}
use Rattle.cl_base.specs.Every.{takes}
use Rattle.cl_base.specs.declared.fault.MemberFault.{MemberFault}
use Rattle.cl_base.specs.declared.fault.MemberFault.TheVariants.{NoMemory}
use Rattle.recording_log.specs.Valid.{snapshot_entry}
use Rattle.recording_log.specs.Steps.{is_open}
use Rattle.member_disk.specs.Changes.{entry_for}
use Rattle.member_disk.specs.Parts.{IsMade, entry_part}
use Rattle.member_disk.proofs.Files.{addition_made, none_made}
use Rattle.recording_log.specs.declared.entry.RecEntry.{RecEntry}
use Rattle.recording_log.specs.Entries.{Holds}
use Rattle.member_disk.specs.Kept.{Kept, ReadsAs, EachStands}
use Rattle.member_disk.proofs.Standing.{after_entries}
use Rattle.cl_base.specs.Runs.{DiskLaws}
use Rattle.member_disk.specs.CutWell.{no_file}
use Rattle.member_disk.proofs.Compose.{every_of}
use Rattle.member_disk.proofs.Sparing.{spares_none, spares_file, front_file}
use Rattle.member_disk.proofs.durable.Durable.add_snapshot.Given as given
use Rattle.member_disk.proofs.durable.Durable.add_snapshot.Goals as goal

abbrev laws_of : (g : given.Over) → DiskLaws g.row.D.Denot
laws_of g = record {
  state = g.D.Disk.state;
  is_honest = g.D.Disk.is_honest;
  tells = g.D.Disk.tells;
  moment = g.D.Disk.moment;
  left_since = g.D.Disk.left_since;
  reads = g.met.D.Disk.reads_is_image;
  synced = g.met.D.Disk.synced_is_image;
  honest_tells = g.met.D.Disk.honest_tells;
  only_now = g.met.D.Disk.only_now;
}

pub returns-in-Ok-clause-stands : goal.returns-in-Ok-clause-stands
returns-in-Ok-clause-stands g c told =
    let mine : Kept = record { node = c.self.inside.node; entries = c.self.inside.recording; log = c.self.inside.log; services = c.self.inside.services } in
    let f0 = (g.D.Disk.state c.args.disk.now).files in
    let f1 = (g.D.Disk.state c.add_snapshot.new.disk).files in
    let reads = subst (λ (k : Kept). ReadsAs k f0) (sym c.self.view_is) (c.requires.stands told) in
    let now = subst (λ (es : List RecEntry). Holds es (f1 1).reads) (sym c.in-Ok.ensures.ok) (c.in-Ok.ensures.mounted told) in
    after_entries mine f0 f1 reads c.add_snapshot.new.self (c.add_snapshot.ensures.others told) now

pub returns-in-Ok-clause-made : goal.returns-in-Ok-clause-made
returns-in-Ok-clause-made g c honest all =
    let mine : Kept = record { node = c.self.inside.node; entries = c.self.inside.recording; log = c.self.inside.log; services = c.self.inside.services } in
    let d0 = c.args.disk.now in
    let d1 = c.add_snapshot.new.disk in
    let result : Result (Unit {0}) MemberFault = Ok tt in
    let here = subst (λ (k : Kept). EachStands k (g.D.Disk.state d0).files) (sym c.self.view_is) all in
    let head = c.args.head in
    let entry : RecEntry = snapshot_entry head.recording (cast_signed w64 (cast_unsigned w64 head.term)) c.base_of-base.result head.position (cast_signed w64 (cast_unsigned w64 head.stamp)) (cast_signed w32 (cast_unsigned w32 head.service)) in
    let same : snapshot_entry c.args.head.recording (cast_signed w64 (cast_unsigned w64 c.args.head.term)) c.base_of-base.result c.args.head.position (cast_signed w64 (cast_unsigned w64 c.args.head.stamp)) (cast_signed w32 (cast_unsigned w32 c.args.head.service)) ≡ entry_for c.args.self.now c.args.head = search rules in
    let there : entry_for c.args.self.now head ≡ entry_for mine head = ap (λ (k : Kept). entry_for k head) (sym c.self.view_is) in
    subst (λ (k : Kept). IsMade g.D.Disk.state g.D.Disk.moment g.D.Disk.left_since (entry_part k head ∷ []) k d0 d1 result) c.self.view_is
    (subst (λ (e : RecEntry). IsMade g.D.Disk.state g.D.Disk.moment g.D.Disk.left_since (record { calls = 5; last = takes is_open; makes = record mine { entries = mine.entries ++ e ∷ [] } } ∷ []) mine d0 d1 result) (same ∙ there)
    (addition_made (laws_of g) (Unit {0}) mine d0 d1 result honest here entry (c.add_snapshot.ensures.others (g.met.D.Disk.honest_tells d0 honest)) (c.in-Ok.ensures.done honest) (c.add_snapshot.ensures.each honest) (c.add_snapshot.ensures.cut_well honest) (c.in-Ok.ensures.fuse honest)))

pub returns-in-Err-clause-made : goal.returns-in-Err-clause-made
returns-in-Err-clause-made g c honest all =
    let mine : Kept = record { node = c.self.inside.node; entries = c.self.inside.recording; log = c.self.inside.log; services = c.self.inside.services } in
    let d0 = c.args.disk.now in
    let d1 = c.add_snapshot.new.disk in
    let result : Result (Unit {0}) MemberFault = Err c.in-Err.fault in
    let here = subst (λ (k : Kept). EachStands k (g.D.Disk.state d0).files) (sym c.self.view_is) all in
    let head = c.args.head in
    let entry : RecEntry = snapshot_entry head.recording (cast_signed w64 (cast_unsigned w64 head.term)) c.base_of-base.result head.position (cast_signed w64 (cast_unsigned w64 head.stamp)) (cast_signed w32 (cast_unsigned w32 head.service)) in
    let same : snapshot_entry c.args.head.recording (cast_signed w64 (cast_unsigned w64 c.args.head.term)) c.base_of-base.result c.args.head.position (cast_signed w64 (cast_unsigned w64 c.args.head.stamp)) (cast_signed w32 (cast_unsigned w32 c.args.head.service)) ≡ entry_for c.args.self.now c.args.head = search rules in
    let there : entry_for c.args.self.now head ≡ entry_for mine head = ap (λ (k : Kept). entry_for k head) (sym c.self.view_is) in
    subst (λ (k : Kept). IsMade g.D.Disk.state g.D.Disk.moment g.D.Disk.left_since (entry_part k head ∷ []) k d0 d1 result) c.self.view_is
    (subst (λ (e : RecEntry). IsMade g.D.Disk.state g.D.Disk.moment g.D.Disk.left_since (record { calls = 5; last = takes is_open; makes = record mine { entries = mine.entries ++ e ∷ [] } } ∷ []) mine d0 d1 result) (same ∙ there)
    (addition_made (laws_of g) (Unit {0}) mine d0 d1 result honest here entry (c.add_snapshot.ensures.others (g.met.D.Disk.honest_tells d0 honest)) (λ every. tt) (c.add_snapshot.ensures.each honest) (c.add_snapshot.ensures.cut_well honest) (c.in-Err.ensures.fuse honest)))

pub returns-then-is_err-clause-made : goal.returns-then-is_err-clause-made
returns-then-is_err-clause-made g c honest all =
    let d0 = c.args.disk.now in
    none_made (laws_of g) (Unit {0}) (entry_part c.args.self.now c.args.head) c.args.self.now d0 NoMemory honest all (λ is. absurd (cc))

pub returns-in-Ok-clause-spares : goal.returns-in-Ok-clause-spares
returns-in-Ok-clause-spares g c honest all =
    let mine : Kept = record { node = c.self.inside.node; entries = c.self.inside.recording; log = c.self.inside.log; services = c.self.inside.services } in
    let d0 = c.args.disk.now in
    let here = subst (λ (k : Kept). EachStands k (g.D.Disk.state d0).files) (sym c.self.view_is) all in
    let there = every_of (laws_of g) 1 (Holds mine.entries) mine d0 honest here (λ x is. is.entries) in
    spares_file (laws_of g) no_file 1 _ d0 c.add_snapshot.new.disk (front_file no_file 1 (omega arith)) (c.add_snapshot.ensures.others (g.met.D.Disk.honest_tells d0 honest)) (c.add_snapshot.ensures.cut_well honest there)

pub returns-in-Err-clause-spares : goal.returns-in-Err-clause-spares
returns-in-Err-clause-spares g c honest all =
    let mine : Kept = record { node = c.self.inside.node; entries = c.self.inside.recording; log = c.self.inside.log; services = c.self.inside.services } in
    let d0 = c.args.disk.now in
    let here = subst (λ (k : Kept). EachStands k (g.D.Disk.state d0).files) (sym c.self.view_is) all in
    let there = every_of (laws_of g) 1 (Holds mine.entries) mine d0 honest here (λ x is. is.entries) in
    spares_file (laws_of g) no_file 1 _ d0 c.add_snapshot.new.disk (front_file no_file 1 (omega arith)) (c.add_snapshot.ensures.others (g.met.D.Disk.honest_tells d0 honest)) (c.add_snapshot.ensures.cut_well honest there)

pub returns-then-is_err-clause-spares : goal.returns-then-is_err-clause-spares
returns-then-is_err-clause-spares g c honest all = spares_none (laws_of g) no_file c.args.disk.now honest
