use Rattle.std.proofs.Common.{ℤ, pos, ◌^◌, ◌≤ℤ◌, rules, subst}
use Rattle.std.specs.Int.{w32}
use Rattle.std.proofs.lemmas.Int.{to_z-of_z}
use Rattle.member_disk.specs.Kept.{Kept}
use Rattle.member_disk.specs.Changes.{IsLatestPart}
use Rattle.recording_log.specs.Ranges.{snapshot_position}
use Rattle.member_disk.specs.declared.durable.SetEntry.{SetEntry}
use Rattle.member_disk.proofs.Looking.{looks_ok, looks_err, below}
use Rattle.member_disk.proofs.Standing.{after_look}
use Rattle.member_disk.proofs.durable.Durable.set_entry.Goals as goal

pub returns-in-Ok-clause-looks : goal.returns-in-Ok-clause-looks
returns-in-Ok-clause-looks g c told = looks_ok _ SetEntry (g.D.Disk.state c.args.disk.now) (g.D.Disk.state c.read.new.disk) c.in-Ok.pieces _ (c.in-Ok.ensures.looks told)

pub returns-in-Ok-clause-stands : goal.returns-in-Ok-clause-stands
returns-in-Ok-clause-stands g c told = after_look c.args.self.now (g.D.Disk.state c.args.disk.now).files (g.D.Disk.state c.read.new.disk).files (c.requires.stands told) (c.read.ensures.looks told).files

pub returns-in-Ok-clause-placed : goal.returns-in-Ok-clause-placed
returns-in-Ok-clause-placed g c = below c.as_snapshot-part.result.position (subst (λ q. q ≤ℤ pos (2 ^ 62)) c.as_snapshot-part.ensures.position (snapshot_position c.latest_part-entry.result c.latest_part-entry.ensures.part.part.0))

pub returns-in-Err-clause-looks : goal.returns-in-Err-clause-looks
returns-in-Err-clause-looks g c told = looks_err _ SetEntry (g.D.Disk.state c.args.disk.now) (g.D.Disk.state c.read.new.disk) c.in-Err.fault (c.in-Err.ensures.looks told)

pub returns-in-Err-clause-stands : goal.returns-in-Err-clause-stands
returns-in-Err-clause-stands g c told = after_look c.args.self.now (g.D.Disk.state c.args.disk.now).files (g.D.Disk.state c.read.new.disk).files (c.requires.stands told) (c.read.ensures.looks told).files

pub returns-in-Ok-clause-latest : goal.returns-in-Ok-clause-latest
returns-in-Ok-clause-latest g c =
    let inside = subst (λ (s : ℤ). IsLatestPart c.self.inside.services c.self.inside.recording s c.latest_part-entry.result) (to_z-of_z w32 c.args.service c.ranges.service) c.latest_part-entry.ensures in
    record {
      entry = c.latest_part-entry.result;
      latest = subst (λ (k : Kept). IsLatestPart k.services k.entries c.args.service c.latest_part-entry.result) c.self.view_is inside;
      recording = c.as_snapshot-part.ensures.recording;
      term = search rules;
      position = c.as_snapshot-part.ensures.position;
      stamp = search rules;
    }
