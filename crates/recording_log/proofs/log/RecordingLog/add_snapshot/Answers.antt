-- The entry is that of the contract.
use Rattle.std.proofs.Common.{◌≡◌, ◌++◌, [], ◌∷◌, subst, rules}
use Rattle.cl_base.specs.Fuse.{FuseEnds}
use Rattle.cl_base.specs.declared.fault.MemberFault.TheVariants.{Device}
use Rattle.recording_log.specs.declared.entry.RecEntry.{RecEntry}
use Rattle.recording_log.specs.Valid.{snapshot_entry}
use Rattle.recording_log.specs.Steps.{AddLeft}
use Rattle.recording_log.proofs.log.RecordingLog.add_snapshot.Goals as goal

pub returns-clause-fuse : goal.returns-clause-fuse
returns-clause-fuse g c honest every =
    let is : c.of_snapshot-entry.result ≡ snapshot_entry c.args.recording c.args.term c.args.base c.args.position c.args.stamp c.args.service = search rules in
    subst (λ (e : RecEntry). FuseEnds 5 Device (AddLeft c.args.self.now (c.args.self.now ++ e ∷ [])) (g.D.Disk.state c.args.disk.now) (g.D.Disk.state c.add.new.disk) c.add.result) is (c.add.ensures.fuse honest every)
