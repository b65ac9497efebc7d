use Rattle.std.proofs.Common.{◌≡◌, sym, ◌∙◌, subst}
use Rattle.cluster_backup.proofs.Bringing.{IsNamed, named, log_parts, snapshot_head, Stored, stored_named}
use Rattle.cluster_backup.proofs.backup.Backup.take_packet.Goals as goal

pub take_entries-requires-clause-events : goal.take_entries-requires-clause-events
take_entries-requires-clause-events g c = rw c.as_slice.ensures (log_parts c.args.packet.now _ _ c.in-Log.is c.requires.spelled)

pub take_snapshot-requires-clause-head : goal.take_snapshot-requires-clause-head
take_snapshot-requires-clause-head g c =
    let h = c.in-Some.ensures.some in
    let n = named c.args.packet.now c.in-Snapshot.recording c.in-Snapshot.term c.in-Snapshot.position c.in-Snapshot.stamp c.in-Snapshot.service c.in-Snapshot.pieces c.in-Snapshot.is c.requires.spelled c.in-Some.head h.0 h.1 h.2 in
    snapshot_head c.args.packet.now c.in-Snapshot.recording c.in-Snapshot.term c.in-Snapshot.position c.in-Snapshot.stamp c.in-Snapshot.service c.in-Snapshot.pieces c.in-Snapshot.is c.requires.spelled c.in-Some.head n

pub returns-in-Some-clause-stored : goal.returns-in-Some-clause-stored
returns-in-Some-clause-stored g c tells r t p s v ps is none put =
    let h = c.in-Some.ensures.some in
    let n = named c.args.packet.now c.in-Snapshot.recording c.in-Snapshot.term c.in-Snapshot.position c.in-Snapshot.stamp c.in-Snapshot.service c.in-Snapshot.pieces c.in-Snapshot.is c.requires.spelled c.in-Some.head h.0 h.1 h.2 in
    subst (Stored c.args.self.now.kept (g.D.Disk.state c.take_snapshot.new.self.disk).files) (sym c.in-Snapshot.is ∙ is)
    (stored_named c.args.self.now.kept (g.D.Disk.state c.take_snapshot.new.self.disk).files c.in-Snapshot.recording c.in-Snapshot.term c.in-Snapshot.position c.in-Snapshot.stamp c.in-Snapshot.service c.in-Snapshot.pieces _ c.in-Some.head n
    (λ absent. c.take_snapshot.ensures.stored tells absent put) (cc)) none
