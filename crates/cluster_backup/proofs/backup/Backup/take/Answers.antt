use Rattle.std.proofs.Common.{◌≡◌, None}
use Rattle.cluster_backup.specs.Spelling.{packet_of}
use Rattle.cluster_backup.specs.Laws.{fault_none}
use Rattle.cluster_backup.specs.declared.packet.BackupPacket.TheVariants.{Snapshot}
use Rattle.cluster_backup.proofs.Copies.{result_took}
use Rattle.cluster_backup.proofs.backup.Backup.take.Goals as goal

pub returns-in-Ok-clause-stored : goal.returns-in-Ok-clause-stored
returns-in-Ok-clause-stored g c tells r t p s v ps is none put =
    let found = c.in-Ok.ensures.found in
    let same : c.in-Ok.packet ≡ Snapshot r t p s v ps = cc (is, found) in
    c.take_packet.ensures.stored tells r t p s v ps same none put

pub returns-in-Ok-clause-took : goal.returns-in-Ok-clause-took
returns-in-Ok-clause-took g c = result_took c.args.bytes.now c.args.self.now.kept c.take_packet.new.self.kept c.in-Ok.packet c.take_packet.result c.in-Ok.ensures.found c.take_packet.ensures.brings c.take_packet.ensures.err

pub returns-in-Err-Bad-clause-packet : goal.returns-in-Err-Bad-clause-packet
returns-in-Err-Bad-clause-packet g c p is =
    let none : packet_of c.args.bytes.now ≡ None = fault_none c.args.bytes.now c.in-Err-Bad.bad (c.in-Err-Bad.ensures.bad c.in-Err-Bad.bad (cc)) in
    absurd (cc (is, none))
