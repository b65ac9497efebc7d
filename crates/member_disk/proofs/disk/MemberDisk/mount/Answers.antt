use Rattle.member_disk.proofs.Looking.{looks_ok, looks_err}
use Rattle.member_disk.proofs.disk.MemberDisk.mount.Goals as goal

pub returns-in-Ok-clause-looks : goal.returns-in-Ok-clause-looks
returns-in-Ok-clause-looks g c told two = looks_ok _ (Unit {0}) (g.D.Disk.state c.args.disk) (g.D.Disk.state c.mount_files.new.disk) c.in-Ok.durable tt (c.in-Ok.ensures.looks told two)

pub returns-in-Err-clause-looks : goal.returns-in-Err-clause-looks
returns-in-Err-clause-looks g c told two = looks_err _ (Unit {0}) (g.D.Disk.state c.args.disk) (g.D.Disk.state c.mount_files.new.disk) c.in-Err.fault (c.in-Err.ensures.looks told two)
