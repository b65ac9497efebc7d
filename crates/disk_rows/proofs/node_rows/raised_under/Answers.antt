-- A fuse leaves the files as they are.
use Rattle.std.proofs.Common.{sym, subst}
use Rattle.cl_base.specs.Disk.{DiskState}
use Rattle.node_state.specs.Node.{Tells}
use Rattle.disk_rows.proofs.node_rows.raised_under.Goals as goal

pub raise-answer-requires-clause-mounted : goal.raise-answer-requires-clause-mounted
raise-answer-requires-clause-mounted c told = subst (λ (s : DiskState). Tells c.in-Ok.node (s.files 0).reads) (sym (c.fuse.ensures.told told)) (c.in-Ok.ensures.mounted told)
