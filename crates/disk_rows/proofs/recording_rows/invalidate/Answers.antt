-- A mount and a fuse leave the files as they are.
use Rattle.std.proofs.Common.{sym, subst}
use Rattle.cl_base.specs.Disk.{FileState, DiskState}
use Rattle.recording_log.specs.Entries.{Holds}
use Rattle.disk_rows.proofs.recording_rows.invalidate.Goals as goal

pub invalidate_latest-answer-requires : goal.invalidate_latest-answer-requires
invalidate_latest-answer-requires c told =
    subst (λ (s : DiskState). Holds c.in-Ok.log (s.files 1).reads) (sym (c.fuse.ensures.told told))
    (subst (λ (f : FileState). Holds c.in-Ok.log f.reads) (sym ((c.in-Ok.ensures.looks told).files 1)) (c.in-Ok.ensures.gives told))
