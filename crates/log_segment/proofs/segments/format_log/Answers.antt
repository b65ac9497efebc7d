-- The front of the empty log is on the disk.
use Rattle.std.proofs.Common.{◌∙◌, sym, ap}
use Rattle.cl_base.specs.Disk.{FileState, settled_file}
use Rattle.log_segment.proofs.segments.format_log.Goals as goal

pub returns-in-Ok-clause-settled : goal.returns-in-Ok-clause-settled
returns-in-Ok-clause-settled g c told =
    let changed = (c.in-Ok.ensures.done told).changed in
    changed ∙ ap settled_file (sym (ap (λ (s : FileState). s.reads) changed))
