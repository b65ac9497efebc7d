use Rattle.std.proofs.Common.{◌≡◌, sym, ◌∙◌, subst}
use Rattle.log_segment.specs.Held.{IsHeld}
use Rattle.cluster_backup.proofs.Cutting.{durable_means}
use Rattle.cluster_backup.proofs.backup.Backup.mount.Goals as goal

pub returns-in-Ok-clause-finds : goal.returns-in-Ok-clause-finds
returns-in-Ok-clause-finds g c = λ tells kept durable held services.
    durable_means kept _ (λ f. ((g.D.Disk.state c.args.disk).files f).reads) durable
    (λ other means log same. c.in-Ok.ensures.once tells other means (subst IsHeld (sym log) held) (same ∙ services))
