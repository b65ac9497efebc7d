use Rattle.std.proofs.Common.{◌≡◌, ◌≤◌, subst}
use Rattle.entry_log.specs.Log.{place}
use Rattle.member_disk.specs.Changes.{IsMemberOf}
use Rattle.cluster_backup.proofs.Bringing.{can_put_where}
use Rattle.cluster_backup.proofs.snapshots.can_put.Goals as goal

pub returns : goal.returns
returns c =
    let member : IsMemberOf c.args.durable.now.services c.args.head.service = subst (λ n. IsMemberOf n c.args.head.service) c.services.ensures (c.is_member.ensures.0 c.if-not-is_member.false) in
    let within : c.args.head.position ≤ place c.args.durable.now.log = (c.is_within.ensures c.args.durable.now.log c.index.ensures.index).0 c.if-not-is_within.false in
    can_put_where c.args.durable.now c.args.head c.is_above.result c.requires member within (c.is_above.ensures c.args.durable.now c.latest_in.ensures.latest)
