use Rattle.std.proofs.Common.{◌≡◌, ◌<◌, ◌^◌, List, pos, to_z, w32, subst, ap, ◌∙◌, arith}
use Rattle.std.proofs.lemmas.Int.{to_z_pos}
use Rattle.std.specs.Prelude.{OnOk}
use Rattle.consensus_agent.specs.Written.{AreWritten, Snapshot, head_at}
use Rattle.consensus_agent.proofs.Writing.{snapshot_is}
use Rattle.consensus_agent.proofs.snapshots.put_service.Goals as goal

pub returns-clause-written : goal.returns-clause-written
returns-clause-written g c =
    let few : c.service-service.result < 2 ^ 31 = omega arith in
    let number : to_z w32 c.service-service.result ≡ pos c.service-service.result = to_z_pos w32 c.service-service.result few in
    subst (λ (ss : List Snapshot). OnOk c.put.result (AreWritten g.D.Disk.state g.D.Disk.tells g.D.Disk.is_honest ss c.args.disk.now c.put.new.disk))
    (snapshot_is c.args.action.now c.service-service.result c.args.container.now.service _ c.in-Some.records.now c.in_ok-head.head c.origin_of.result _ c.service-service.ensures c.in-Some.ensures (c.in_ok-head.ensures.exact ∙ ap (head_at c.args.action.now) number) c.origin_of.ensures (c.as_slice.ensures ∙ c.in_ok-pieces.ensures))
    c.put.ensures.written
