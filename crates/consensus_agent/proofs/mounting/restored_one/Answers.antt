use Rattle.std.proofs.Common.{◌≡◌, ◌∙◌, ℕ, ◌<◌, ◌^◌, pos, ℤ, Option, ap, subst, to_z, w32, arith}
use Rattle.std.specs.Prelude.{IfOk, unwrap_or}
use Rattle.std.proofs.lemmas.Int.{to_z_pos}
use Rattle.member_disk.specs.Latest.{IsLatestEntry}
use Rattle.consensus_agent.specs.Restored.{GoesOn}
use Rattle.consensus_agent.proofs.Pieces.{origin_of}
use Rattle.consensus_agent.proofs.Restoring.{one_goes_on}
use Rattle.consensus_agent.proofs.mounting.restored_one.Goals as goal

pub returns-clause-on : goal.returns-clause-on
returns-clause-on g c told =
    let kept = c.args.disk.now.kept in
    let low = c.requires.low in
    let few : c.args.service < 2 ^ 31 = omega (arith, low) in
    let number : to_z w32 c.args.service ≡ pos c.args.service = to_z_pos w32 c.args.service few in
    subst (λ (e : Option ℕ). IfOk c.restore_service.result (GoesOn kept (g.D.Disk.state c.args.disk.now.disk).files (unwrap_or e 0) c.args.kind c.args.service)) c.source_of-source.ensures.entries
    (one_goes_on kept (g.D.Disk.state c.args.disk.now.disk).files (unwrap_or c.source_of-source.result.entries 0) c.args.kind c.args.service c.in_ok-set.set c.as_slice.result.now c.source_of-source.result.origin c.restore_service.result
    (subst (λ (z : ℤ). IsLatestEntry kept.services kept.entries z c.in_ok-set.set) number c.in_ok-set.ensures.latest)
    c.in_ok-set.ensures.strict (c.in_ok-set.ensures.pieces told) c.as_slice.ensures (c.source_of-source.ensures.origin ∙ ap (λ (z : ℤ). origin_of z c.in_ok-set.set) number) c.restore_service.ensures.begun c.restore_service.ensures.restored c.restore_service.ensures.same)
