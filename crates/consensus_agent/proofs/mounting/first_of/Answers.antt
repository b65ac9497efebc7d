use Rattle.std.proofs.Common.{subst}
use Rattle.entry_log.specs.Shape.{shape_of}
use Rattle.member_disk.specs.Kept.{Kept}
use Rattle.recording_log.specs.Sets.{HasNoSet}
use Rattle.consensus_agent.specs.Copies.{IsNewest}
use Rattle.consensus_agent.proofs.Restoring.{first_from}
use Rattle.consensus_agent.proofs.Starting.{newest_base, none_newest}
use Rattle.consensus_agent.proofs.mounting.first_of.Goals as goal

pub returns-in-Some-clause-first : goal.returns-in-Some-clause-first
returns-in-Some-clause-first g c none =
    let kept = c.args.disk.now.kept in
    absurd (none_newest kept.services kept.entries c.in-Some.latest none (subst (λ (k : Kept). IsNewest k.services k.entries c.in-Some.latest) c.durable.ensures c.in-Some.ensures))

pub returns-in-Some-clause-base : goal.returns-in-Some-clause-base
returns-in-Some-clause-base g c set is =
    let kept = c.args.disk.now.kept in
    newest_base kept.services kept.entries c.in-Some.latest set (shape_of kept.log) c.restored.result (subst (λ (k : Kept). IsNewest k.services k.entries c.in-Some.latest) c.durable.ensures c.in-Some.ensures) is c.restored.ensures.base

pub returns-in-Ok-clause-base : goal.returns-in-Ok-clause-base
returns-in-Ok-clause-base g c set is =
    let kept = c.args.disk.now.kept in
    absurd (none_newest kept.services kept.entries set (subst (λ (k : Kept). HasNoSet k.services k.entries) c.durable.ensures c.in-None.ensures) is)

pub returns-in-Ok-clause-on : goal.returns-in-Ok-clause-on
returns-in-Ok-clause-on g c told =
    let kept = c.args.disk.now.kept in
    first_from kept (g.D.Disk.state c.args.disk.now.disk).files c.args.kinds.now c.in-Ok.start (subst (λ (k : Kept). HasNoSet k.services k.entries) c.durable.ensures c.in-None.ensures) c.in-Ok.ensures.first
