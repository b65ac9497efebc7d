use Rattle.std.proofs.Common.{subst}
use Rattle.consensus_core.specs.Whole.{all_sent}
use Rattle.consensus_agent.specs.Reads.{AreRead}
use Rattle.consensus_agent.proofs.Wanted.{read_wanted}
use Rattle.consensus_agent.proofs.rows.speak.Goals as goal

pub on_durable-requires-clause-batches : goal.on_durable-requires-clause-batches
on_durable-requires-clause-batches c =
    read_wanted (all_sent c.args.core.now c.args.index.now) c.args.batches.now (subst (λ r. AreRead r c.args.batches.now) c.requires.ranges c.requires.read)
