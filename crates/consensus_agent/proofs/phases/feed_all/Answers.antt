use Rattle.consensus_agent.proofs.Consuming.{all_from}
use Rattle.consensus_agent.proofs.phases.feed_all.Goals as goal

pub returns-clause-log : goal.returns-clause-log
returns-clause-log g c log begun is was =
    all_from log c.args.commit c.args.first c.args.entries.now begun _ _ _ is c.requires.fed c.feed_each-all.ensures.takes c.publish_each.ensures was
