use Rattle.std.proofs.Common.{rules}
use Rattle.service_phases.proofs.Stretches.{takes_one}
use Rattle.service_phases.proofs.feeding.feed_one.Goals as goal

pub loop-index-preserved : goal.loop-index-preserved
loop-index-preserved g c =
    takes_one c.args.first c.args.entries.now c.args.feed.now c.loop-index.feed c.push.new.self c.in_ok-entry.entry c.loop-index.index
    c.requires.place c.loop-index.invariant.0 c.loop-index.invariant.1 (search rules) (search rules) (search rules)
