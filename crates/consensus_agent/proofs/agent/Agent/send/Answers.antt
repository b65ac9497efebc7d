use Rattle.std.proofs.Common.{ap, ◌∙◌}
use Rattle.consensus_agent.proofs.Spoken.{is_spoken, lies_within, shape_in}
use Rattle.consensus_agent.proofs.agent.Agent.send.Goals as goal

pub read_ranges-requires-clause-within : goal.read_ranges-requires-clause-within
read_ranges-requires-clause-within g c =
    lies_within c.args.self.now.core c.index.result.now c.args.self.now.disk.kept.log c.in_ok-ranges.ranges c.as_slice.result.now c.as_slice.ensures c.in_ok-ranges.ensures c.index.ensures.index

pub returns-clause-sent : goal.returns-clause-sent
returns-clause-sent g c =
    is_spoken (g.D.Disk.tells c.args.self.now.disk.disk) c.args.self.now.core c.args.self.now.disk.kept.log c.index.result.now c.index-2.result.now c.in_ok-ranges.ranges c.as_slice.result.now c.in_ok-batches.batches c.as_slice-3.result.now c.in_ok-packets.packets c.as_slice.ensures
    c.in_ok-ranges.ensures
    c.index.ensures.index
    (c.index-2.ensures.index ∙ ap shape_in c.read_ranges.ensures.looked.kept)
    c.as_slice-3.ensures
    c.in_ok-batches.ensures.read
    c.in_ok-batches.ensures.exact
    c.in_ok-packets.ensures.packets
