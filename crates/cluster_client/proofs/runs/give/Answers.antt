use Rattle.cluster_client.proofs.Listed.{gives}
use Rattle.cluster_client.proofs.runs.give.Goals as goal

pub returns : goal.returns
returns c =
    gives c.args.bytes.now c.as_slice.result.now c.args.now c.args.client.now c.on_egress.new.self c.on_egress.result c.got_of.result
    c.as_slice.ensures c.on_egress.ensures.heard c.on_egress.ensures.bad c.on_egress.ensures.err c.got_of.ensures.got c.got_of.ensures.memory
