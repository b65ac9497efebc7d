use Rattle.std.proofs.Common.{arith, ap, ◌∙◌, w32}
use Rattle.std.proofs.lemmas.Int.{to_z-of_z}
use Rattle.cluster_client.specs.Seen.{new_client}
use Rattle.cluster_client.specs.Runs.{all_got}
use Rattle.cluster_client.proofs.Handing.{new_gets}
use Rattle.cluster_client.proofs.Listed.{one_more, run_ends}
use Rattle.cluster_client.proofs.runs.run_calls.Goals as goal

pub loop-call-preserved : goal.loop-call-preserved
loop-call-preserved c = λ events all.
    one_more c.args.calls.now events c.loop-call.call-index c.call-item.result c.loop-call.got c.keep.new.all c.in_ok-one.one c.loop-call.client c.make.new.client _
    all (omega arith) c.call-item.is c.in_ok-one.ensures c.in_ok-keep.ensures (c.loop-call.invariant events all)

pub returns : goal.returns
returns c = λ events all.
    run_ends c.args.calls.now events c.loop-call.call-index c.loop-call.got c.loop-call.client _ all (omega arith) (omega arith) (c.loop-call.invariant events all)
    ∙ (ap (λ s. all_got (new_client s c.args.members) events) (to_z-of_z w32 c.args.stream c.ranges.stream) ∙ new_gets c.args.stream c.args.members events)
