use Rattle.std.proofs.Common.{map, string_bytes}
use Rattle.plan.specs.Words.{plan_of}
use Rattle.cluster_run.proofs.Answering as answering
use Rattle.cluster_run.proofs.top.cluster_main.Goals as goal

pub returns : goal.returns
returns g c =
    let tells = g.D.Disk.tells in
    let state = g.D.Disk.state in
    let faults = g.D.Disk.fault_count in
    let old = c.args.disks.now.items in
    let new = c.answer.new.disks.items in
    let told = g.I.Source.tells c.args.source.now in
    let had = g.I.Source.left c.args.source.now in
    let before = g.I.Source.fault_count c.args.source.now in
    let after = g.I.Source.fault_count c.answer.new.source in
    let asked = plan_of (map string_bytes c.args.words.now) in
    let ends = c.answer.ensures.ends in
    record {
      usage = answering.usage tells state faults old new told had before after asked c.answer.result ends;
      usage_exactly = answering.usage_exactly tells state faults old new told had before after asked c.answer.result ends;
      ends = answering.run_ends tells state faults old new told had before after asked c.answer.result ends;
      read_fault = answering.read_fault tells state faults old new told had before after asked c.answer.result ends;
      write_fault = c.answer.ensures.leaves.fault;
      too_long = λ t is. answering.too_long tells state faults old new told had before after asked c.answer.result ends is t;
      refused = answering.refused tells state faults old new told had before after asked c.answer.result ends;
      few_disks = answering.few_disks tells state faults old new told had before after asked c.answer.result ends;
      used = answering.used tells state faults old new told had before after asked c.answer.result ends;
      disk_fault = answering.disk_fault tells state faults old new told had before after asked c.answer.result ends;
      echoed = c.answer.ensures.echoed;
      headline = λ t p d f. c.headline.ensures _;
      refusal = c.answer.ensures.leaves.refusal;
      more = c.answer.ensures.leaves.more;
      source_later = c.answer.ensures.later;
      sink_later = c.answer.ensures.leaves.later;
      source_tells = c.answer.ensures.tells;
      sink_tells = c.answer.ensures.leaves.same;
    }
