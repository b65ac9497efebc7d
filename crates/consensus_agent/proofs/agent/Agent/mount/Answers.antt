use Rattle.std.proofs.Common.{◌≡◌, ◌∙◌, List, length, ap, sym, subst, IsTrue, arith}
use Rattle.recording_log.specs.Sets.{HasNoSet}
use Rattle.service_container.specs.Held.{Held as ContainerHeld}
use Rattle.service_phases.specs.Phases.{Lending}
use Rattle.cl_base.specs.Runs.{EachImage}
use Rattle.log_segment.specs.Held.{AreRanged}
use Rattle.member_disk.specs.Kept.{Kept, Means}
use Rattle.node_state.specs.Node.{mount_calls}
use Rattle.consensus_agent.specs.Disks.{HasTerms}
use Rattle.consensus_agent.proofs.Disking.{each_looked}
use Rattle.consensus_agent.specs.Restored.{GoOn}
use Rattle.consensus_agent.proofs.Restoring.{go_there, module_there}
use Rattle.consensus_agent.proofs.Quiets.{ends_quiet, means_at_end, means_looked}
use Rattle.consensus_agent.proofs.Sounding.{mounted_sound}
use Rattle.consensus_agent.proofs.agent.Agent.mount.Goals as goal

pub invariant_of-result : goal.invariant_of-result
invariant_of-result g c = record {
  bounded = (let b = c.in-Ok.ensures.start.bound in omega (arith, b));
  sound = λ _. mounted_sound c.core_of-core.result c.args.id c.args.members c.durable-durable.result.now.node.term c.durable-durable.result.now.node.voted c.in-Ok.start.base c.begin.new.disk.kept c.begin.new.disk.whole c.in-Ok.start.«module»
      c.core_of-core.ensures.core
      (ap (λ (k : Kept). k.node.term) c.durable-durable.ensures)
      (ap (λ (k : Kept). k.node.voted) c.durable-durable.ensures)
      c.requires.members
      c.requires.id
      c.core_of-core.ensures.range
      c.begin.ensures.whole
      c.in-Ok.ensures.within
      (subst AreRanged c.index.ensures.index c.index.ensures.ranged)
      c.in-Ok.ensures.start.consumed
      c.in-Ok.ensures.ahead;
}

pub returns-in-Ok-clause-settled : goal.returns-in-Ok-clause-settled
returns-in-Ok-clause-settled g c honest settled =
    each_looked g.D.Disk.state g.D.Disk.tells g.D.Disk.is_honest g.met.D.Disk.honest_tells c.in_ok-disk.disk c.begin.new.disk c.begin.ensures.looked (subst IsTrue (sym c.in_ok-disk.ensures.honest) honest) (c.in_ok-disk.ensures.settled honest settled)

pub returns-in-Ok-clause-terms : goal.returns-in-Ok-clause-terms
returns-in-Ok-clause-terms g c = subst (λ (k : Kept). HasTerms k) (sym c.begin.ensures.kept) c.in_ok-disk.ensures.terms

pub returns-in-Ok-clause-first_base : goal.returns-in-Ok-clause-first_base
returns-in-Ok-clause-first_base g c none =
    (c.in-Ok.ensures.first (subst (λ (k : Kept). HasNoSet k.services k.entries) c.begin.ensures.kept none)).base

pub returns-in-Ok-clause-first_services : goal.returns-in-Ok-clause-first_services
returns-in-Ok-clause-first_services g c none =
    ap (λ (l : Lending). l.kept) c.new.ensures ∙ (c.in-Ok.ensures.first (subst (λ (k : Kept). HasNoSet k.services k.entries) c.begin.ensures.kept none)).services

pub returns-in-Ok-clause-first_module : goal.returns-in-Ok-clause-first_module
returns-in-Ok-clause-first_module g c none =
    (c.in-Ok.ensures.first (subst (λ (k : Kept). HasNoSet k.services k.entries) c.begin.ensures.kept none)).state

pub returns-in-Ok-clause-means : goal.returns-in-Ok-clause-means
returns-in-Ok-clause-means g c honest settled kept reads =
    let there = subst IsTrue (sym c.in_ok-disk.ensures.honest) honest in
    means_looked g.D.Disk.state g.D.Disk.tells g.D.Disk.is_honest kept c.in_ok-disk.disk c.begin.new.disk c.begin.ensures.looked (g.met.D.Disk.honest_tells c.in_ok-disk.disk.disk there)
    (means_at_end g.D.Disk.state g.D.Disk.moment g.D.Disk.left_since (Means kept) c.args.disk c.in_ok-disk.disk.disk (λ t x le image. g.met.D.Disk.counts_now c.in_ok-disk.disk.disk t x there le image) (c.in_ok-disk.ensures.run honest settled kept reads))

pub returns-in-Ok-clause-fuse : goal.returns-in-Ok-clause-fuse
returns-in-Ok-clause-fuse g c honest settled kept reads =
    let there = subst IsTrue (sym c.in_ok-disk.ensures.honest) honest in
    ends_quiet g.D.Disk.fault_count g.D.Disk.state g.D.Disk.tells (mount_calls ((g.D.Disk.state c.args.disk).files 0).reads) kept (g.D.Disk.state c.args.disk) c.in_ok-disk.disk c.begin.new.disk
    (g.met.D.Disk.honest_tells c.in_ok-disk.disk.disk there) (c.in_ok-disk.ensures.fuse honest settled kept reads) c.in-Ok.ensures.quiet

pub returns-in-Err-clause-means : goal.returns-in-Err-clause-means
returns-in-Err-clause-means g c honest settled kept reads =
    let there = subst IsTrue (sym c.in_ok-disk.ensures.honest) honest in
    subst (λ d. EachImage (Means kept) (g.D.Disk.state d).files) (sym c.into_disk.ensures)
    (means_looked g.D.Disk.state g.D.Disk.tells g.D.Disk.is_honest kept c.in_ok-disk.disk c.begin.new.disk c.begin.ensures.looked (g.met.D.Disk.honest_tells c.in_ok-disk.disk.disk there)
    (means_at_end g.D.Disk.state g.D.Disk.moment g.D.Disk.left_since (Means kept) c.args.disk c.in_ok-disk.disk.disk (λ t x le image. g.met.D.Disk.counts_now c.in_ok-disk.disk.disk t x there le image) (c.in_ok-disk.ensures.run honest settled kept reads)))

pub returns-in-Ok-clause-services_from_set : goal.returns-in-Ok-clause-services_from_set
returns-in-Ok-clause-services_from_set g c told =
    let first = c.in_ok-disk.disk in
    let last = c.begin.new.disk in
    let there = subst IsTrue (sym c.in_ok-disk.ensures.tells) told in
    subst (λ (cs : List ContainerHeld). GoOn last.kept (g.D.Disk.state last.disk).files c.in-Ok.start.base c.args.kinds.now 0 cs) (sym (ap (λ (l : Lending). l.kept) c.new.ensures))
    (go_there first.kept last.kept (g.D.Disk.state first.disk).files (g.D.Disk.state last.disk).files c.in-Ok.start.base c.args.kinds.now 0 c.in-Ok.start.containers.items c.begin.ensures.looked.kept (c.begin.ensures.looked.files there) (c.in-Ok.ensures.on there).services)

pub returns-in-Ok-clause-module_from_set : goal.returns-in-Ok-clause-module_from_set
returns-in-Ok-clause-module_from_set g c told =
    let first = c.in_ok-disk.disk in
    let last = c.begin.new.disk in
    let there = subst IsTrue (sym c.in_ok-disk.ensures.tells) told in
    module_there first.kept last.kept (g.D.Disk.state first.disk).files (g.D.Disk.state last.disk).files (length c.args.kinds.now) c.in-Ok.start.«module».state c.begin.ensures.looked.kept (c.begin.ensures.looked.files there) (c.in-Ok.ensures.on there).state
