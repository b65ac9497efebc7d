use Rattle.std.proofs.Common.{◌≡◌, false, take}
use Rattle.owed_egress.specs.Taken.{module_over, sent_over}
use Rattle.entry_log.specs.Shape.{shape_of}
use Rattle.consensus_agent.specs.Written.{actions_over}
use Rattle.consensus_agent.specs.Consumed.{HaveRising, IsTaking, outboxes}
use Rattle.consensus_agent.proofs.agent.Agent.consume.Given as goal

abbrev pub invariant-loop-number : goal.invariant-loop-number
invariant-loop-number g l = record {
  taken : IsTaking l.initial.self.module l.self.module;
  state : HaveRising l.initial.self.services.kept → l.self.module.state ≡ module_over (outboxes l.initial.self.services.kept) l.initial.self.module.consumed l.initial.self.module.state (take l.number l.initial.self.module.ahead.events);
  owed : HaveRising l.initial.self.services.kept → l.sent ≡ sent_over l.initial.self.role (outboxes l.initial.self.services.kept) l.initial.self.module.consumed l.initial.self.module.state (take l.number l.initial.self.module.ahead.events);
  actions : HaveRising l.initial.self.services.kept → l.actions ≡ actions_over (outboxes l.initial.self.services.kept) (shape_of l.initial.self.disk.kept.log) l.initial.self.module.consumed l.initial.self.module.state (take l.number l.initial.self.module.ahead.events);
  services : l.self.services ≡ l.initial.self.services;
  core : l.self.core ≡ l.initial.self.core;
  disk : l.self.disk ≡ l.initial.self.disk;
  role : l.self.role ≡ l.initial.self.role;
  base : l.self.base ≡ l.initial.self.base;
  unfinished : l.self.is_whole ≡ false;
}
