use Rattle.std.proofs.Common.{◌≡◌}
use Rattle.run_seats.proofs.answer.put_set.Given as goal

abbrev pub invariant-loop-service : goal.invariant-loop-service
invariant-loop-service g l = record {
  kept : l.agent.disk.kept ≡ l.initial.agent.disk.kept;
  core : l.agent.core ≡ l.initial.agent.core;
  own : l.agent.module ≡ l.initial.agent.module;
  services : l.agent.services ≡ l.initial.agent.services;
  base : l.agent.base ≡ l.initial.agent.base;
  role : l.agent.role ≡ l.initial.agent.role;
  whole : l.agent.is_whole ≡ l.initial.agent.is_whole;
  over : l.agent.over ≡ l.initial.agent.over;
}
