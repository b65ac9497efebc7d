use Rattle.std.proofs.Common.{◌≡◌, ◌≤◌, ◌<◌, false, List, [], map, length, drop}
use Rattle.cl_base.specs.declared.entry.Entry.{Entry}
use Rattle.consensus_agent.specs.Consumed.{role_in}
use Rattle.consensus_agent.specs.Phases.{stage}
use Rattle.run_phases.specs.Grown.{GoesOn}
use Rattle.run_phases.specs.Logs.{FeedsLog}
use Rattle.service_phases.specs.Pairs.{Each, Each2}
use Rattle.service_phases.specs.Phases.{IsWithin, forgetting}
use Rattle.service_phases.specs.Stages.{IsFeeding, Runs}
use Rattle.run_phases.proofs.phase.run_phase.Given as goal

abbrev pub invariant-loop : goal.invariant-loop
invariant-loop g l = record {
  runs : Runs (stage l.agent.services l.agent.«module» l.agent.core l.agent.over) l.feeds l.jobs;
  feeding : IsFeeding (stage l.agent.services l.agent.«module» l.agent.core l.agent.over) l.feeds;
  place : (stage l.agent.services l.agent.«module» l.agent.core l.agent.over).first ≤ (stage l.agent.services l.agent.«module» l.agent.core l.agent.over).commit;
  kept : l.agent.services.kept ≡ [];
  on : l.agent.over ≡ false;
  none : l.lanes ≡ [];
  due : l.fn.agent.«module».consumed < l.fn.agent.core.values.rest.commit;
  held : l.agent.«module» ≡ l.fn.agent.«module»;
  core : l.agent.core ≡ l.fn.agent.core;
  base : l.agent.base ≡ l.fn.agent.base;
  disk : l.agent.disk ≡ l.fn.agent.disk;
  role : l.agent.role ≡ role_in l.fn.agent.core.values;
  grew : Each2 GoesOn (map forgetting l.fn.agent.services.kept) l.agent.services.lent;
  log : (log : List Entry) → l.fn.agent.«module».ahead.entries ≡ drop l.fn.agent.«module».consumed log → l.fn.agent.«module».consumed ≤ length log → Each (IsWithin log l.fn.agent.core.values.rest.commit) l.fn.agent.services.kept → FeedsLog log (stage l.agent.services l.agent.«module» l.agent.core l.agent.over) l.feeds;
}
