use Rattle.std.proofs.Common.{◌≡◌, true, List, drop}
use Rattle.cl_base.specs.declared.entry.Entry.{Entry}
use Rattle.consensus_agent.specs.Phases.{stage}
use Rattle.run_phases.specs.Frees.{IsFree, IsGoing}
use Rattle.run_phases.specs.Grown.{GoesOn}
use Rattle.run_phases.specs.Logs.{FeedsLog}
use Rattle.service_phases.specs.Pairs.{Each2}
use Rattle.run_phases.proofs.free.free_feed.Given as goal

abbrev pub invariant-loop : goal.invariant-loop
invariant-loop g l = record {
  free : IsFree (stage l.agent.services l.agent.module l.agent.core l.agent.over) l.phase;
  going : IsGoing (stage l.agent.services l.agent.module l.agent.core l.agent.over) l.phase.feeds;
  over : l.agent.over ≡ l.fn.agent.over;
  held : l.agent.module ≡ l.fn.agent.module;
  core : l.agent.core ≡ l.fn.agent.core;
  base : l.agent.base ≡ l.fn.agent.base;
  disk : l.agent.disk ≡ l.fn.agent.disk;
  role : l.agent.role ≡ l.fn.agent.role;
  whole : l.agent.is_whole ≡ l.fn.agent.is_whole;
  grew : Each2 GoesOn l.fn.agent.services.lent l.agent.services.lent;
  log : (log : List Entry) → l.fn.agent.module.ahead.entries ≡ drop l.fn.agent.module.consumed log → FeedsLog log (stage l.fn.agent.services l.fn.agent.module l.fn.agent.core l.fn.agent.over) l.fn.phase.feeds → FeedsLog log (stage l.agent.services l.agent.module l.agent.core l.agent.over) l.phase.feeds;
  stays : l.fn.agent.over ≡ true → (l.phase.feeds ≡ l.fn.phase.feeds) × (l.agent.services ≡ l.fn.agent.services);
}
