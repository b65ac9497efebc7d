-- What a phase makes of a member.
use Rattle.std.proofs.Common.{◌≡◌, inl, inr, ℕ, ◌≤◌, ◌<◌, Bool, List, [], Result, Ok, Err, OnErr, drop}
use Rattle.std.proofs.lemmas.Bool.{cases_lt}
use Rattle.cl_base.specs.Disk.{DiskState}
use Rattle.egress.specs.declared.sent.Sent.{Sent}
use Rattle.entry_log.specs.Log.{Log}
use Rattle.consensus_agent.specs.Accepted.{OnFault}
use Rattle.consensus_agent.specs.Written.{StoppedAmong}
use Rattle.consensus_agent.specs.declared.fault.AgentFault.{AgentFault}
use Rattle.consensus_agent.specs.declared.fault.AgentFault.TheVariants as fault
use Rattle.member_phases.specs.Calls.{IsBetween, PhaseCut, commit_of, snapshots_due}
use Rattle.run_orders.specs.Stands.{UpSeen}
use Rattle.run_phases.specs.Grown.{Grew}
use Rattle.service_phases.specs.Pairs.{Each, Each2}
use Rattle.service_phases.specs.Phases.{HasAll, IsWithin}

-- something was due where the answer is no Ok
due_at_fault : (u : ℕ) (commit : ℕ) (f : AgentFault) (P : Type 0) → (commit ≤ u → (◌≡◌ {A = Result (List Sent) AgentFault} (Err f) (Ok [])) × P) → u < commit
due_at_fault u commit f P rests = elim (cases_lt u commit) as (λ _. u < commit) [ inl lt ↦ lt | inr le ↦ (let no = (rests le).0 in cc) ]

module _ {D : Type 0} (state : D → DiskState) (is_told is_honest : D → Bool) (u v : UpSeen D) (was : IsBetween u) (base : v.base ≡ u.base) where
  fell : (f : AgentFault) → (u.module_held.consumed < commit_of u → Each2 Grew u.lending.kept v.lending.kept) → (commit_of u ≤ u.module_held.consumed → (◌≡◌ {A = Result (List Sent) AgentFault} (Err f) (Ok [])) × (v ≡ u))
      → ((log : Log) → u.module_held.ahead.entries ≡ drop u.module_held.consumed log → Each (IsWithin log (commit_of u)) u.lending.kept → Each (HasAll log (commit_of u)) v.lending.kept)
      → StoppedAmong state is_told is_honest (snapshots_due u v) u.disk v.disk → PhaseCut state is_told is_honest u v
  fell f grew rests all stopped = record { was = was; grew = grew (due_at_fault u.module_held.consumed (commit_of u) f (v ≡ u) rests); all = all; stopped = stopped; base = base }

  -- a fault of the disk ended it
  pub phase_fell : (r : Result (List Sent) AgentFault) → (u.module_held.consumed < commit_of u → Each2 Grew u.lending.kept v.lending.kept) → (commit_of u ≤ u.module_held.consumed → (r ≡ Ok []) × (v ≡ u))
      → ((log : Log) → u.module_held.ahead.entries ≡ drop u.module_held.consumed log → Each (IsWithin log (commit_of u)) u.lending.kept → OnFault r (Each (HasAll log (commit_of u)) v.lending.kept))
      → OnErr r (StoppedAmong state is_told is_honest (snapshots_due u v) u.disk v.disk) → OnFault r (PhaseCut state is_told is_honest u v)
  phase_fell (Ok sent) grew rests all stopped = tt
  phase_fell (Err fault.NoMemory) grew rests all stopped = tt
  phase_fell (Err fault.Device) grew rests all stopped = fell fault.Device grew rests all stopped
  phase_fell (Err (fault.Damaged file place)) grew rests all stopped = fell (fault.Damaged file place) grew rests all stopped
