-- What a member's phase says of it, clause by clause.
use Rattle.std.specs.Prelude.{◌≡◌, ℕ, ◌-◌, Bool, List, take, drop}
use Rattle.cl_base.specs.Disk.{DiskState}
use Rattle.egress.specs.declared.sent.Sent.{Sent}
use Rattle.entry_log.specs.Log.{Log}
use Rattle.consensus_agent.specs.Consumed.{HasConsumed, outboxes, role_in}
use Rattle.consensus_agent.specs.Phases.{stage}
use Rattle.member_rows.specs.Calls.{GoesOn}
use Rattle.consensus_agent.specs.Written.{Snapshot, AreWritten, StoppedAmong, phase_snapshots}
use Rattle.owed_egress.specs.Taken.{module_over, sent_over}
use Rattle.run_orders.specs.Stands.{UpSeen}
use Rattle.run_phases.specs.Grown.{Grew}
use Rattle.service_phases.specs.Pairs.{Each, Each2}
use Rattle.service_phases.specs.Phases.{HasAll, IsWithin}
use Rattle.service_phases.specs.Stages.{Stage, IsIdle}

-- where a member stands in its phases
abbrev pub stage_of : {D : Type 0} → UpSeen D → Stage
stage_of u = stage u.lending u.module_held u.core u.over

-- a member between two phases goes on: what `run_phase` wants of it (`idle`), and what `Agent`, by its field `sound`, says of itself while it is whole
pub record IsBetween {D : Type 0} (u : UpSeen D) : Type 0 where
  pub idle : IsIdle (stage_of u)
  pub sound : GoesOn u

-- what it has committed
abbrev pub commit_of : {D : Type 0} → UpSeen D → ℕ
commit_of u = u.core.values.rest.commit

-- how many entries its module is behind
abbrev pub behind : {D : Type 0} → UpSeen D → ℕ
behind u = commit_of u - u.module_held.consumed

-- the snapshots that it owes once its services came back as in v
abbrev pub snapshots_due : {D : Type 0} → UpSeen D → UpSeen D → List Snapshot
snapshots_due u v = phase_snapshots v.lending.kept u.disk.kept.log u.module_held (behind u)

module _ {D : Type 0} (state_in : D → DiskState) (is_told is_honest : D → Bool) where
  -- A phase in which something was due ran, and these records go out: clauses of these names of `run_phase`, where it answers Ok; and `written` of `Agent::phase_end`.
  pub record PhaseDone (u v : UpSeen D) (sent : List Sent) : Type 0 where
    pub was : IsBetween u
    pub is : IsBetween v
    pub grew : Each2 Grew u.lending.kept v.lending.kept
    pub all : (log : Log) → u.module_held.ahead.entries ≡ drop u.module_held.consumed log → Each (IsWithin log (commit_of u)) u.lending.kept → Each (HasAll log (commit_of u)) v.lending.kept
    pub state : v.module_held.state ≡ module_over (outboxes v.lending.kept) u.module_held.consumed u.module_held.state (take (behind u) u.module_held.ahead.events)
    pub entries : v.module_held.ahead.entries ≡ drop (behind u) u.module_held.ahead.entries
    pub events : v.module_held.ahead.events ≡ drop (behind u) u.module_held.ahead.events
    pub rest : HasConsumed u.module_held v.module_held
    pub owed : sent ≡ sent_over (role_in u.core.values) (outboxes v.lending.kept) u.module_held.consumed u.module_held.state (take (behind u) u.module_held.ahead.events)
    pub written : AreWritten state_in is_told is_honest (snapshots_due u v) u.disk v.disk
    pub core : v.core ≡ u.core
    pub base : v.base ≡ u.base

  -- A phase in which something was due ran, until a fault of the disk ended it as its snapshots were put: clauses of these names of `run_phase`, where it answers Device (`all` is its clause `failed`).
  pub record PhaseCut (u v : UpSeen D) : Type 0 where
    pub was : IsBetween u
    pub grew : Each2 Grew u.lending.kept v.lending.kept
    pub all : (log : Log) → u.module_held.ahead.entries ≡ drop u.module_held.consumed log → Each (IsWithin log (commit_of u)) u.lending.kept → Each (HasAll log (commit_of u)) v.lending.kept
    pub stopped : StoppedAmong state_in is_told is_honest (snapshots_due u v) u.disk v.disk
    pub base : v.base ≡ u.base
