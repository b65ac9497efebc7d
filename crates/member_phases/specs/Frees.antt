-- A phase that goes on over calls: what it has of its services, what the calls that begin, feed, end and drop it say, and what they make of a run.
use Rattle.std.specs.Prelude.{◌≡◌, ◌≤◌, ⊤, ℕ, Bool, true, false, List, [], ◌∷◌, ◌++◌, length, map, take, drop}
use Rattle.cl_base.specs.Disk.{DiskState}
use Rattle.cl_base.specs.declared.disk.Choice.{Choice}
use Rattle.commit_counter.specs.Ends.{Fed}
use Rattle.egress.specs.declared.sent.Sent.{Sent}
use Rattle.entry_log.specs.Log.{Log}
use Rattle.service_api.specs.declared.shipped.Kind.{Kind}
use Rattle.service_api.specs.Service.{outbox_from, state_of}
use Rattle.service_container.specs.Held.{Held}
use Rattle.service_container.specs.declared.container.Served.{Served}
use Rattle.service_phases.specs.Pairs.{Each, Each2}
use Rattle.service_phases.specs.Phases.{HasAll, IsWithin}
use Rattle.service_phases.specs.Stages.{Begins, IsLent}
use Rattle.service_runs.specs.Hosts.{Output}
use Rattle.consensus_agent.specs.Consumed.{HasConsumed, HaveRising, outboxes, role_in}
use Rattle.consensus_agent.specs.Written.{AreWritten, StoppedAmong}
use Rattle.owed_egress.specs.Taken.{module_over, sent_over}
use Rattle.run_phases.specs.Grown.{GoesOn}
use Rattle.run_phases.specs.Logs.{FeedsLog, HoldsLog}
use Rattle.run_world.specs.Seat.{Seat}
use Rattle.run_world.specs.RunWorld.{RunWorld, seat, with_records}
use Rattle.run_orders.specs.Kept.{HasFaults}
use Rattle.run_orders.specs.Phases.{PhasesAct}
use Rattle.run_orders.specs.Stands.{Down, HomeSeen, IsEnded, IsRecord, IsSeat, IsUp, SeatSeen, Up, UpSeen}
use Rattle.member_rows.specs.Calls.{GoesOn as MemberGoesOn}
use Rattle.member_rows.specs.Places.{run_ended}
use Rattle.member_phases.specs.Calls.{IsBetween, behind, commit_of, snapshots_due, stage_of}
use Rattle.member_phases.specs.Seats.{with_seat}

-- ---- what a phase has

-- in a container that is lent stands what came out of what its service consumed since the module's place
pub record HasOutput (kind : Kind) (applied : ℕ) (c : Held) (xs : Log) : Type 0 where
  pub low : c.base ≤ applied
  pub since : applied ≤ length xs
  pub outbox : c.outbox ≡ outbox_from (state_of kind (take applied xs)) applied (drop applied xs)

-- so it is of each of them
abbrev pub HaveOutputs : List Kind → ℕ → List Held → List Log → Type 0
HaveOutputs [] applied [] [] = ⊤
HaveOutputs (kind ∷ kinds) applied (c ∷ cs) (xs ∷ xss) = HasOutput kind applied c xs × HaveOutputs kinds applied cs xss
HaveOutputs _ applied _ _ = ⊥

-- a phase that goes on with these feeds: its containers are lent, with what came out of them; and what was fed and published is the log's, or once the phase is over what was published
pub record PhaseRuns {D : Type 0} (kinds : List Kind) (u : UpSeen D) (feeds : List Fed) (s : Seat) : Type 0 where
  pub lent : Each (IsLent u.module_held.consumed) u.lending.lent
  pub kept : u.lending.kept ≡ []
  pub out : HaveOutputs kinds s.applied u.lending.lent s.run.inputs
  pub fed : u.over ≡ false → FeedsLog s.member.durable.log (stage_of u) feeds
  pub holds : HoldsLog s.member.durable.log (stage_of u) feeds

-- ---- what its calls say

-- it began with these feeds and jobs: clauses of these names of `free_begin`, where it answers Ok
pub record FreeBegun {D : Type 0} (u v : UpSeen D) (feeds : List Fed) (jobs : List Served) : Type 0 where
  pub was : IsBetween u
  pub begins : Begins (stage_of u) (stage_of v) feeds jobs
  pub role : v.role ≡ role_in u.core.values
  pub log : (log : Log) → u.module_held.consumed ≤ length log → Each (IsWithin log (commit_of u)) u.lending.kept → FeedsLog log (stage_of v) feeds
  pub disk : v.disk ≡ u.disk
  pub held : v.module_held ≡ u.module_held
  pub core : v.core ≡ u.core
  pub base : v.base ≡ u.base

-- it was fed and goes on: clauses of these names of `free_feed`, where it answers Ok
pub record FreeFed {D : Type 0} (u v : UpSeen D) (feeds next : List Fed) : Type 0 where
  pub kept : v.lending.kept ≡ []
  pub lent : Each (IsLent v.module_held.consumed) v.lending.lent
  pub grew : Each2 GoesOn u.lending.lent (v.lending.kept ++ v.lending.lent)
  pub log : (log : Log) → u.module_held.ahead.entries ≡ drop u.module_held.consumed log → FeedsLog log (stage_of u) feeds → FeedsLog log (stage_of v) next
  pub stays : u.over ≡ true → (next ≡ feeds) × (v.lending ≡ u.lending)
  pub disk : v.disk ≡ u.disk
  pub held : v.module_held ≡ u.module_held
  pub core : v.core ≡ u.core
  pub base : v.base ≡ u.base
  pub role : v.role ≡ u.role
  pub over : v.over ≡ u.over

module _ {D : Type 0} (state_in : D → DiskState) (is_told is_honest : D → Bool) where
  -- it ended, and these records go out: clauses of these names of `free_end`, where it answers Ok; and `written` of `Agent::phase_end`
  pub record FreeEnded (u v : UpSeen D) (feeds : List Fed) (sent : List Sent) : Type 0 where
    pub was : MemberGoesOn u
    pub is : IsBetween v
    pub grew : Each2 GoesOn u.lending.lent v.lending.kept
    pub all : (log : Log) → u.module_held.ahead.entries ≡ drop u.module_held.consumed log → FeedsLog log (stage_of u) feeds → Each (HasAll log (commit_of u)) v.lending.kept
    pub over_all : (log : Log) → u.over ≡ true → HoldsLog log (stage_of u) feeds → Each (HasAll log (commit_of u)) v.lending.kept
    pub state : HaveRising v.lending.kept → v.module_held.state ≡ module_over (outboxes v.lending.kept) u.module_held.consumed u.module_held.state (take (behind u) u.module_held.ahead.events)
    pub entries : v.module_held.ahead.entries ≡ drop (behind u) u.module_held.ahead.entries
    pub events : v.module_held.ahead.events ≡ drop (behind u) u.module_held.ahead.events
    pub rest : HasConsumed u.module_held v.module_held
    pub owed : HaveRising v.lending.kept → sent ≡ sent_over u.role (outboxes v.lending.kept) u.module_held.consumed u.module_held.state (take (behind u) u.module_held.ahead.events)
    pub written : HaveRising v.lending.kept → AreWritten state_in is_told is_honest (snapshots_due u v) u.disk v.disk
    pub core : v.core ≡ u.core
    pub base : v.base ≡ u.base

  -- a fault of the disk ended it, as its snapshots were put: what `free_end` says where it answers Device
  pub record FreeCut (u v : UpSeen D) (feeds : List Fed) : Type 0 where
    pub was : MemberGoesOn u
    pub grew : Each2 GoesOn u.lending.lent v.lending.kept
    pub all : (log : Log) → u.module_held.ahead.entries ≡ drop u.module_held.consumed log → FeedsLog log (stage_of u) feeds → Each (HasAll log (commit_of u)) v.lending.kept
    pub over_all : (log : Log) → u.over ≡ true → HoldsLog log (stage_of u) feeds → Each (HasAll log (commit_of u)) v.lending.kept
    pub stopped : HaveRising v.lending.kept → StoppedAmong state_in is_told is_honest (snapshots_due u v) u.disk v.disk
    pub base : v.base ≡ u.base

-- it was dropped, at a stop or after a call that failed: clauses of these names of `free_drop` (`grew` is the second field of its clause `back`; `within` at whichever commit what was published is within)
pub record FreeDropped {D : Type 0} (u v : UpSeen D) (feeds : List Fed) : Type 0 where
  pub grew : Each2 GoesOn u.lending.lent v.lending.kept
  pub within : (log : Log) (commit : ℕ) → HoldsLog log (record (stage_of u) { commit = commit }) feeds → Each (IsWithin log commit) u.lending.kept → Each (IsWithin log commit) v.lending.kept
  pub base : v.base ≡ u.base

-- a call of the member beside it left of its member and of its seat: its containers, as they are lent, the module's place and the log up to the commit, which doesn't fall; and the whole log, but for entries behind it, unless the phase is over
pub record StaysBeside {D : Type 0} (u v : UpSeen D) (s t : Seat) : Type 0 where
  pub lending : v.lending ≡ u.lending
  pub consumed : v.module_held.consumed ≡ u.module_held.consumed
  pub applied : t.applied ≡ s.applied
  pub run : t.run ≡ s.run
  pub rises : commit_of u ≤ commit_of v
  pub front : take (commit_of u) t.member.durable.log ≡ take (commit_of u) s.member.durable.log
  pub grows : v.over ≡ false → (u.over ≡ false) × ((more : Log) × (t.member.durable.log ≡ s.member.durable.log ++ more))

-- ---- what they make of a run

-- each service has consumed this
abbrev pub with_consumed : List Log → Seat → Seat
with_consumed inputs s = record s { run = record s.run { inputs = inputs } }

-- a member's place: it is stopped, or in a phase that goes on and is not over
abbrev pub IsOn : {D : Type 0} → HomeSeen D → Type 0
IsOn (Up u true) = u.over ≡ false
IsOn (Up u false) = ⊥
IsOn (Down disk) = ⊤

-- or it is stopped, or between two phases
abbrev pub IsOff : {D : Type 0} → HomeSeen D → Type 0
IsOff (Up u true) = ⊥
IsOff (Up u false) = ⊤
IsOff (Down disk) = ⊤

module _ {D : Type 0} (state : D → DiskState) (kinds : List Kind) where
  -- acts of phases lead from one world to another in which member m stands to its seat with a phase that goes on, and all else is as it was
  pub record GoesOnSo (m : ℕ) (v : UpSeen D) (feeds : List Fed) (w : RunWorld) : Type 0 where
    pub after : Seat
    pub acted : PhasesAct kinds w (with_seat m after w)
    pub up : IsUp state kinds v true after
    pub runs : PhaseRuns kinds v feeds after
    pub ended : after.ended ≡ (seat w m).ended
    pub faults : after.faults ≡ (seat w m).faults

  -- they lead to one in which it stands to its seat between two phases, the records that it sent are added, and all else is as it was
  pub record EndsSo (m : ℕ) (u v : UpSeen D) (sent : List Sent) (w : RunWorld) : Type 0 where
    pub after : Seat
    pub records : List Output
    pub acted : PhasesAct kinds w (with_records records (with_seat m after w))
    pub up : IsUp state kinds v false after
    pub each : Each2 IsRecord records sent
    pub ended : after.ended ≡ (seat w m).ended
    pub faults : (choice : Choice) → HasFaults (state u.disk.disk) choice (seat w m).faults → HasFaults (state v.disk.disk) choice after.faults

  -- they lead to one in which its place y, stopped by a fault of its disk, stands to its seat, and all else is as it was
  pub record StopsSo (m : ℕ) (y : SeatSeen D) (w : RunWorld) : Type 0 where
    pub after : Seat
    pub acted : PhasesAct kinds w (with_seat m after w)
    pub seat : IsSeat state kinds y after

  -- they lead to one in which the services of member m have consumed what the containers had that came back, and all else is as it was
  pub record DropsSo (m : ℕ) (v : UpSeen D) (w : RunWorld) : Type 0 where
    pub inputs : List Log
    pub acted : PhasesAct kinds w (with_seat m (with_consumed inputs (seat w m)) w)
    pub ended : Each2 IsEnded (run_ended v false) (map (λ (xs : Log). ((seat w m).run.first, xs)) inputs)
