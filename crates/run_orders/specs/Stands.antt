-- How what the driver of a run has stands to the world of the run, between two of its calls.
use Rattle.std.specs.Prelude.{◌≡◌, ◌≤◌, ⊤, ℕ, zero, suc, ℤ, Bool, true, false, IsTrue, is_some, List, [], ◌∷◌, ◌++◌, length, map, filter, fold, set, take, drop, Option, Some, None}
use Rattle.cl_base.specs.Disk.{DiskState}
use Rattle.cl_base.specs.declared.disk.Choice.{Choice}
use Rattle.cl_base.specs.declared.entry.Entry.{Entry}
use Rattle.wire_prims.specs.Fields.{signed32}
use Rattle.entry_log.specs.Log.{Log}
use Rattle.commit_counter.specs.Ends.{Fed}
use Rattle.commit_counter.specs.declared.role.Role.{Role}
use Rattle.commit_counter.specs.declared.role.Role.TheVariants.{Follower, Leader}
use Rattle.consensus_core.specs.Fit.{Held as CoreHeld}
use Rattle.consensus_core.specs.Member.{Run, Sent as Packet, stopped}
use Rattle.egress.specs.declared.sent.Sent.{Sent}
use Rattle.egress.specs.Streams.{StreamSeen, sent_more}
use Rattle.member_disk.specs.Kept.{Kept, Held as DiskHeld, EachStands, ReadsLike, IsSettled}
use Rattle.member_module.specs.Held.{Held as ModuleHeld}
use Rattle.module_state.specs.Entries.{events_in}
use Rattle.module_state.specs.Services.{module_of}
use Rattle.network.specs.Net.{NetSeen}
use Rattle.service_api.specs.declared.shipped.Kind.{Kind}
use Rattle.service_api.specs.Service.{state_of}
use Rattle.service_container.specs.Held.{Held as ContainerHeld}
use Rattle.service_container.specs.Records.{records_from}
use Rattle.service_phases.specs.Pairs.{Each2}
use Rattle.service_phases.specs.Phases.{Lending, forgetting}
use Rattle.service_runs.specs.Hosts.{Output, longer, no_run}
use Rattle.run_world.specs.Seat.{Seat, Phase, Rests, Goes}
use Rattle.run_world.specs.RunWorld.{RunWorld, all_sent}
use Rattle.run_orders.specs.Kept.{IsStateOf, IsMountable, HasFaults}

-- ---- what the driver has

-- a member that runs, as the contracts of its calls see it: its part in the agreement, its disk, its module, its services, what it was as its phase began, the entries of the snapshot that it began with, and whether its phase is over
pub record UpSeen (D : Type 0) : Type 0 where
  pub core : CoreHeld
  pub disk : DiskHeld D
  pub module_held : ModuleHeld
  pub lending : Lending
  pub role : Role
  pub base : ℕ
  pub over : Bool

-- a member's place: it runs, in a phase that goes on or between two; or it is stopped, and this is its disk
pub data HomeSeen (D : Type 0) : Type 0 where
  Up : (member : UpSeen D) → (going : Bool) → HomeSeen D
  Down : (disk : D) → HomeSeen D

-- what a service of an ended run consumed since it began with so many entries
pub record EndedSeen : Type 0 where
  pub from : ℕ
  pub inputs : List Entry

-- one member: where its disk is, what the crash that comes next leaves, and what the services of its ended runs consumed, by run and service
pub record SeatSeen (D : Type 0) : Type 0 where
  pub home : HomeSeen D
  pub choice : Choice
  pub ended : List EndedSeen

-- the moment in ms, the members by rising number, the network, what was sent to clients by stream, and the printed log
pub record RunSeen (D : Type 0) : Type 0 where
  pub now : ℕ
  pub seats : List (SeatSeen D)
  pub net : NetSeen
  pub streams : List StreamSeen
  pub printed : Log

-- the driver once member m is this and has sent these packets, and this log is printed where it is longer than what is
abbrev pub seen_put : {D : Type 0} → ℕ → SeatSeen D → List Packet → Log → RunSeen D → RunSeen D
seen_put m y ps log x = record { now = x.now; seats = set x.seats m y; net = all_sent m ps x.net; streams = x.streams; printed = longer x.printed log }

-- ---- a member's module and its services

-- its module applied the first entries of its log, and has the others ahead
pub record HasModule (kinds : List Kind) (m : ModuleHeld) (s : Seat) : Type 0 where
  pub applied : m.consumed ≡ s.applied
  pub state : m.state ≡ module_of kinds (events_in (take s.applied s.member.durable.log))
  pub entries : m.ahead.entries ≡ drop s.applied s.member.durable.log
  pub events : m.ahead.events ≡ events_in (drop s.applied s.member.durable.log)
  pub coming : m.coming ≡ None
  pub alive : m.alive ≡ s.alive
  pub since : m.since ≡ s.since

-- the container of the service of this number, which began with so many first entries of a log, consumed these
pub record HasInput (kind : Kind) (count : ℕ) (log : Log) (number : ℕ) (c : ContainerHeld) (xs : Log) : Type 0 where
  pub service : c.service ≡ number
  pub base : c.base ≡ count
  pub inputs : xs ≡ take count log ++ c.inputs
  pub state : c.state ≡ state_of kind xs
  pub records : c.records ≡ records_from (state_of kind (take count log)) count c.inputs
  pub whole : c.whole ≡ true

-- the containers of the services from a number on
abbrev pub HaveInputs : List Kind → ℕ → Log → ℕ → List ContainerHeld → List Log → Type 0
HaveInputs [] base log service [] [] = ⊤
HaveInputs (kind ∷ kinds) base log service (c ∷ cs) (xs ∷ rest) = HasInput kind base log service c xs × HaveInputs kinds base log (suc service) cs rest
HaveInputs _ base log service _ _ = ⊥

-- the containers: those that are kept, and in a phase that goes on as they were lent to its threads. What the threads consumed since is known once they give them back
abbrev pub containers_of : Bool → Lending → List ContainerHeld
containers_of true l = l.lent
containers_of false l = l.kept

abbrev pub term_led : Role → Option ℤ
term_led Follower = None
term_led (Leader term) = Some term

-- a phase that goes on, with what its member was as it began, and whether it is over
abbrev pub IsPhase : Bool → Role → Bool → Phase → Type 0
IsPhase true role over p = p ≡ Goes (term_led role) over
IsPhase false role over p = p ≡ Rests

-- what each service of ended runs consumed, by run and service, with the entries that its run began with
abbrev pub parts_of : List Run → List (ℕ × Log)
parts_of [] = []
parts_of (r ∷ rs) = map (λ xs. (r.first, xs)) r.inputs ++ parts_of rs

-- so it is kept of one of them, but for the entries that it began with
pub record IsEnded (e : EndedSeen) (part : ℕ × Log) : Type 0 where
  pub from : e.from ≡ part.0
  pub inputs : e.inputs ≡ drop e.from part.1

-- ---- what was sent to clients

-- the service of a seat, none for the module's
abbrev pub service_at : ℕ → Option ℕ
service_at zero = None
service_at (suc n) = Some n

-- a record on a stream is this output of an entry
pub record IsRecord (o : Output) (s : Sent) : Type 0 where
  pub entry : s.entry ≡ Some o.entry
  pub service : s.service ≡ service_at o.seat
  pub number : s.number ≡ o.number
  pub bytes : o.bytes ≡ signed32 s.stream ++ s.bytes

abbrev pub has_entry : Sent → Bool
has_entry s = is_some s.entry

abbrev pub more_sent : List StreamSeen → Sent → List StreamSeen
more_sent streams s = sent_more s streams

-- all that was sent, in order, stands on its streams; and but for direct answers, which no entry owes, it is these records
pub record AreRecords (streams : List StreamSeen) (records : List Output) : Type 0 where
  pub all : List Sent
  pub stand : streams ≡ fold more_sent [] all
  pub each : Each2 IsRecord records (filter has_entry all)

-- ---- a member

-- the disk, wherever it is
abbrev pub disk_of : {D : Type 0} → HomeSeen D → D
disk_of (Up u going) = u.disk.disk
disk_of (Down disk) = disk

-- the same, on this disk
abbrev pub with_disk : {D : Type 0} → D → HomeSeen D → HomeSeen D
with_disk d (Up u going) = Up (record u { disk = record { kept = u.disk.kept; whole = u.disk.whole; disk = d } }) going
with_disk d (Down disk) = Down d

-- a member whose phase begins with these feeds: its containers are lent with their outboxes emptied
abbrev pub with_phase : {D : Type 0} → Role → List Fed → UpSeen D → UpSeen D
with_phase role feeds u = record { core = u.core; disk = u.disk; module_held = u.module_held; lending = record { kept = []; lent = map forgetting u.lending.kept; begun = feeds }; role = role; base = u.base; over = false }

module _ {D : Type 0} (state : D → DiskState) (kinds : List Kind) where
  -- a member that runs
  pub record IsUp (u : UpSeen D) (going : Bool) (s : Seat) : Type 0 where
    pub up : s.member.up ≡ true
    pub values : u.core.values ≡ s.member.values
    pub whole : IsTrue u.disk.whole
    pub mountable : IsMountable (length kinds) u.disk.kept
    pub each : EachStands u.disk.kept (state u.disk.disk).files
    pub durable : IsStateOf u.disk.kept (state u.disk.disk).files s.member.durable
    pub has_module : HasModule kinds u.module_held s
    pub first : u.base ≡ s.run.first
    pub within : u.base ≤ length s.member.durable.log
    pub inputs : HaveInputs kinds u.base s.member.durable.log 0 (containers_of going u.lending) s.run.inputs
    pub phase : IsPhase going u.role u.over s.phase

  -- a stopped member: its disk at rest stands for its durable state
  pub record IsDown (disk : D) (s : Seat) : Type 0 where
    pub kept : Kept
    pub mountable : IsMountable (length kinds) kept
    pub settled : IsSettled (state disk).files
    pub reads : ReadsLike kept (state disk).files
    pub durable : IsStateOf kept (state disk).files s.member.durable
    pub member : s.member ≡ stopped s.member.durable
    pub run : s.run ≡ no_run
    pub applied : s.applied ≡ 0
    pub phase : s.phase ≡ Rests
    pub alive : s.alive ≡ []
    pub since : s.since ≡ 0

  abbrev pub IsHome : HomeSeen D → Seat → Type 0
  IsHome (Up u going) s = IsUp u going s
  IsHome (Down disk) s = IsDown disk s

  -- a member
  pub record IsSeat (x : SeatSeen D) (s : Seat) : Type 0 where
    pub home : IsHome x.home s
    pub faults : HasFaults (state (disk_of x.home)) x.choice s.faults
    pub ended : Each2 IsEnded x.ended (parts_of s.ended)

  -- ---- the whole run

  pub record Stands (x : RunSeen D) (w : RunWorld) : Type 0 where
    pub now : x.now ≡ w.now
    pub seats : Each2 IsSeat x.seats w.seats
    pub net : x.net ≡ w.net
    pub records : AreRecords x.streams w.records
    pub printed : x.printed ≡ w.printed
