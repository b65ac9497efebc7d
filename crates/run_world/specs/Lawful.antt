-- A world of a run that the steps of the protocol explain.
use Rattle.std.specs.Prelude.{◌≡◌, ◌<◌, ⊤, ℕ, true, if◌then◌else◌, List, map, length, Contains, Option, Some, None}
use Rattle.std.specs.List.{AllByRecursion}
use Rattle.sbe_consensus.specs.Spelling.{HasSpelling}
use Rattle.sbe_consensus.specs.declared.packet.Outgoing.{Outgoing}
use Rattle.service_api.specs.declared.shipped.Kind.{Kind}
use Rattle.consensus_core.specs.Fit.{IsFit, IsTerm}
use Rattle.consensus_core.specs.Member.{Member, Sent, spelled_packet}
use Rattle.network.specs.Net.{Flight, NetSeen, link_place}
use Rattle.network.specs.Sends.{kept_at}
use Rattle.world.specs.World.{World, member}
use Rattle.service_runs.specs.Hosts.{Host, Hosted, Idle, Taking, Over, Ending}
use Rattle.one_log.specs.Led.{Turn, turns, led}
use Rattle.one_log.specs.Ruled.{rules_of}
use Rattle.run_world.specs.Seat.{Seat, Phase, Rests, Goes, Ends}
use Rattle.run_world.specs.RunWorld.{RunWorld, seat}

-- a leader that is known is one of so many members
abbrev pub IsLeader : ℕ → Option ℕ → Type 0
IsLeader n None = ⊤
IsLeader n (Some m) = m < n

-- all numbers of the members are in their ranges, and each packet that was sent has a spelling and is for a member
pub record IsSpelled (w : World) : Type 0 where
  pub fit : (m : ℕ) → (member w m).up ≡ true → IsFit (member w m).values.election
  pub leads : (m : ℕ) → (member w m).up ≡ true → IsLeader (length w.members) (member w m).values.election.leader
  pub kept : (m : ℕ) → IsTerm (member w m).durable.candidate
  pub sent : (s : Sent) → Contains w.sent s → HasSpelling s.packet
  pub to : (s : Sent) → Contains w.sent s → s.to < length w.members

-- these bytes spell a packet that was sent to this member
abbrev pub OfSent : World → Outgoing → Type 0
OfSent w o = (s : Sent) × Contains w.sent s × (o ≡ spelled_packet s)

abbrev pub WasSent : World → ℕ × Outgoing → Type 0
WasSent w p = OfSent w p.1

abbrev pub RoundWasSent : World → Option Flight → Type 0
RoundWasSent w None = ⊤
RoundWasSent w (Some ps) = AllByRecursion (WasSent w) ps

-- the bytes are those of a packet that was sent to the member b
abbrev pub BytesOf : World → ℕ → List ℕ → Type 0
BytesOf w b bytes = OfSent w (record { to = b; bytes = bytes })

-- what is in flight, and what the links keep, was sent
pub record IsFlown (w : World) (n : NetSeen) : Type 0 where
  pub count : n.members ≡ length w.members
  pub round : RoundWasSent w n.round
  pub later : AllByRecursion (WasSent w) n.later
  pub kept : (a b : ℕ) → b < n.members → AllByRecursion (BytesOf w b) (kept_at n.links (link_place n.members a b))

-- a member's phase, as the queues of its services have it
abbrev pub IsPhase : Phase → Host → Type 0
IsPhase Rests h = h.stage ≡ Idle
IsPhase (Goes role over) h = (h.stage ≡ (if over then Over else Taking)) × (h.role ≡ role) × (length h.feeds ≡ length h.run.inputs)
IsPhase (Ends role upto due) h = (h.stage ≡ Ending upto due) × (h.role ≡ role)

-- what the runs of a member's services are
pub record IsHost (h : Host) (s : Seat) : Type 0 where
  pub run : h.run ≡ s.run
  pub applied : h.applied ≡ s.applied
  pub past : h.past ≡ s.ended
  pub phase : IsPhase s.phase h

abbrev pub member_of : Seat → Member
member_of s = s.member

-- a world of steps shows as this world of a run
pub record Shows (h : Hosted) (w : RunWorld) : Type 0 where
  pub now : h.world.now ≡ w.now
  pub members : h.world.members ≡ map member_of w.seats
  pub hosts : (m : ℕ) → IsHost (h.hosts m) (seat w m)
  pub outputs : h.outputs ≡ w.records
  pub printed : h.printed ≡ w.printed
  pub flown : IsFlown h.world w.net
  pub spelled : IsSpelled h.world

-- some steps of so many members lead to it
pub record Lawful (n : ℕ) (kinds : List Kind) (w : RunWorld) : Type 0 where
  pub taken : List Turn
  pub shows : Shows (turns kinds (rules_of kinds) (led n) taken).hosted w
