-- One member as code keeps it, and what a row of it notes.
use Rattle.std.specs.Prelude.{ℕ, ℤ, true, not, ◌&&◌, if◌then◌else◌, List, [], ◌∷◌, Option, Some, None}
use Rattle.entry_log.specs.Durable.{Durable}
use Rattle.entry_log.specs.Log.{Log}
use Rattle.election.specs.declared.member.State.{State}
use Rattle.sbe_consensus.specs.Spelling.{packet_of}
use Rattle.sbe_consensus.specs.declared.packet.Packet.{Packet}
use Rattle.sbe_consensus.specs.declared.packet.Outgoing.{Outgoing}
use Rattle.consensus_core.specs.Fit.{Held}
use Rattle.consensus_core.specs.Member.{Member, Sent, Cut, Whole, Before, After, stopped, is_ready}
use Rattle.consensus_core.specs.declared.change.Change.{Change}
use Rattle.consensus_core.specs.declared.row.Row.{Row}
use Rattle.sbe_events.specs.declared.event.Event.{Event}
use Rattle.consensus_core.specs.Reign.{entry_of}
use Rattle.consensus_core.specs.declared.change.Change.TheVariants as changes
use Rattle.world.specs.World.{Reign, is_elected, holds_at, reigns_at}
use Rattle.world_steps.specs.declared.cut.Cut.{Cut as CodeCut}
use Rattle.world_steps.specs.declared.cut.Cut.TheVariants as cuts

abbrev pub cut_of : CodeCut → Cut
cut_of cuts.Whole = Whole
cut_of cuts.Before = Before
cut_of cuts.After = After

-- a member with this part in the agreement, none where it doesn't run, and this disk
abbrev pub member_of : Option Held → Durable → Member
member_of None d = stopped d
member_of (Some h) d = record { up = true; values = h.values; durable = d }

-- the row that a member's part in the agreement just ran
abbrev pub row_run : Held → Change → Row
row_run h c = record { values = h.values; change = c; plan = h.plan }

-- a whole row that comes to LEADER_INIT begins a reign with this log
abbrev pub reigns_from : ℕ → State → Row → Log → Cut → List Reign
reigns_from m was row log Whole = if not (is_elected was) && is_elected row.values.election.state then record { term = row.values.election.term; member = m; first = log } ∷ [] else []
reigns_from m was row log Before = []
reigns_from m was row log After = []

-- the packets that these bytes spell
abbrev pub with_packet : ℕ → Option Packet → List Sent → List Sent
with_packet to None rest = rest
with_packet to (Some p) rest = record { to = to; packet = p } ∷ rest

abbrev pub read_all : List Outgoing → List Sent
read_all [] = []
read_all (o ∷ os) = with_packet o.to (packet_of o.bytes) (read_all os)

-- the term in which a member reigns
abbrev pub reign_term : Member → Option ℤ
reign_term x = if reigns_at x.values.election.state then Some x.values.election.term else None

-- the term in which it holds its log
abbrev pub held_term : Member → Option ℤ
held_term x = if holds_at x.values.election.state then Some x.values.election.term else None

-- what a client's event changes at a member in this state
abbrev pub change_of_client : State → Event → Change
change_of_client s event = if is_ready s then changes.Append (entry_of event ∷ []) else changes.Nothing
