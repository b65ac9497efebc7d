-- One member: what it is at a moment, and what a row makes of it.
use Rattle.std.specs.Prelude.{ℕ, ℤ, pos, negsuc, Bool, true, false, ◌&&◌, List, [], ◌∷◌, ◌++◌, length, map, replicate, set, take, drop, slice_index_or, nat_lt, if◌then◌else◌, Option, Some, None}
use Rattle.cl_base.specs.declared.entry.Entry.{Entry}
use Rattle.entry_log.specs.Log.{Log}
use Rattle.entry_log.specs.Shape.{Shape, shape_of}
use Rattle.entry_log.specs.Durable.{Durable, SnapshotEntry, first_commit, put_in, invalidated}
use Rattle.election.specs.declared.member.State.{State}
use Rattle.election.specs.declared.member.State.TheVariants.{LeaderReady, Closed}
use Rattle.sbe_events.specs.declared.event.Event.{Event}
use Rattle.sbe_consensus.specs.Spelling.{spelling_of}
use Rattle.sbe_consensus.specs.declared.packet.Outgoing.{Outgoing}
use Rattle.sbe_consensus.specs.declared.packet.Packet.{Packet}
use Rattle.consensus_core.specs.declared.change.Change.{Change}
use Rattle.consensus_core.specs.declared.change.Change.TheVariants as changes
use Rattle.consensus_core.specs.declared.plan.Plan.{Plan}
use Rattle.consensus_core.specs.declared.plan.Plan.TheVariants as plans
use Rattle.consensus_core.specs.declared.row.Row.{Row}
use Rattle.consensus_core.specs.declared.sends.Send.{Send}
use Rattle.consensus_core.specs.declared.sends.Send.TheVariants.{Says, Hands}
use Rattle.consensus_core.specs.declared.values.Values.{Values}
use Rattle.consensus_core.specs.Rows.{outcome, nothing}
use Rattle.consensus_core.specs.Reign.{entry_of, does_duty}
use Rattle.consensus_core.specs.Sendable.{receives}
use Rattle.consensus_core.specs.Sends.{packet_of, batch_of, sends_of}
use Rattle.consensus_core.specs.Fit.{started}

-- ---- what a member is

-- whether it runs, what it knows besides its disk, and what its disk keeps
pub record Member : Type 0 where
  pub up : Bool
  pub values : Values
  pub durable : Durable

-- what its services have taken since it started, the entries of the set that they began with included
pub record Run : Type 0 where
  pub first : ℕ  -- the entries of that set, 0 without one
  pub inputs : List Log  -- of each service

-- what a member knows that doesn't run
abbrev pub no_values : Values
no_values = record {
  election = record { id = 0; members = 0; candidate = negsuc 0; voted = None; state = Closed; term = negsuc 0; leader = None; deadline = 0; next = 0; heard = replicate 5 None; votes = replicate 5 false };
  rest = record { commit = 0; own_end = 0; acked = replicate 5 None; last_heard = replicate 5 0 };
}

-- a member that doesn't run is what its disk keeps
abbrev pub stopped : Durable → Member
stopped d = record { up = false; values = no_values; durable = d }

-- ---- its log and its disk after a row's change

abbrev pub changed_log : Change → Log → Log
changed_log changes.Nothing log = log
changed_log (changes.Raise term voted) log = log
changed_log (changes.Append entries) log = log ++ entries
changed_log (changes.Cut n) log = take n log

abbrev pub changed : Change → Durable → Durable
changed changes.Nothing d = d
changed (changes.Raise term voted) d = record d { candidate = term; voted = voted }
changed (changes.Append entries) d = record d { log = d.log ++ entries }
changed (changes.Cut n) d = record d { log = take n d.log }

-- ---- what a row sends

-- a packet, to a member
pub record Sent : Type 0 where
  pub to : ℕ
  pub packet : Packet

-- the packets of what is sent, by a member with these values whose log is now this one
abbrev pub said : List Send → Values → Log → List Sent
said [] v log = []
said (Says to w ∷ ss) v log = record { to = to; packet = packet_of w v (shape_of log) } ∷ said ss v log
said (Hands to start from count ∷ ss) v log = record { to = to; packet = batch_of v start (take count (drop from log)) } ∷ said ss v log

-- all that a plan says
abbrev pub speaks : Plan → Values → Log → List Sent
speaks plan v log = said (sends_of plan v (shape_of log)) v log

-- a packet, spelled
abbrev pub spelled_packet : Sent → Outgoing
spelled_packet s = record { to = s.to; bytes = spelling_of s.packet }

-- the entries of these ranges, each of a first entry and a number of entries, one range after the other
abbrev pub entries_in : List (ℕ × ℕ) → Log → Log
entries_in [] log = []
entries_in (r ∷ rs) log = take r.1 (drop r.0 log) ++ entries_in rs log

-- ---- a row of a member that runs

-- whether a stop cuts the row, before its change of the disk or after it
pub data Cut : Type 0 where
  Whole : Cut
  Before : Cut
  After : Cut

-- the member after the row
abbrev pub after : Row → Cut → Member → Member
after row Whole x = record { up = true; values = row.values; durable = changed row.change x.durable }
after row Before x = stopped x.durable
after row After x = stopped (changed row.change x.durable)

-- what the row sends: all, once its change is on the disk, or nothing where a stop cuts it
abbrev pub sent_by : Row → Cut → Member → List Sent
sent_by row Whole x = speaks row.plan row.values (changed_log row.change x.durable.log)
sent_by row Before x = []
sent_by row After x = []

-- the row of a packet: P6, P7, P11 to P14, P16, P17
abbrev pub row_of_packet : Member → Packet → ℕ → Row
row_of_packet x p now = receives x.values (shape_of x.durable.log) p now

-- the row of a duty, with the due events: P2 to P5, P8 to P10, P15, P18
abbrev pub row_of_duty : Member → List Event → ℕ → Row
row_of_duty x due now = does_duty x.values (shape_of x.durable.log) due now

abbrev pub is_ready : State → Bool
is_ready LeaderReady = true
is_ready _ = false

-- P19: a leader appends the event of a client's message or of an action, and sends nothing
abbrev pub row_of_client : Member → Event → Row
row_of_client x event =
    if is_ready x.values.election.state
    then outcome x.values.election x.values.rest (changes.Append (entry_of event ∷ [])) plans.Silence
    else nothing x.values.election x.values.rest

-- ---- its starts and stops

-- P1, of a member with so many services
abbrev pub starts : ℕ → ℕ → ℕ → Durable → Member
starts id members services d = record { up = true; values = (started id members d.candidate d.voted (first_commit services d)).values; durable = d }

-- P20: an image of the disk is left
abbrev pub stops : Member → Member
stops x = stopped x.durable

-- a snapshot entry is put, which a stop may cut
abbrev pub snapped : List SnapshotEntry → Durable → Durable
snapped entries d = record d { snapshots = entries }

abbrev pub puts : SnapshotEntry → Cut → Member → Member
puts entry Whole x = record x { durable = snapped (put_in entry x.durable.snapshots) x.durable }
puts entry Before x = stopped x.durable
puts entry After x = stopped (snapped (put_in entry x.durable.snapshots) x.durable)

-- P22, of a member that doesn't run
abbrev pub invalidates : ℕ → Member → Member
invalidates services x = stopped (snapped (invalidated services x.durable.snapshots) x.durable)

-- ---- its services

-- P1's part: each service begins with the entries that the latest valid set stands for
abbrev pub begins_run : ℕ → Durable → Run
begins_run services d = record { first = first_commit services d; inputs = replicate services (take (first_commit services d) d.log) }

abbrev pub input_of : Run → ℕ → Log
input_of run service = slice_index_or run.inputs service []

-- with the log's next entry
abbrev pub with_next : Log → Log → Log
with_next xs log = xs ++ take 1 (drop (length xs) log)

-- P21: a service takes one entry below its member's commit, the next one of the member's log
abbrev pub may_take : Member → Run → ℕ → Bool
may_take x run service = x.up && (nat_lt service (length run.inputs) && nat_lt (length (input_of run service)) x.values.rest.commit)

abbrev pub service_takes : Member → ℕ → Run → Run
service_takes x service run = record run { inputs = set run.inputs service (with_next (input_of run service) x.durable.log) }
