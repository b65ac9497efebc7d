-- The world of a run: its members with their disks, the network between them, what was sent to clients, the printed log and the clock; and what each act makes of it.
use Rattle.std.specs.Prelude.{ℕ, ◌^◌, ℤ, pos, Bool, true, false, ◌&&◌, not, nat_lt, nat_le, if◌then◌else◌, List, [], ◌∷◌, ◌++◌, length, set, take, drop, replicate, slice_index_or, Option, Some, None}
use Rattle.std.specs.Ordering.{int_eq}
use Rattle.cl_base.specs.declared.disk.Choice.{Choice}
use Rattle.entry_log.specs.Log.{Log, place}
use Rattle.sbe_events.specs.Spelling.{term_of}
use Rattle.sbe_events.specs.declared.event.Event.{Event}
use Rattle.sbe_consensus.specs.declared.packet.Packet.{Packet}
use Rattle.sbe_consensus.specs.declared.packet.Outgoing.{Outgoing}
use Rattle.sbe_consensus.specs.Spelling.{packet_of}
use Rattle.service_api.specs.declared.shipped.Kind.{Kind}
use Rattle.consensus_core.specs.declared.row.Row.{Row}
use Rattle.consensus_core.specs.Member.{Member, Sent, spelled_packet, sent_by, row_of_packet, row_of_duty, row_of_client, may_take}
use Rattle.module_state.specs.Entries.{events_in, IsSpellable}
use Rattle.module_state.specs.Logs.{due_in}
use Rattle.module_state.specs.Module.{Module, tentative}
use Rattle.module_state.specs.Places.{entry_of, stamp_of}
use Rattle.module_state.specs.Services.{module_of}
use Rattle.member_module.specs.Held.{heard}
use Rattle.network.specs.Net.{NetSeen, quiet_net, sent, taken, coming, first_of, with_link_cut, lost_between, replayed}
use Rattle.service_runs.specs.Hosts.{Rules, Output, longer, all_reach, sent_in}
use Rattle.one_log.specs.Led.{admits, has_room}
use Rattle.one_log.specs.Ruled.{rules_of}
use Rattle.run_world.specs.Seat.{Seat, Fate, Phase, Rests, Goes, Ends, first_seat, acted, started, rested, struck, fused, is_resting, is_going, lets_calls, opened, fed, closed, written, sent as at_its_end}

-- the moment in ms; the members by rising number; the packets in flight and the links; the records that were sent and have an entry, in order; and the printed log
pub record RunWorld : Type 0 where
  pub now : ℕ
  pub seats : List Seat
  pub net : NetSeen
  pub records : List Output
  pub printed : Log

-- so many members on formatted disks, before their first start
abbrev pub first_world : ℕ → RunWorld
first_world n = record { now = 0; seats = replicate n first_seat; net = quiet_net n; records = []; printed = [] }

abbrev pub seat : RunWorld → ℕ → Seat
seat w m = slice_index_or w.seats m first_seat

-- the member is there and runs, or is there and stopped
abbrev pub is_up : RunWorld → ℕ → Bool
is_up w m = nat_lt m (length w.seats) && (seat w m).member.up

abbrev pub is_down : RunWorld → ℕ → Bool
is_down w m = nat_lt m (length w.seats) && not (seat w m).member.up

-- the member runs, and its phase lets its calls through
abbrev pub is_free : RunWorld → ℕ → Bool
is_free w m = is_up w m && lets_calls (seat w m).phase

-- packets of a member, in order
abbrev pub all_sent : ℕ → List Sent → NetSeen → NetSeen
all_sent from [] n = n
all_sent from (s ∷ ss) n = all_sent from ss (sent from (spelled_packet s) n)

-- what a member has committed
abbrev pub committed : Member → Log
committed x = take x.values.rest.commit x.durable.log

-- member m becomes this, and sends these packets; what it has committed is printed
abbrev pub put : ℕ → Seat → List Sent → RunWorld → RunWorld
put m s ps w = record { now = w.now; seats = set w.seats m s; net = all_sent m ps w.net; records = w.records; printed = longer w.printed (committed s.member) }

-- a row of a running member
abbrev pub row_at : ℕ → Row → Fate → RunWorld → RunWorld
row_at m row f w = put m (acted row w.now f (seat w m)) (sent_by row f.cut (seat w m).member) w

-- the events that a member's module applied, and those of its log past them
abbrev pub applied_events : Seat → List Event
applied_events s = events_in (take s.applied s.member.durable.log)

abbrev pub ahead_events : Seat → List Event
ahead_events s = events_in (drop s.applied s.member.durable.log)

-- what is due at a member
abbrev pub due_at : List Kind → Seat → ℕ → List Event
due_at kinds s now = due_in kinds (applied_events s) (ahead_events s) s.alive s.member.values.election.term now s.since

-- its module at its log's end
abbrev pub view_at : List Kind → Seat → Module
view_at kinds s = tentative (module_of kinds (applied_events s)) (ahead_events s)

-- an event that a client or an operator may ask of it: of its term, stamped now, admitted at its log's end, where there is room
abbrev pub may_ask : List Kind → Seat → ℕ → Event → Bool
may_ask kinds s now e =
    int_eq (stamp_of e) (pos now)
    && (int_eq (term_of e) s.member.values.election.term && (admits (view_at kinds s) (place s.member.durable.log) e && has_room s.member.durable.log (entry_of e ∷ [])))

-- ---- what happens

pub data Act : Type 0 where
  Passes : (now : ℕ) → Act  -- time, to at most 2^60 ms
  Hands : Fate → Act  -- the network hands on its next packet
  Duty : (member : ℕ) → Fate → Act
  Asks : (member : ℕ) → (event : Event) → IsSpellable event → Fate → Act  -- a client's message, or an operator's action, adds an event
  Hears : (member : ℕ) → (session : ℤ) → Act  -- a client's keep-alive
  Starts : (member : ℕ) → Fate → Act
  Stops : (member : ℕ) → Act
  Fails : (member own : ℕ) → Act  -- its disk failed as it was read, so often by now
  Invalidates : (member : ℕ) → Fate → Act
  Fuses : (member calls : ℕ) → Choice → Act
  Begins : (member : ℕ) → Act  -- a phase
  Takes : (member service : ℕ) → Act  -- in it a service consumes an entry, whichever thread runs
  Closes : (member : ℕ) → Act  -- its end begins, each service having consumed all that is committed
  Writes : (member : ℕ) → Fate → Act  -- its next snapshot entry is put
  Sends : (member : ℕ) → Act  -- and at last its records are sent
  Cuts : (from to : ℕ) → Act
  Heals : (from to : ℕ) → Act
  Loses : (from to : ℕ) → Act
  Replays : (from to latest : ℕ) → Act  -- the packet that was sent so many packets ago, 1 being the latest

abbrev pub hears : ℤ → ℕ → Seat → Seat
hears session now s = record s { alive = heard session now s.alive }

abbrev pub passes : ℕ → RunWorld → RunWorld
passes now w = record { now = (if nat_le now (2 ^ 60) && nat_lt w.now now then now else w.now); seats = w.seats; net = w.net; records = w.records; printed = w.printed }

abbrev pub with_net : NetSeen → RunWorld → RunWorld
with_net n w = record { now = w.now; seats = w.seats; net = n; records = w.records; printed = w.printed }

-- bytes that are no packet change nothing
abbrev pub takes_packet : ℕ → Option Packet → Fate → RunWorld → RunWorld
takes_packet m None f w = w
takes_packet m (Some p) f w = if is_free w m then row_at m (row_of_packet (seat w m).member p w.now) f w else w

-- to a stopped member it is lost
abbrev pub handed : Option (ℕ × Outgoing) → Fate → RunWorld → RunWorld
handed None f w = w
handed (Some p) f w = takes_packet p.1.to (packet_of p.1.bytes) f w

-- where each service consumed all that its member has committed
abbrev pub closes : Rules → ℕ → Phase → RunWorld → RunWorld
closes r m (Goes role over) w = if all_reach (seat w m).member.values.rest.commit (seat w m).run.inputs then put m (closed r role (seat w m)) [] w else w
closes r m _ w = w

abbrev pub writes : ℕ → Phase → Fate → RunWorld → RunWorld
writes m (Ends role upto (d ∷ due)) f w = put m (written role upto d due f (seat w m)) [] w
writes m _ f w = w

abbrev pub with_records : List Output → RunWorld → RunWorld
with_records os w = record w { records = w.records ++ os }

-- what the entries that the phase applied owe, of the term in which the member led as it began
abbrev pub sends : Rules → ℕ → Phase → RunWorld → RunWorld
sends r m (Ends role upto []) w = with_records (sent_in r m role (seat w m).member.durable.log (seat w m).applied upto) (put m (at_its_end upto (seat w m)) [] w)
sends r m _ w = w

-- one act; where it can't be it changes nothing
abbrev pub does : List Kind → RunWorld → Act → RunWorld
does kinds w (Passes now) = passes now w
does kinds w (Hands f) = handed (first_of (coming w.net)) f (with_net (taken w.net) w)
does kinds w (Duty m f) = if is_free w m then row_at m (row_of_duty (seat w m).member (due_at kinds (seat w m) w.now) w.now) f w else w
does kinds w (Asks m e fits f) = if is_free w m && may_ask kinds (seat w m) w.now e then row_at m (row_of_client (seat w m).member e) f w else w
does kinds w (Hears m session) = if nat_lt m (length w.seats) then put m (hears session w.now (seat w m)) [] w else w
does kinds w (Starts m f) = if is_down w m then put m (started m (length w.seats) (length kinds) f f.cut (seat w m)) [] w else w
does kinds w (Stops m) = if is_up w m then put m (rested (seat w m).faults.own (seat w m)) [] w else w
does kinds w (Fails m own) = if is_up w m then put m (rested own (seat w m)) [] w else w
does kinds w (Invalidates m f) = if is_down w m then put m (struck (length kinds) f f.cut (seat w m)) [] w else w
does kinds w (Fuses m calls choice) = if nat_lt m (length w.seats) then put m (fused calls choice (seat w m)) [] w else w
does kinds w (Begins m) = if is_up w m && is_resting (seat w m).phase then put m (opened (seat w m)) [] w else w
does kinds w (Takes m k) = if is_up w m && (is_going (seat w m).phase && (nat_lt k (length kinds) && may_take (seat w m).member (seat w m).run k)) then put m (fed k (seat w m)) [] w else w
does kinds w (Closes m) = if is_up w m then closes (rules_of kinds) m (seat w m).phase w else w
does kinds w (Writes m f) = if is_up w m then writes m (seat w m).phase f w else w
does kinds w (Sends m) = if is_up w m then sends (rules_of kinds) m (seat w m).phase w else w
does kinds w (Cuts from to) = with_net (with_link_cut true from to w.net) w
does kinds w (Heals from to) = with_net (with_link_cut false from to w.net) w
does kinds w (Loses from to) = with_net (lost_between from to w.net) w
does kinds w (Replays from to latest) = if nat_lt to (length w.seats) then with_net (replayed from to latest w.net) w else w

-- all of them, in order
abbrev pub after_acts : List Kind → RunWorld → List Act → RunWorld
after_acts kinds w [] = w
after_acts kinds w (a ∷ as') = after_acts kinds (does kinds w a) as'
