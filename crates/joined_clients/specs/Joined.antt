-- A client that joined a run.
use Rattle.std.specs.Prelude.{ℕ, suc, ℤ, pos, negsuc, ◌+◌, ◌^◌, nat_lt, List, [], ◌++◌, drop, fold, if◌then◌else◌, Option, Some, None}
use Rattle.std.specs.List.{cons_option}
use Rattle.wire_prims.specs.declared.fault.Bad.{Bad}
use Rattle.sbe_client.specs.Reading.{first_fault_egress}
use Rattle.sbe_client.specs.declared.egress.Egress.{Egress}
use Rattle.egress.specs.Streams.{value_of}
use Rattle.egress.specs.declared.sent.Sent.{Sent}
use Rattle.cluster_client.specs.declared.answers.ToMember.{ToMember}
use Rattle.cluster_client.specs.declared.runs.Got.{Got}
use Rattle.cluster_client.specs.Seen.{ClientSeen, new_client}
use Rattle.cluster_client.specs.Calls.{step_sends}
use Rattle.cluster_client.specs.Runs.{Event, Steps, Hears, Hears_nothing, Offers, after, got_by}

-- its number, the client, how many records of its stream it was given, and what it was handed
pub record JoinedSeen : Type 0 where
  pub number : ℕ
  pub client : ClientSeen
  pub given : ℕ
  pub handed : List Got

-- the stream on which a client listens: its own number
abbrev pub stream_of : ℕ → ℤ
stream_of n = if nat_lt n (2 ^ 31) then pos n else negsuc 0

-- a client that joins
abbrev pub joins : ℕ → ℕ → JoinedSeen
joins n members = record { number = n; client = new_client (stream_of n) members; given = 0; handed = [] }

-- an event changes the client, and may hand it a message
abbrev pub meets : JoinedSeen → Event → JoinedSeen
meets j e = record { number = j.number; client = after e j.client; given = j.given; handed = j.handed ++ cons_option (got_by e j.client) [] }

-- it keeps what it was handed, if anything
abbrev pub keeps : Option Got → JoinedSeen → JoinedSeen
keeps got j = record { number = j.number; client = j.client; given = j.given; handed = j.handed ++ cons_option got [] }

abbrev pub event_unless : Option Bad → Egress → Event
event_unless None m = Hears m
event_unless (Some bad) m = Hears_nothing

-- what a record is to a client: the message that its bytes read as, or bytes that are none
abbrev pub event_of : Sent → Event
event_of s = event_unless (first_fault_egress s.bytes) (value_of s.bytes)

-- it takes one record of its stream
abbrev pub takes : JoinedSeen → Sent → JoinedSeen
takes j s = meets j (event_of s)

abbrev pub counted : ℕ → JoinedSeen → JoinedSeen
counted n j = record { number = j.number; client = j.client; given = n; handed = j.handed }

-- it takes a record, and counts it
abbrev pub takes_next : JoinedSeen → Sent → JoinedSeen
takes_next j s = counted (j.given + 1) (takes j s)

-- it takes the records of its stream that it wasn't given yet, in order
abbrev pub hears : List Sent → JoinedSeen → JoinedSeen
hears stream j = fold takes_next j (drop j.given stream)

-- its turn: it takes those records, and makes a step
abbrev pub turned : List Sent → ℕ → JoinedSeen → JoinedSeen
turned stream now j = meets (hears stream j) (Steps now)

-- and what it sends in it
abbrev pub turn_sends : List Sent → ℕ → JoinedSeen → Option ToMember
turn_sends stream now j = step_sends now (hears stream j).client

-- it offers a payload
abbrev pub offers : List ℕ → ℕ → JoinedSeen → JoinedSeen
offers payload now j = meets j (Offers now payload)
