-- One member alone in a run: what the driver has of it and of what all share, and what is of this member alone in the world.
use Rattle.std.specs.Prelude.{◌≡◌, ◌<◌, ℕ, Bool, true, false, List, length, set, Option, Some, None}
use Rattle.cl_base.specs.Disk.{DiskState}
use Rattle.entry_log.specs.Log.{Log}
use Rattle.egress.specs.Streams.{StreamSeen}
use Rattle.consensus_core.specs.Member.{Sent as Packet}
use Rattle.network.specs.Net.{NetSeen, coming, first_of}
use Rattle.sbe_consensus.specs.declared.packet.Outgoing.{Outgoing}
use Rattle.service_api.specs.declared.shipped.Kind.{Kind}
use Rattle.service_runs.specs.Hosts.{longer}
use Rattle.run_world.specs.RunWorld.{RunWorld, Act, all_sent, Passes, Hands, Duty, Asks, Hears, Starts, Stops, Fails, Invalidates, Fuses, Begins, Takes, Closes, Writes, Sends, Cuts, Heals, Loses, Replays, seat}
use Rattle.run_orders.specs.Stands.{AreRecords, IsSeat, RunSeen, SeatSeen}

-- ---- what the driver has of one member

-- the moment in ms, the member, the network, what was sent to clients by stream, and the printed log
pub record OneSeen (D : Type 0) : Type 0 where
  pub now : ℕ
  pub seat : SeatSeen D
  pub net : NetSeen
  pub streams : List StreamSeen
  pub printed : Log

-- the driver, as it is seen with this one of its members
abbrev pub one_of : {D : Type 0} → SeatSeen D → RunSeen D → OneSeen D
one_of y x = record { now = x.now; seat = y; net = x.net; streams = x.streams; printed = x.printed }

-- the driver once member m and what all share are this
abbrev pub with_one : {D : Type 0} → ℕ → OneSeen D → RunSeen D → RunSeen D
with_one m o x = record { now = o.now; seats = set x.seats m o.seat; net = o.net; streams = o.streams; printed = o.printed }

-- what the driver has of member m, once it is this and has sent these packets, and this log is printed where it is longer than what is
abbrev pub one_put : {D : Type 0} → ℕ → SeatSeen D → List Packet → Log → OneSeen D → OneSeen D
one_put m y ps log o = record { now = o.now; seat = y; net = all_sent m ps o.net; streams = o.streams; printed = longer o.printed log }

module _ {D : Type 0} (state : D → DiskState) (kinds : List Kind) where
  -- what the driver has of member m, and of what all share, stands to the world
  pub record StandsFor (m : ℕ) (o : OneSeen D) (w : RunWorld) : Type 0 where
    pub within : m < length w.seats
    pub now : o.now ≡ w.now
    pub seat : IsSeat state kinds o.seat (seat w m)
    pub net : o.net ≡ w.net
    pub records : AreRecords o.streams w.records
    pub printed : o.printed ≡ w.printed

-- ---- what is of one member in the world

-- no member but m is another in the second world
abbrev pub Only : ℕ → RunWorld → RunWorld → Type 0
Only m w v = v.seats ≡ set w.seats m (seat v m)

-- the member that a packet is for
abbrev pub receiver : Option (ℕ × Outgoing) → Option ℕ
receiver None = None
receiver (Some p) = Some p.1.to

-- the member whose act it is; the network's is that of the member whose packet it hands on. The clock's and the links' are no member's
abbrev pub actor : RunWorld → Act → Option ℕ
actor w (Passes now) = None
actor w (Hands f) = receiver (first_of (coming w.net))
actor w (Duty m f) = Some m
actor w (Asks m e fits f) = Some m
actor w (Hears m session) = Some m
actor w (Starts m f) = Some m
actor w (Stops m) = Some m
actor w (Fails m own) = Some m
actor w (Invalidates m f) = Some m
actor w (Fuses m calls choice) = Some m
actor w (Begins m) = Some m
actor w (Takes m k) = Some m
actor w (Closes m) = Some m
actor w (Writes m f) = Some m
actor w (Sends m) = Some m
actor w (Cuts from to) = None
actor w (Heals from to) = None
actor w (Loses from to) = None
actor w (Replays from to latest) = None

-- whether an act may print: a packet's row or a duty's, by which its member may commit more
abbrev pub may_print : Act → Bool
may_print (Hands f) = true
may_print (Duty m f) = true
may_print _ = false
