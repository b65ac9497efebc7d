-- What a call of a member makes of a whole run.
use Rattle.std.specs.Prelude.{◌≡◌, ℕ, List, map, take}
use Rattle.cl_base.specs.Disk.{DiskState}
use Rattle.entry_log.specs.Log.{Log}
use Rattle.sbe_consensus.specs.declared.packet.Outgoing.{Outgoing}
use Rattle.service_api.specs.declared.shipped.Kind.{Kind}
use Rattle.consensus_core.specs.Member.{Sent, spelled_packet}
use Rattle.network.specs.Net.{taken}
use Rattle.run_world.specs.Seat.{Fate}
use Rattle.run_world.specs.RunWorld.{RunWorld, Act, does}
use Rattle.run_orders.specs.Stands.{RunSeen, SeatSeen, Stands, UpSeen, seen_put}

-- what a running member has committed
abbrev pub committed_seen : {D : Type 0} → UpSeen D → Log
committed_seen u = take u.core.values.rest.commit u.disk.kept.log

-- the driver once it took the network's next packet
abbrev pub seen_taken : {D : Type 0} → RunSeen D → RunSeen D
seen_taken x = record { now = x.now; seats = x.seats; net = taken x.net; streams = x.streams; printed = x.printed }

module _ {D : Type 0} (state : D → DiskState) (kinds : List Kind) where
  -- A member became y, these packets went out and this log was printed: by some fate of its disk the act makes of the world what that makes of what the driver has.
  pub record IsTurn (act : Fate → Act) (m : ℕ) (y : SeatSeen D) (log : Log) (out : List Outgoing) (x : RunSeen D) (w : RunWorld) : Type 0 where
    pub fate : Fate
    pub sent : List Sent
    pub spelled : out ≡ map spelled_packet sent
    pub stands : Stands state kinds (seen_put m y sent log x) (does kinds w (act fate))
