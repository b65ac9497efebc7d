-- What a call makes of a member's place in a run.
use Rattle.std.specs.Prelude.{◌≡◌, ◌⊎◌, ℕ, Bool, List, map, ◌++◌}
use Rattle.cl_base.specs.Disk.{DiskState}
use Rattle.cl_base.specs.declared.disk.Choice.{Choice}
use Rattle.cl_base.specs.declared.disk.Choice.TheVariants.{Keep}
use Rattle.sbe_consensus.specs.declared.packet.Outgoing.{Outgoing}
use Rattle.service_api.specs.declared.shipped.Kind.{Kind}
use Rattle.service_container.specs.Held.{Held as ContainerHeld}
use Rattle.consensus_core.specs.declared.row.Row.{Row}
use Rattle.consensus_core.specs.Member.{Whole, Before, After, sent_by, spelled_packet}
use Rattle.run_world.specs.Seat.{Seat, Fate, acted}
use Rattle.run_orders.specs.Stands.{EndedSeen, Up, Down, SeatSeen, UpSeen, IsSeat, containers_of}

-- a member that runs, in a phase that goes on or between two
abbrev pub running_seat : {D : Type 0} → Choice → List EndedSeen → UpSeen D → Bool → SeatSeen D
running_seat choice ended u going = record { home = Up u going; choice = choice; ended = ended }

-- what the services of a run that ends consumed since it began
abbrev pub run_ended : {D : Type 0} → UpSeen D → Bool → List EndedSeen
run_ended u going = map (λ (c : ContainerHeld). record { from = u.base; inputs = c.inputs }) (containers_of going u.lending)

-- the member stopped, and this disk is left
abbrev pub stopped_seat : {D : Type 0} → List EndedSeen → UpSeen D → Bool → D → SeatSeen D
stopped_seat ended u going disk = record { home = Down disk; choice = Keep; ended = ended ++ run_ended u going }

module _ {D : Type 0} (state : D → DiskState) (kinds : List Kind) where
  -- a row that was done: by some fate that cuts nothing its place stands to the seat after the row, and the row's packets are sent
  pub record ActedWhole (row : Row) (now : ℕ) (s : Seat) (out : List Outgoing) (x : SeatSeen D) : Type 0 where
    pub fate : Fate
    pub cut : fate.cut ≡ Whole
    pub seat : IsSeat state kinds x (acted row now fate s)
    pub sent : out ≡ map spelled_packet (sent_by row Whole s.member)

  -- a row that a fault cut, before its change or after it: by some such fate its place stands to the seat after the row
  pub record ActedCut (row : Row) (now : ℕ) (s : Seat) (x : SeatSeen D) : Type 0 where
    pub fate : Fate
    pub cut : (fate.cut ≡ Before) ⊎ (fate.cut ≡ After)
    pub seat : IsSeat state kinds x (acted row now fate s)
