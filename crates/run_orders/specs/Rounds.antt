-- A round of a run, as what it may make of a world.
use Rattle.std.specs.Prelude.{◌≡◌, ◌⊎◌, ℕ, zero, suc, ◌+◌, ℤ, Bool, List, length, Some, None, if◌then◌else◌}
use Rattle.sbe_consensus.specs.declared.packet.Outgoing.{Outgoing}
use Rattle.sbe_events.specs.declared.event.Event.{Event}
use Rattle.service_api.specs.declared.shipped.Kind.{Kind}
use Rattle.module_state.specs.Entries.{IsSpellable}
use Rattle.network.specs.Net.{coming, first_of}
use Rattle.run_world.specs.Seat.{Fate}
use Rattle.run_world.specs.RunWorld.{RunWorld, Passes, Hands, Duty, Asks, Hears, Fails, does}
use Rattle.run_world.specs.Rounds.{AllPhased}
use Rattle.run_orders.specs.Phases.{Beside, Called}

-- a client's message, or an operator's action, at member m: it is refused, or adds an event that may be asked, or is a keep-alive
abbrev pub Asked : List Kind → Bool → ℕ → RunWorld → RunWorld → Type 0
Asked kinds free m w v =
    Beside kinds free w v
    ⊎ (((e : Event) × (fits : IsSpellable e) × (f : Fate) × Called kinds free (Asks m e fits f) w v)
    ⊎ ((session : ℤ) × Called kinds free (Hears m session) w v))

-- the network hands on so many packets
abbrev pub Handed : List Kind → Bool → ℕ → RunWorld → RunWorld → Type 0
Handed kinds free zero w v = v ≡ w
Handed kinds free (suc i) w v = (u : RunWorld) × (p : ℕ × Outgoing) × (f : Fate) × Handed kinds free i w u × (first_of (coming u.net) ≡ Some p) × Called kinds free (Hands f) u v

-- every packet that is in flight is taken, in order of sending; those sent from here on are in flight for the next round
pub record AllHanded (kinds : List Kind) (free : Bool) (w v : RunWorld) : Type 0 where
  pub count : ℕ
  pub last : RunWorld
  pub handed : Handed kinds free count w last
  pub none : first_of (coming last.net) ≡ None
  pub fate : Fate
  pub over : v ≡ does kinds last (Hands fate)

-- a backup's query is answered, or there is none: nothing changes, but that a disk may fail as it is read
abbrev pub Answered : List Kind → Bool → RunWorld → RunWorld → Type 0
Answered kinds free w v = Beside kinds free w v ⊎ ((m : ℕ) × (own : ℕ) × Called kinds free (Fails m own) w v)

-- so many clients that joined have made a step, each of which may send a message to some member
abbrev pub AllJoined : List Kind → Bool → ℕ → RunWorld → RunWorld → Type 0
AllJoined kinds free zero w v = v ≡ w
AllJoined kinds free (suc i) w v = (u : RunWorld) × (m : ℕ) × AllJoined kinds free i w u × Asked kinds free m u v

-- the first so many members have had a duty
abbrev pub OnDuty : List Kind → Bool → ℕ → RunWorld → RunWorld → Type 0
OnDuty kinds free zero w v = v ≡ w
OnDuty kinds free (suc m) w v = (u : RunWorld) × (f : Fate) × OnDuty kinds free m w u × Called kinds free (Duty m f) u v

-- how many of so many members have a phase in a round: none in a quiet one, nor while phases go on over orders
abbrev pub phases_in : Bool → Bool → ℕ → ℕ
phases_in quiet free n = if quiet then 0 else if free then 0 else n

-- a round with so many clients that joined: 10 ms pass, the clients make their steps, the packets in flight are taken, and the backup's query behind them; each member has a duty, and then a phase
pub record Round (kinds : List Kind) (quiet free : Bool) (joined : ℕ) (w v : RunWorld) : Type 0 where
  pub asked : RunWorld
  pub clients : AllJoined kinds free joined (does kinds w (Passes (w.now + 10))) asked
  pub handed : RunWorld
  pub packets : AllHanded kinds free asked handed
  pub answered : RunWorld
  pub backup : Answered kinds free handed answered
  pub served : RunWorld
  pub duties : OnDuty kinds free (length w.seats) answered served
  pub phases : AllPhased kinds (phases_in quiet free (length w.seats)) served v

-- so many rounds
abbrev pub Rounds : List Kind → Bool → Bool → ℕ → ℕ → RunWorld → RunWorld → Type 0
Rounds kinds quiet free joined zero w v = v ≡ w
Rounds kinds quiet free joined (suc i) w v = (u : RunWorld) × Rounds kinds quiet free joined i w u × Round kinds quiet free joined u v
