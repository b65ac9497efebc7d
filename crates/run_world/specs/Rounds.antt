-- A round of a run, and the phases in it, as what they may make of a world.
use Rattle.std.specs.Prelude.{◌≡◌, ℕ, zero, suc, ◌+◌, Bool, true, false, List, length, map, Option, Some, None, if◌then◌else◌}
use Rattle.sbe_consensus.specs.declared.packet.Outgoing.{Outgoing}
use Rattle.service_api.specs.declared.shipped.Kind.{Kind}
use Rattle.network.specs.Net.{coming, first_of}
use Rattle.run_world.specs.Seat.{Fate, is_resting}
use Rattle.run_world.specs.RunWorld.{RunWorld, Act, Passes, Hands, Duty, Begins, Takes, Closes, Writes, Sends, Fails, seat, does, after_acts}

-- the network hands on so many packets
abbrev pub Handed : List Kind → ℕ → RunWorld → RunWorld → Type 0
Handed kinds zero w v = v ≡ w
Handed kinds (suc i) w v = (u : RunWorld) × (p : ℕ × Outgoing) × (f : Fate) × Handed kinds i w u × (first_of (coming u.net) ≡ Some p) × (v ≡ does kinds u (Hands f))

-- every packet that is in flight is taken; those sent from here on are in flight for the next round
pub record AllHanded (kinds : List Kind) (w v : RunWorld) : Type 0 where
  pub count : ℕ
  pub last : RunWorld
  pub handed : Handed kinds count w last
  pub none : first_of (coming last.net) ≡ None
  pub fate : Fate
  pub over : v ≡ does kinds last (Hands fate)

-- the first so many members have had a duty
abbrev pub OnDuty : List Kind → ℕ → RunWorld → RunWorld → Type 0
OnDuty kinds zero w v = v ≡ w
OnDuty kinds (suc m) w v = (u : RunWorld) × (f : Fate) × OnDuty kinds m w u × (v ≡ does kinds u (Duty m f))

-- in a phase of member m its services consume entries, in any order of these
abbrev pub consume : ℕ → List ℕ → List Act
consume m services = map (λ k. Takes m k) services

abbrev pub put_all : ℕ → List Fate → List Act
put_all m fates = map (λ f. Writes m f) fates

-- its end: the snapshot entries are put and the records sent, or its disk fails as it is read
abbrev pub phase_over : List Kind → ℕ → List Fate → Option ℕ → RunWorld → RunWorld
phase_over kinds m fates None w = does kinds (after_acts kinds (does kinds w (Closes m)) (put_all m fates)) (Sends m)
phase_over kinds m fates (Some own) w = does kinds w (Fails m own)

-- a whole phase of member m, after which none goes on
pub record Phased (kinds : List Kind) (m : ℕ) (w v : RunWorld) : Type 0 where
  pub services : List ℕ
  pub fates : List Fate
  pub fails : Option ℕ
  pub ends : v ≡ phase_over kinds m fates fails (after_acts kinds (does kinds w (Begins m)) (consume m services))
  pub rests : is_resting (seat v m).phase ≡ true

-- the first so many members have had a phase
abbrev pub AllPhased : List Kind → ℕ → RunWorld → RunWorld → Type 0
AllPhased kinds zero w v = v ≡ w
AllPhased kinds (suc m) w v = (u : RunWorld) × AllPhased kinds m w u × Phased kinds m u v

-- a round: 10 ms pass, the packets in flight are taken, each member has a duty, and then a phase unless the round is quiet
pub record Round (kinds : List Kind) (quiet : Bool) (w v : RunWorld) : Type 0 where
  pub handed : RunWorld
  pub packets : AllHanded kinds (does kinds w (Passes (w.now + 10))) handed
  pub served : RunWorld
  pub duties : OnDuty kinds (length w.seats) handed served
  pub phases : AllPhased kinds (if quiet then 0 else length w.seats) served v

-- so many rounds
abbrev pub Rounds : List Kind → Bool → ℕ → RunWorld → RunWorld → Type 0
Rounds kinds quiet zero w v = v ≡ w
Rounds kinds quiet (suc i) w v = (u : RunWorld) × Rounds kinds quiet i w u × Round kinds quiet u v
