-- What an order of a client, or an action, makes of a member in the world of a run.
use Rattle.std.specs.Prelude.{◌≡◌, ◌⊎◌, ℕ, true, false, List, []}
use Rattle.cl_base.specs.Disk.{DiskState}
use Rattle.sbe_events.specs.declared.event.Event.{Event}
use Rattle.service_api.specs.declared.shipped.Kind.{Kind}
use Rattle.ingress.specs.declared.decision.Decided.{Decided}
use Rattle.ingress.specs.declared.decision.Decided.TheVariants as decisions
use Rattle.module_state.specs.Entries.{IsSpellable}
use Rattle.consensus_core.specs.Member.{Whole, Before, After, row_of_client}
use Rattle.service_runs.specs.Hosts.{longer}
use Rattle.run_world.specs.Seat.{Seat, Fate, acted}
use Rattle.run_world.specs.RunWorld.{RunWorld, committed, hears, may_ask, put}
use Rattle.run_orders.specs.Rounds.{Asked}
use Rattle.run_orders.specs.Stands.{IsSeat, SeatSeen}

module _ {D : Type 0} (state : D → DiskState) (kinds : List Kind) where
  -- an event that may be asked was appended: what the driver has then is the member after its row
  pub record Accepts (now : ℕ) (s : Seat) (e : Event) (y : SeatSeen D) : Type 0 where
    pub may : may_ask kinds s now e ≡ true
    pub fits : IsSpellable e
    pub fate : Fate
    pub cut : fate.cut ≡ Whole
    pub seat : IsSeat state kinds y (acted (row_of_client s.member e) now fate s)

  -- the same, but that the disk failed at it: before the change or after it
  pub record Falls (now : ℕ) (s : Seat) (e : Event) (y : SeatSeen D) : Type 0 where
    pub may : may_ask kinds s now e ≡ true
    pub fits : IsSpellable e
    pub fate : Fate
    pub cut : (fate.cut ≡ Before) ⊎ (fate.cut ≡ After)
    pub seat : IsSeat state kinds y (acted (row_of_client s.member e) now fate s)

  -- what was decided on is done: nothing, a keep-alive, or an event more
  abbrev pub Makes : Decided → ℕ → Seat → SeatSeen D → Type 0
  Makes (decisions.Refuse refusal) now s y = IsSeat state kinds y s
  Makes (decisions.Alive session) now s y = IsSeat state kinds y (hears session now s)
  Makes (decisions.Append e) now s y = Accepts now s e y

  -- of member m of a world that is an act, or nothing, and nothing is printed
  pub record MakesOne (m : ℕ) (w : RunWorld) (y : SeatSeen D) : Type 0 where
    pub becomes : Seat
    pub asked : Asked kinds false m w (put m becomes [] w)
    pub seat : IsSeat state kinds y becomes
    pub prints : longer w.printed (committed becomes.member) ≡ w.printed
