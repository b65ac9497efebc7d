-- What a row makes of a member's module and of its phase.
use Rattle.std.specs.Prelude.{◌≡◌, ℕ, ◌-◌, Bool, ◌&&◌, ◌||◌, not, if◌then◌else◌, List, [], ◌++◌, take}
use Rattle.entry_log.specs.Log.{Log}
use Rattle.sbe_events.specs.declared.event.Event.{Event}
use Rattle.module_state.specs.Entries.{events_in}
use Rattle.member_module.specs.Held.{Held as ModuleHeld}
use Rattle.consensus_core.specs.declared.change.Change.{Change}
use Rattle.consensus_core.specs.declared.change.Change.TheVariants as changes
use Rattle.consensus_core.specs.declared.row.Row.{Row}
use Rattle.consensus_core.specs.declared.values.Values.{Values}
use Rattle.consensus_core.specs.Member.{is_ready}
use Rattle.consensus_agent.specs.Sound.{ends_phase}

-- the entries past the first so many, after a change of the log
abbrev pub ahead_after : Change → ℕ → Log → Log
ahead_after (changes.Append entries) first xs = xs ++ entries
ahead_after (changes.Cut n) first xs = take (n - first) xs
ahead_after _ first xs = xs

-- and their events
abbrev pub events_after : Change → ℕ → List Event → List Event
events_after (changes.Append entries) first es = es ++ events_in entries
events_after (changes.Cut n) first es = take (n - first) es
events_after _ first es = es

-- a reign begins: who was not ready to lead is
abbrev pub begins_reign : Bool → Bool → Bool
begins_reign was ready = ready && not was

-- the module has what the change left of the log ahead, and in a reign that begins no keep-alives yet
pub record HasTaken (change : Change) (begins : Bool) (now : ℕ) (a b : ModuleHeld) : Type 0 where
  pub state : b.state ≡ a.state
  pub consumed : b.consumed ≡ a.consumed
  pub entries : b.ahead.entries ≡ ahead_after change a.consumed a.ahead.entries
  pub events : b.ahead.events ≡ events_after change a.consumed a.ahead.events
  pub coming : b.coming ≡ a.coming
  pub alive : b.alive ≡ (if begins then [] else a.alive)
  pub since : b.since ≡ (if begins then now else a.since)

-- a change of a member that was ready to lead or was not, and has these values now: its module took it, and its phase is over where it was or where the change ends it
pub record IsTaken (change : Change) (was : Bool) (v : Values) (now : ℕ) (m n : ModuleHeld) (before over : Bool) : Type 0 where
  pub taken : HasTaken change (begins_reign was (is_ready v.election.state)) now m n
  pub phase : over ≡ (before || ends_phase was change v.election.state)

-- the row of a member with these values was taken so
abbrev pub RowTaken : Row → Values → ℕ → ModuleHeld → ModuleHeld → Bool → Bool → Type 0
RowTaken row v now m n before over = IsTaken row.change (is_ready v.election.state) row.values now m n before over
