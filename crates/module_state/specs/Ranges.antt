-- The ranges of a module's numbers: what makes its pieces and its due entries spellable.
use Rattle.std.specs.Prelude.{ℕ, ◌^◌, ◌-◌, ◌≤◌, ℤ, pos, negsuc, List, length, FitsSigned, ⊤}
use Rattle.std.specs.Int.{w32, w64}
use Rattle.std.specs.List.{AllByRecursion}
use Rattle.wire_prims.specs.StrictLaws.{Between}
use Rattle.sbe_events.specs.Spelling.{HasSpelling}
use Rattle.sbe_local.specs.declared.command.Command.{Command}
use Rattle.sbe_local.specs.declared.command.Command.TheVariants as commands
use Rattle.module_state.specs.Part.{Asked, Taken, History}
use Rattle.session_manager.specs.declared.session.Session.{Session}
use Rattle.session_manager.specs.Sessions.{SessionTable}
use Rattle.pending_messages.specs.Pending.{ServiceOffers, offered_of}
use Rattle.module_state.specs.Counts.{Counts}
use Rattle.module_state.specs.Module.{Module}

-- the name of a timer that is scheduled fits 64 bits
abbrev pub AskFits : Command → Type 0
AskFits (commands.Schedule corr deadline) = FitsSigned w64 corr
AskFits _ = ⊤

-- the fields of the event are in their ranges, and the commands' fit
pub record TakenFits (t : Taken) : Type 0 where
  pub event : HasSpelling t.event
  pub asks : AllByRecursion (λ (a : Asked). AskFits a.command) t.asks

abbrev pub HistoryFits : History → Type 0
HistoryFits h = AllByRecursion TakenFits h

-- a term, a place, a stamp or a count: 0 to 2^62
abbrev pub IsNumber : ℤ → Type 0
IsNumber z = Between (pos 0) (pos (2 ^ 62)) z

pub record SessionFits (s : Session) : Type 0 where
  pub id : Between (pos 1) (pos (2 ^ 63 - 1)) s.id
  pub corr : FitsSigned w64 s.corr
  pub stamp : IsNumber s.stamp
  pub stream : FitsSigned w32 s.stream
  pub channel : length s.channel ≤ 1024

pub record SessionsFit (m : SessionTable) : Type 0 where
  pub next : Between (pos 1) (pos (2 ^ 62)) m.next_id
  pub each : AllByRecursion SessionFits m.listed

pub record TimerFits (a : ℤ × ℤ) : Type 0 where
  pub name : FitsSigned w64 a.0
  pub deadline : IsNumber a.1

pub record OffersFit (o : ServiceOffers) : Type 0 where
  pub offered : offered_of o ≤ 2 ^ 47
  pub each : AllByRecursion (λ (p : List ℕ). length p ≤ 16384) o.waiting

pub record CountsFit (c : Counts) : Type 0 where
  pub actions : c.actions ≤ 2 ^ 62
  pub entries : c.entries ≤ 2 ^ 62
  pub leader : Between (negsuc 0) (pos 4) c.leader

pub record ModuleFits (m : Module) : Type 0 where
  pub sessions : SessionsFit m.sessions
  pub timers : AllByRecursion TimerFits m.timers
  pub pending : AllByRecursion OffersFit m.pending
  pub counts : CountsFit m.counts

-- true of every state that the module keeps
pub record IsSound (m : Module) : Type 0 where
  pub fits : ModuleFits m
  pub few : length m.pending ≤ 3
