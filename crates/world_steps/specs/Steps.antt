-- What code sees of a world, which step of the protocol each of its steps is, and which worlds are reached by steps.
use Rattle.std.specs.Prelude.{◌≡◌, ⊤, ℕ, zero, suc, take, slice_index_or, ◌≤◌, ◌^◌, ℤ, pos, Bool, ◌&&◌, nat_le, if◌then◌else◌, List, [], ◌∷◌, ◌++◌, length, Option, Some, None}
use Rattle.std.specs.Ordering.{int_eq}
use Rattle.entry_log.specs.Durable.{fresh}
use Rattle.entry_log.specs.Log.{Log, place}
use Rattle.sbe_events.specs.declared.event.Event.{Event}
use Rattle.sbe_events.specs.Spelling.{term_of}
use Rattle.service_api.specs.declared.shipped.Kind.{Kind}
use Rattle.module_state.specs.Entries.{events_in, IsSpellable}
use Rattle.module_state.specs.Logs.{due_in}
use Rattle.module_state.specs.Module.{tentative}
use Rattle.module_state.specs.Places.{entry_of, stamp_of}
use Rattle.module_state.specs.Services.{module_of}
use Rattle.consensus_core.specs.Member.{Member, Sent, is_ready, stopped}
use Rattle.sbe_consensus.specs.declared.packet.Packet.TheVariants as packets
use Rattle.world.specs.World.{World, Raise, Reign, Written, Holding, Step, Passes, Starts, Stops, Duty, Delivers, Client, member, first_logs, formatted}
use Rattle.service_runs.specs.Hosts.{Rows, Mounts, Idle, longer}
use Rattle.one_log.specs.Led.{Led, Turn, Acts, Leads, Asks, admits, has_room, turns, led}
use Rattle.one_log.specs.Ruled.{rules_of}
use Rattle.run_world.specs.Lawful.{IsSpelled}
use Rattle.world_steps.specs.Members.{cut_of, held_term}
use Rattle.world_steps.specs.declared.step.Step.{Step as CodeStep}
use Rattle.world_steps.specs.declared.step.Step.TheVariants as steps

-- the services of each member, the world of its members, and the printed log
pub record Seen : Type 0 where
  pub kinds : List Kind
  pub world : World
  pub printed : Log

abbrev pub first_seen : ℕ → List Kind → Seen
first_seen n kinds = record { kinds = kinds; world = formatted n; printed = [] }

-- ---- what is noted of a member that changed

abbrev pub listed : {A : Type 0} → Option A → List A
listed None = []
listed (Some a) = a ∷ []

abbrev pub written_in : Option ℤ → Log → List Written
written_in None log = []
written_in (Some t) log = record { term = t; log = log } ∷ []

abbrev pub held_in : ℕ → Option ℤ → Log → List Holding
held_in m None log = []
held_in m (Some t) log = record { member = m; term = t; log = log } ∷ []

-- of the member m, which reigned in this term before it changed
abbrev pub noting : World → ℕ → Option ℤ → List Raise → List Sent → List Reign → World
noting w m reigned raises sent reigns =
    record {
      now = w.now;
      members = w.members;
      sent = w.sent ++ sent;
      raises = w.raises ++ raises;
      reigns = w.reigns ++ reigns;
      written = first_logs reigns ++ (written_in reigned (member w m).durable.log ++ w.written);
      holdings = w.holdings ++ held_in m (held_term (member w m)) (member w m).durable.log;
    }

-- the longest of these lists and of those at which the commits of the members below n stand
abbrev pub print_first : ℕ → List Member → Log → Log
print_first zero ms printed = printed
print_first (suc n) ms printed = longer (print_first n ms printed) (take (slice_index_or ms n (stopped fresh)).values.rest.commit (slice_index_or ms n (stopped fresh)).durable.log)

-- ---- which step it is

-- the packet of this number
abbrev pub sent_at : World → ℕ → Sent
sent_at w k = slice_index_or w.sent k (record { to = 0; packet = packets.Append (pos 0) (pos 0) (pos 0) })

-- what is due at a member whose module applied nothing
abbrev pub due_at : Seen → ℕ → List (ℤ × ℕ) → ℕ → List Event
due_at s m alive since = due_in s.kinds [] (events_in (member s.world m).durable.log) alive (member s.world m).values.election.term s.world.now since

-- and nothing at one that doesn't lead
abbrev pub due_if_ready : Seen → ℕ → List (ℤ × ℕ) → ℕ → List Event
due_if_ready s m alive since = if is_ready (member s.world m).values.election.state then due_at s m alive since else []

-- of its term, stamped now, admitted behind its log, where there is room
abbrev pub is_asked : Seen → ℕ → Event → Bool
is_asked s m e =
    int_eq (stamp_of e) (pos s.world.now)
    && (int_eq (term_of e) (member s.world m).values.election.term
    && (admits (tentative (module_of s.kinds []) (events_in (member s.world m).durable.log)) (place (member s.world m).durable.log) e
    && has_room (member s.world m).durable.log (entry_of e ∷ [])))

-- time that doesn't rise
abbrev pub still : Step
still = Passes 0

abbrev pub step_of : Seen → CodeStep → Step
step_of s (steps.Passes now) = if nat_le now (2 ^ 60) then Passes now else still
step_of s (steps.Starts m) = Starts m (length s.kinds)
step_of s (steps.Stops m) = Stops m
step_of s (steps.Duty m alive since cut) = Duty m (due_at s m alive since) (cut_of cut)
step_of s (steps.Delivers which cut) = Delivers which (cut_of cut)
step_of s (steps.Client m e cut) = if is_asked s m e then Client m e (cut_of cut) else still

-- a client's event is one that can be spelled
abbrev pub IsGiven : CodeStep → Type 0
IsGiven (steps.Client m e cut) = IsSpellable e
IsGiven _ = ⊤

-- the turn of the world with services and modules that it is
abbrev pub turn_of : Seen → (c : CodeStep) → IsGiven c → Turn
turn_of s (steps.Passes now) g = if nat_le now (2 ^ 60) then Acts (Rows (Passes now)) else Acts (Rows still)
turn_of s (steps.Starts m) g = Acts (Mounts m)
turn_of s (steps.Stops m) g = Acts (Rows (Stops m))
turn_of s (steps.Duty m alive since cut) g = Leads m alive since (cut_of cut)
turn_of s (steps.Delivers which cut) g = Acts (Rows (Delivers which (cut_of cut)))
turn_of s (steps.Client m e cut) g = if is_asked s m e then Asks m e g (cut_of cut) else Acts (Rows still)

-- ---- which worlds are reached

-- no service consumed anything, and no snapshot was put
pub record IsQuiet (l : Led) : Type 0 where
  pub idle : (m : ℕ) → (l.hosted.hosts m).stage ≡ Idle
  pub applied : (m : ℕ) → (l.hosted.hosts m).applied ≡ 0
  pub consumed : (m : ℕ) → l.consumed m ≡ []
  pub bare : (m : ℕ) → (member l.hosted.world m).durable.snapshots ≡ []

-- this world with its services and modules is what code sees
pub record Stands (l : Led) (s : Seen) : Type 0 where
  pub world : l.hosted.world ≡ s.world
  pub printed : l.hosted.printed ≡ s.printed
  pub quiet : IsQuiet l

-- some turns of at most five members with at most three services lead to it
pub record IsReached (s : Seen) : Type 0 where
  pub members : ℕ
  pub count : length s.world.members ≡ members
  pub five : members ≤ 5
  pub three : length s.kinds ≤ 3
  pub taken : List Turn
  pub stands : Stands (turns s.kinds (rules_of s.kinds) (led members) taken) s
  pub spelled : IsSpelled s.world
