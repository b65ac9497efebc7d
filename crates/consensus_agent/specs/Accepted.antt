-- What an order of a client, or an action, leaves of a member.
use Rattle.std.specs.Prelude.{◌≡◌, ⊤, ℕ, ◌≤◌, ℤ, Bool, true, List, [], ◌∷◌, ◌++◌, length, take, Some, None, Result, Ok, Err}
use Rattle.cl_base.specs.Disk.{DiskState}
use Rattle.wire_prims.specs.declared.fault.Bad.{Bad}
use Rattle.entry_log.specs.Log.{Log, end_after}
use Rattle.entry_log.specs.Shape.{shape_of, end_of}
use Rattle.election.specs.declared.member.State.TheVariants.{LeaderReady}
use Rattle.sbe_client.specs.Reading.{ReadsIngress, first_fault_ingress}
use Rattle.sbe_client.specs.declared.ingress.Ingress.{Ingress}
use Rattle.egress.specs.declared.sent.Sent.{Sent}
use Rattle.sbe_events.specs.Spelling.{HasSpelling, spelling_of, term_of}
use Rattle.sbe_events.specs.declared.event.Event.{Event}
use Rattle.member_disk.specs.Kept.{Kept, Held as DiskHeld}
use Rattle.module_state.specs.Module.{Module}
use Rattle.member_module.specs.Held.{Held as ModuleHeld, at_end, heard}
use Rattle.consensus_core.specs.declared.change.Change.TheVariants as changes
use Rattle.consensus_core.specs.declared.values.Values.{Values}
use Rattle.consensus_core.specs.Fit.{leader_number}
use Rattle.consensus_core.specs.Member.{is_ready}
use Rattle.consensus_core.specs.Reign.{entry_of}
use Rattle.ingress.specs.declared.decision.Decided.{Decided}
use Rattle.ingress.specs.declared.decision.Decided.TheVariants as decisions
use Rattle.ingress.specs.declared.outcome.Outcome.{Outcome}
use Rattle.ingress.specs.declared.outcome.Outcome.TheVariants as outcome
use Rattle.ingress.specs.declared.view.View.{View}
use Rattle.ingress.specs.Decisions.{Admits, decided, decided_action}
use Rattle.consensus_agent.specs.declared.fault.AgentFault.{AgentFault}
use Rattle.consensus_agent.specs.declared.fault.AgentFault.TheVariants as fault
use Rattle.consensus_agent.specs.Disks.{Done, Went}
use Rattle.consensus_agent.specs.Rows.{IsKept}

-- an event of a leader's term that has room behind its log
pub record HasRoom (v : Values) (k : Kept) (e : Event) : Type 0 where
  pub leads : v.election.state ≡ LeaderReady
  pub term : term_of e ≡ v.election.term
  pub room : end_after (end_of (shape_of k.log)) (length (spelling_of e)) ≤ 16777216

-- the entry of this event, whose fields are in their ranges, stands behind the log, at this index
pub record IsAppended (i : ℕ) (e : Event) (a b : Kept) : Type 0 where
  pub spelled : HasSpelling e
  pub index : i ≡ length a.log
  pub kept : IsKept a.node (a.log ++ entry_of e ∷ []) b

-- an event of this term stands behind the log, at this index
pub record IsAccepted (i : ℕ) (term : ℤ) (a b : Kept) : Type 0 where
  pub event : Event
  pub of_term : term_of event ≡ term
  pub appended : IsAppended i event a b

-- what an outcome says of the disk, by the term: an entry at its index, or nothing new
abbrev pub Leaves : Outcome → ℤ → Kept → Kept → Type 0
Leaves (outcome.Accepted i) term a b = IsAccepted i term a b
Leaves _ term a b = b ≡ a

-- a fact of an outcome that adds nothing to the log
abbrev pub OnNothingNew : Outcome → Type 0 → Type 0
OnNothingNew (outcome.Accepted i) p = ⊤
OnNothingNew _ p = p

-- an answer that no entry owes
abbrev pub IsDirect : Sent → Type 0
IsDirect s = s.entry ≡ None

-- ---- what is decided

-- what a member with this module at its log's end decides on
pub record IsView (w : View) (v : Values) (log : Log) (t : Module) : Type 0 where
  pub ready : w.ready ≡ is_ready v.election.state
  pub leader : w.leader ≡ leader_number v.election.leader
  pub term : w.term ≡ v.election.term
  pub place : w.place ≡ end_of (shape_of log)
  pub commit : w.commit_place ≡ end_of (take v.rest.commit (shape_of log))
  pub sessions : w.ready ≡ true → w.sessions.now.table ≡ t.sessions

-- the decision on a client's bytes: the first row of the table of outcomes that applies, or an event that may follow the log
pub record IsDecided (w : View) (bytes : List ℕ) (now : ℕ) (d : Decided) : Type 0 where
  pub bad : (b : Bad) → first_fault_ingress bytes ≡ Some b → d ≡ decisions.Refuse (outcome.Bad b)
  pub read : (m : Ingress) → ReadsIngress bytes m → d ≡ decided w now m
  pub admits : (actions : ℕ) → Admits w actions now d

-- the same on an action, where the log has as many as the module at its end counts
pub record IsDecidedAction (w : View) (t : Module) (now : ℕ) (d : Decided) : Type 0 where
  pub is : d ≡ decided_action w t.counts.actions now
  pub admits : Admits w t.counts.actions now d

-- what is decided has its room
abbrev pub HasRoomFor : Decided → Values → Kept → Type 0
HasRoomFor (decisions.Append e) v k = HasRoom v k e
HasRoomFor _ v k = ⊤

-- a member with this module at its log's end decides so on a client's bytes
pub record Decides (v : Values) (k : Kept) (t : Module) (bytes : List ℕ) (now : ℕ) (d : Decided) : Type 0 where
  pub view : View
  pub is : IsView view v k.log t
  pub by : IsDecided view bytes now d
  pub room : HasRoomFor d v k

-- and so on an action
pub record DecidesAction (v : Values) (k : Kept) (t : Module) (now : ℕ) (d : Decided) : Type 0 where
  pub view : View
  pub is : IsView view v k.log t
  pub by : IsDecidedAction view t now d
  pub room : HasRoomFor d v k

-- ---- and what is done then

-- what the module applied and has ahead stays, and what it knows of the reign
pub record IsCalm (a b : ModuleHeld) : Type 0 where
  pub state : b.state ≡ a.state
  pub consumed : b.consumed ≡ a.consumed
  pub entries : b.ahead.entries ≡ a.ahead.entries
  pub events : b.ahead.events ≡ a.ahead.events
  pub coming : b.coming ≡ a.coming
  pub alive : b.alive ≡ a.alive
  pub since : b.since ≡ a.since

-- all that stays, but for the last keep-alive of this session, at this moment (ms)
pub record IsHeard (session : ℤ) (now : ℕ) (a b : ModuleHeld) : Type 0 where
  pub state : b.state ≡ a.state
  pub consumed : b.consumed ≡ a.consumed
  pub entries : b.ahead.entries ≡ a.ahead.entries
  pub events : b.ahead.events ≡ a.ahead.events
  pub coming : b.coming ≡ a.coming
  pub alive : b.alive ≡ heard session now a.alive
  pub since : b.since ≡ a.since

-- all that stays, but for one more event ahead
pub record HasMore (e : Event) (a b : ModuleHeld) : Type 0 where
  pub state : b.state ≡ a.state
  pub consumed : b.consumed ≡ a.consumed
  pub entries : b.ahead.entries ≡ a.ahead.entries ++ entry_of e ∷ []
  pub events : b.ahead.events ≡ a.ahead.events ++ e ∷ []
  pub coming : b.coming ≡ None
  pub alive : b.alive ≡ a.alive
  pub since : b.since ≡ a.since

-- what was decided at this moment (ms) is done, with this outcome
abbrev pub IsDone : Decided → ℕ → Outcome → Kept → Kept → ModuleHeld → ModuleHeld → Type 0
IsDone (decisions.Refuse refusal) now o a b m n = (o ≡ refusal) × (b ≡ a) × IsCalm m n
IsDone (decisions.Alive session) now o a b m n = (o ≡ outcome.Alive) × (b ≡ a) × IsHeard session now m n
IsDone (decisions.Append e) now o a b m n = (o ≡ outcome.Accepted (length a.log)) × IsAppended (length a.log) e a b × HasMore e m n

-- a fact of the event that a decision appends
abbrev pub OnAppend : Decided → (Event → Type 0) → Type 0
OnAppend (decisions.Append e) P = P e
OnAppend _ P = ⊤

module _ {D : Type 0} (state : D → DiskState) (is_told is_honest : D → Bool) where
  -- an event was appended, and the disk did it
  pub record Adds (e : Event) (a b : DiskHeld D) : Type 0 where
    pub went : Went state is_told is_honest (changes.Append (entry_of e ∷ [])) a b
    pub done : Done state is_told is_honest (changes.Append (entry_of e ∷ [])) a b

  -- a client's bytes were taken, with this outcome
  pub record TookClient (v : Values) (bytes : List ℕ) (now : ℕ) (o : Outcome) (a b : DiskHeld D) (m n : ModuleHeld) : Type 0 where
    pub view : View
    pub decision : Decided
    pub is : IsView view v a.kept.log (at_end m)
    pub by : IsDecided view bytes now decision
    pub done : IsDone decision now o a.kept b.kept m n
    pub adds : OnAppend decision (λ e. Adds e a b)

  -- an action was taken, with this outcome
  pub record TookAction (v : Values) (now : ℕ) (o : Outcome) (a b : DiskHeld D) (m n : ModuleHeld) : Type 0 where
    pub view : View
    pub decision : Decided
    pub is : IsView view v a.kept.log (at_end m)
    pub by : IsDecidedAction view (at_end m) now decision
    pub done : IsDone decision now o a.kept b.kept m n
    pub adds : OnAppend decision (λ e. Adds e a b)

-- ---- or a fault came in between

-- a fact of a call, but for one that had no memory
abbrev pub UnlessNoMemory : {T : Type 0} → Result T AgentFault → Type 0 → Type 0
UnlessNoMemory (Err fault.NoMemory) p = ⊤
UnlessNoMemory _ p = p

-- a fact of a call that a fault of the disk ended
abbrev pub OnFault : {T : Type 0} → Result T AgentFault → Type 0 → Type 0
OnFault (Ok x) p = ⊤
OnFault (Err fault.NoMemory) p = ⊤
OnFault (Err _) p = p

module _ {D : Type 0} (state : D → DiskState) (is_told is_honest : D → Bool) where
  -- an event was to be appended, and this the disk made of it
  pub record Tries (e : Event) (a b : DiskHeld D) : Type 0 where
    pub spelled : HasSpelling e
    pub went : Went state is_told is_honest (changes.Append (entry_of e ∷ [])) a b

  -- what was decided on was to append an event, and this the disk made of it
  abbrev pub IsTried : Decided → DiskHeld D → DiskHeld D → Type 0
  IsTried (decisions.Append e) a b = Tries e a b
  IsTried _ a b = ⊥

  -- an event that was decided on so was to be appended, and this the disk made of it
  pub record Tried (decides : View → Decided → Type 0) (v : Values) (m : ModuleHeld) (a b : DiskHeld D) : Type 0 where
    pub view : View
    pub event : Event
    pub is : IsView view v a.kept.log (at_end m)
    pub by : decides view (decisions.Append event)
    pub tries : Tries event a b
