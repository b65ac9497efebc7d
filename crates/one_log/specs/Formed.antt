-- One well-formed log: what holds of every log of the world.
use Rattle.std.specs.Prelude.{◌≡◌, ℕ, suc, ◌≤◌, ◌<◌, ◌<ℤ◌, ℤ, pos, ◌≤ℤ◌, true, List, [], ◌∷◌, slice_get, Some, ◌++◌, Contains, length, take, drop}
use Rattle.std.specs.List.{AllByRecursion}
use Rattle.cl_base.specs.declared.entry.Entry.{Entry}
use Rattle.entry_log.specs.Log.{Log, last, place, IsPrefixOf}
use Rattle.sbe_events.specs.declared.event.Event.{Event}
use Rattle.service_api.specs.declared.shipped.Kind.{Kind}
use Rattle.module_state.specs.Allowed.{rings as rings_in}
use Rattle.module_state.specs.Once.{schedules, opens, closes, InOrder, payloads, offered_by}
use Rattle.pending_messages.specs.Pending.{offers_at}
use Rattle.module_state.specs.Services.{history_of, module_of}
use Rattle.module_state.specs.Places.{stamp_of}
use Rattle.module_state.specs.Entries.{events_in, IsWellFormedOn}
use Rattle.world.specs.World.{Raise, Reign, Holding, member, reign_in}
use Rattle.world.specs.World.{term_entry}
use Rattle.service_runs.specs.Hosts.{Output}
use Rattle.consensus_core.specs.Member.{Run}
use Rattle.service_runs.specs.Served.{SettledAt}
use Rattle.module_state.specs.Logs.{due_in}
use Rattle.one_log.specs.Opened.{OpensTerms}
use Rattle.one_log.specs.Led.{Led, due_at}

-- well formed, stamped at most now, and within the log's limit
pub record IsFormed (kinds : List Kind) (now : ℕ) (log : Log) : Type 0 where
  pub formed : IsWellFormedOn kinds log
  pub stamps : AllByRecursion (λ (e : Event). stamp_of e ≤ℤ pos now) (events_in log)
  pub room : place log ≤ 16777216

-- every log is formed
pub record LogsFormed (kinds : List Kind) (w : Led) : Type 0 where
  pub members : (m : ℕ) → IsFormed kinds w.hosted.world.now (member w.hosted.world m).durable.log
  pub written : (t : ℤ) → IsFormed kinds w.hosted.world.now (reign_in w.hosted.world.written t)
  pub firsts : (r : Reign) → Contains w.hosted.world.reigns r → IsFormed kinds w.hosted.world.now r.first
  pub raised : (r : Raise) → Contains w.hosted.world.raises r → IsFormed kinds w.hosted.world.now r.log
  pub held : (h : Holding) → Contains w.hosted.world.holdings h → IsFormed kinds w.hosted.world.now h.log
  pub printed : IsFormed kinds w.hosted.world.now w.hosted.printed
  pub inputs : (m : ℕ) (xs : Log) → (member w.hosted.world m).up ≡ true → Contains (w.hosted.hosts m).run.inputs xs → IsFormed kinds w.hosted.world.now xs
  pub ended : (m : ℕ) (run : Run) (xs : Log) → Contains (w.hosted.hosts m).past run → Contains run.inputs xs → IsFormed kinds w.hosted.world.now xs

-- what a running member's module applied is its log's front, and settled for it
pub record ModulesKnow (w : Led) : Type 0 where
  pub front : (m : ℕ) → (member w.hosted.world m).up ≡ true → IsPrefixOf (w.consumed m) (member w.hosted.world m).durable.log
  pub applied : (m : ℕ) → (member w.hosted.world m).up ≡ true → length (w.consumed m) ≡ (w.hosted.hosts m).applied
  pub below : (m : ℕ) → (member w.hosted.world m).up ≡ true → length (w.consumed m) ≤ (member w.hosted.world m).values.rest.commit
  pub settled : (m : ℕ) → (member w.hosted.world m).up ≡ true → SettledAt w.hosted.world m (w.consumed m)

-- what a well-formed log says of its events
pub record EventsStand (kinds : List Kind) (log : List Event) : Type 0 where
  -- no more events of a timer than schedules that were made of it
  pub rings : (corr : ℤ) → rings_in corr log ≤ schedules corr (history_of kinds log)
  -- each session opens once, and closes at most once
  pub one_open : (id : ℤ) → opens id log ≤ 1
  pub one_close : (id : ℤ) → closes id log ≤ opens id log
  -- the messages of a service have the numbers 1, 2 and so on, and with those that wait they are its offers, in order
  pub order : (v : ℕ) → v < length kinds → InOrder v 0 log
  pub offered : (v : ℕ) → v < length kinds → payloads v log ++ (offers_at v (module_of kinds log).pending).waiting ≡ offered_by v (history_of kinds log)

-- what a member's duty computes is what is due over the events of its log, of which its module applied the first
abbrev pub IsDueOverEvents : List Kind → Led → ℕ → List (ℤ × ℕ) → ℕ → Type 0
IsDueOverEvents kinds w m alive since =
    due_at kinds w m alive since
    ≡ due_in kinds (take (w.hosted.hosts m).applied (events_in (member w.hosted.world m).durable.log)) (drop (w.hosted.hosts m).applied (events_in (member w.hosted.world m).durable.log)) alive (member w.hosted.world m).values.election.term w.hosted.world.now since

-- the new term event of an output's entry stands in the printed log, at or before that entry, as the first of its term, and names the member that sent it
pub record IsNamedThere (w : Led) (o : Output) : Type 0 where
  pub entry : Entry
  pub at : slice_get w.hosted.printed o.entry ≡ Some entry
  pub before : Log
  pub moment : ℕ
  pub first : last before <ℤ entry.term
  pub stands : IsPrefixOf (before ++ term_entry entry.term (place before) moment o.member ∷ []) (take (suc o.entry) w.hosted.printed)

pub record LeadersNamed (w : Led) : Type 0 where
  -- the printed log's first entry of each term is its new term event
  pub printed : OpensTerms w.hosted.world w.hosted.printed
  pub named : (o : Output) → Contains w.hosted.outputs o → IsNamedThere w o
