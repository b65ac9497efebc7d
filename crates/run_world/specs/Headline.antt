-- What is promised of every run.
use Rattle.std.specs.Prelude.{◌≡◌, ℕ, suc, ◌<ℤ◌, ◌≤◌, true, List, [], ◌∷◌, ◌++◌, length, take, slice_get, Some, Ok, Contains}
use Rattle.cl_base.specs.declared.entry.Entry.{Entry}
use Rattle.entry_log.specs.Durable.{Durable, SnapshotEntry, SnapshotSet, latest_set, first_commit}
use Rattle.entry_log.specs.Log.{Log, last, place, IsPrefixOf}
use Rattle.service_api.specs.declared.shipped.Kind.{Kind}
use Rattle.module_state.specs.Entries.{IsWellFormedOn, events_in}
use Rattle.module_state.specs.Recorded.{module_from_pieces}
use Rattle.module_state.specs.Services.{module_of}
use Rattle.consensus_core.specs.Member.{Run}
use Rattle.world.specs.World.{term_entry}
use Rattle.service_runs.specs.Hosts.{Output, service_of}
use Rattle.one_log.specs.Formed.{EventsStand}
use Rattle.one_log.specs.Ruled.{rules_of, pieces_in, records_of}
use Rattle.run_world.specs.RunWorld.{RunWorld, seat}

-- the record is one that its entry of this log owes, byte for byte at its number; and its member is the leader of that entry's term, whose new term event stands in the log at or before the entry, as the first of its term, and names it
pub record IsOwedIn (kinds : List Kind) (log : Log) (o : Output) : Type 0 where
  pub entry : Entry
  pub at : slice_get log o.entry ≡ Some entry
  pub owed : slice_get ((rules_of kinds).owed (take (suc o.entry) log) o.seat) o.number ≡ Some o.bytes
  pub before : Log
  pub moment : ℕ
  pub first : last before <ℤ entry.term
  pub led : IsPrefixOf (before ++ term_entry entry.term (place before) moment o.member ∷ []) (take (suc o.entry) log)

-- a disk's latest valid set has an entry of the module and of each service, with the records of their states after the entries that a start begins with, and the module's restore it
pub record BeginsFrom (kinds : List Kind) (d : Durable) (b : SnapshotSet) : Type 0 where
  pub position : place (take (first_commit (length kinds) d) d.log) ≡ b.position
  pub seats : (seat : ℕ) → seat ≤ length kinds → (s : SnapshotEntry) × Contains d.snapshots s × (s.service ≡ service_of seat) × (s.pieces ≡ pieces_in kinds (take (first_commit (length kinds) d) d.log) seat)
  pub restored : module_from_pieces (length kinds) (records_of kinds (take (first_commit (length kinds) d) d.log) 0) ≡ Ok (module_of kinds (events_in (take (first_commit (length kinds) d) d.log)))

pub record Headline (kinds : List Kind) (w : RunWorld) : Type 0 where
  -- every service's inputs, snapshot included, are a prefix of the printed log: while its member runs, and of every run before
  pub inputs : (m : ℕ) (xs : Log) → (seat w m).member.up ≡ true → Contains (seat w m).run.inputs xs → IsPrefixOf xs w.printed
  pub ended : (m : ℕ) (run : Run) (xs : Log) → Contains (seat w m).ended run → Contains run.inputs xs → IsPrefixOf xs w.printed
  -- while its member runs they are also its log's first entries, of those that it has committed
  pub own : (m : ℕ) (xs : Log) → (seat w m).member.up ≡ true → Contains (seat w m).run.inputs xs → IsPrefixOf xs (seat w m).member.durable.log × (length xs ≤ (seat w m).member.values.rest.commit)
  -- every record that was sent for an entry is owed by that entry of the printed log, and was sent by the one leader of its term
  pub owed : (o : Output) → Contains w.records o → IsOwedIn kinds w.printed o
  -- once
  pub once : (i j : ℕ) (o o' : Output) → slice_get w.records i ≡ Some o → slice_get w.records j ≡ Some o' → o.entry ≡ o'.entry → o.seat ≡ o'.seat → o.number ≡ o'.number → i ≡ j
  -- a member begins its next run with the states that its disk's latest snapshot stands for
  pub begins : (m : ℕ) (b : SnapshotSet) → latest_set (length kinds) (seat w m).member.durable.snapshots ≡ Some b → BeginsFrom kinds (seat w m).member.durable b
  -- the printed log is well formed, and what that says of its sessions, timers and messages holds
  pub formed : IsWellFormedOn kinds w.printed
  pub stand : EventsStand kinds (events_in w.printed)
