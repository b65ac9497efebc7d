-- The safety statements on snapshots, inputs, outputs and the printed log.
use Rattle.std.specs.Prelude.{◌≡◌, ℕ, suc, true, List, ◌∷◌, ◌<◌, ◌≤◌, length, take, slice_get, Contains, Some}
use Rattle.cl_base.specs.declared.entry.Entry.{Entry}
use Rattle.entry_log.specs.Durable.{SnapshotEntry}
use Rattle.entry_log.specs.Log.{Log, IsPrefixOf}
use Rattle.world.specs.World.{World, member, names}
use Rattle.consensus_core.specs.OverLog.{entries_to}
use Rattle.agreement.specs.View.{IsSettled, view_of}
use Rattle.service_runs.specs.Hosts.{Rules, Hosted, Due, Output, Feeding, Taking, Over, Ending, actions, snap_of, is_taking, input, feed_of}
use Rattle.consensus_core.specs.Member.{Run, with_next}

-- settled for this member
abbrev pub SettledAt : World → ℕ → Log → Type 0
SettledAt w m xs = IsSettled (view_of w) (member w m).durable.candidate xs

-- the entry is that of a snapshot action in a prefix of this member's log that is settled for it
abbrev pub IsNamed : Rules → World → ℕ → SnapshotEntry → Type 0
IsNamed r w m s =
    (k : ℕ) × (x : Entry) × (seat : ℕ) × (slice_get (member w m).durable.log k ≡ Some x) × (r.is_action x ≡ true) × (seat ≤ r.services)
    × (s ≡ snap_of r (take k (member w m).durable.log) x seat) × SettledAt w m (take (suc k) (member w m).durable.log) × (actions r (take k (member w m).durable.log) < 256)

-- snapshot entries name actions, settled
pub record SnapsHold (r : Rules) (w : Hosted) : Type 0 where
  pub named : (m : ℕ) (s : SnapshotEntry) → Contains (member w.world m).durable.snapshots s → IsNamed r w.world m s
  -- the put that comes next is made, and meets no other entry with its recording id
  pub made : (m upto : ℕ) (d : Due) (due : List Due) → (member w.world m).up ≡ true → (w.hosts m).stage ≡ Ending upto (d ∷ due) → names d.entries d.snap (member w.world m) ≡ true
  pub meets : (m upto : ℕ) (d : Due) (due : List Due) (s : SnapshotEntry) → r.services ≤ 3 → (member w.world m).up ≡ true → (w.hosts m).stage ≡ Ending upto (d ∷ due)
      → Contains (member w.world m).durable.snapshots s → s.recording ≡ d.snap.recording → s ≡ d.snap
  -- so many entries as end at its position have that action at their end: what a set stands for
  pub ends : (m : ℕ) (s : SnapshotEntry) → Contains (member w.world m).durable.snapshots s
      → (k : ℕ) × (x : Entry) × (slice_get (member w.world m).durable.log k ≡ Some x) × (r.is_action x ≡ true) × (entries_to s.position (member w.world m).durable.log ≡ suc k)
  pub low : (m : ℕ) (s : SnapshotEntry) → r.services ≤ 3 → Contains (member w.world m).durable.snapshots s → s.recording < 1024
  -- no two entries have one recording id
  pub once : (m : ℕ) (s s' : SnapshotEntry) → r.services ≤ 3 → Contains (member w.world m).durable.snapshots s → Contains (member w.world m).durable.snapshots s' → s.recording ≡ s'.recording → s ≡ s'

-- inputs are settled
pub record InputsHold (w : Hosted) : Type 0 where
  -- while a run lasts
  pub lasts : (m : ℕ) (xs : Log) → (member w.world m).up ≡ true → Contains (w.hosts m).run.inputs xs
      → IsPrefixOf xs (member w.world m).durable.log × (length xs ≤ (member w.world m).values.rest.commit) × SettledAt w.world m xs
  -- what a service takes next of its queue is its log's next entry
  pub next : (m k : ℕ) → (member w.world m).up ≡ true → is_taking (w.hosts m).stage ≡ true → length (input (w.hosts m) k) < (feed_of (w.hosts m) k).published
      → with_next (input (w.hosts m) k) (feed_of (w.hosts m) k).fed ≡ with_next (input (w.hosts m) k) (member w.world m).durable.log
  -- what was fed in a phase that isn't over is the log's front
  pub fed : (m : ℕ) (z : Feeding) → (member w.world m).up ≡ true → (w.hosts m).stage ≡ Taking → Contains (w.hosts m).feeds z → IsPrefixOf z.fed (member w.world m).durable.log
  -- as a phase's end puts and sends, each service consumed the log's first entries up to the commit at which the end began
  pub closed : (m upto : ℕ) (due : List Due) (xs : Log) → (member w.world m).up ≡ true → (w.hosts m).stage ≡ Ending upto due → Contains (w.hosts m).run.inputs xs → xs ≡ take upto (member w.world m).durable.log
  -- a phase that is over lets each service take up to the commit
  pub over : (m : ℕ) (z : Feeding) → (member w.world m).up ≡ true → (w.hosts m).stage ≡ Over → Contains (w.hosts m).feeds z → z.published ≡ (member w.world m).values.rest.commit
  -- of ended runs
  pub ended : (m : ℕ) (run : Run) (xs : Log) → Contains (w.hosts m).past run → Contains run.inputs xs → SettledAt w.world m xs

-- the headline's first sentence: every service's inputs are a prefix of the printed log
pub record PrintedHolds (w : Hosted) : Type 0 where
  pub commits : (m : ℕ) → IsPrefixOf (take (member w.world m).values.rest.commit (member w.world m).durable.log) w.printed
  pub lasts : (m : ℕ) (xs : Log) → (member w.world m).up ≡ true → Contains (w.hosts m).run.inputs xs → IsPrefixOf xs w.printed
  pub ended : (m : ℕ) (run : Run) (xs : Log) → Contains (w.hosts m).past run → Contains run.inputs xs → IsPrefixOf xs w.printed

-- what was sent at this place
pub record IsOwed (r : Rules) (w : Hosted) (o : Output) : Type 0 where
  pub entry : Entry
  pub at : slice_get w.printed o.entry ≡ Some entry
  pub owed : slice_get (r.owed (take (suc o.entry) w.printed) o.seat) o.number ≡ Some o.bytes
  pub first : Log
  pub reigned : Contains w.world.reigns (record { term = entry.term; member = o.member; first = first })

pub record OutputsHold (r : Rules) (w : Hosted) : Type 0 where
  pub owed : (o : Output) → Contains w.outputs o → IsOwed r w o
  pub once : (i j : ℕ) (o o' : Output) → slice_get w.outputs i ≡ Some o → slice_get w.outputs j ≡ Some o' → o.entry ≡ o'.entry → o.seat ≡ o'.seat → o.number ≡ o'.number → i ≡ j
