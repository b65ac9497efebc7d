-- What a row makes of a member.
use Rattle.std.specs.Prelude.{◌≡◌, ◌⊎◌, ℕ, ℤ, Bool, IsTrue, List, ◌++◌, take}
use Rattle.cl_base.specs.declared.entry.Entry.{Entry}
use Rattle.entry_log.specs.Log.{Log}
use Rattle.entry_log.specs.Shape.{shape_of}
use Rattle.node_state.specs.Node.{Node, raised}
use Rattle.member_disk.specs.Kept.{Kept}
use Rattle.module_state.specs.Due.{due}
use Rattle.member_module.specs.Held.{Held as ModuleHeld, at_end}
use Rattle.consensus_core.specs.declared.change.Change.{Change}
use Rattle.consensus_core.specs.declared.change.Change.TheVariants as changes
use Rattle.consensus_core.specs.declared.row.Row.{Row}
use Rattle.consensus_core.specs.declared.values.Values.{Values}
use Rattle.consensus_core.specs.Fit.{Held, held_by}
use Rattle.consensus_core.specs.Member.{entries_in}
use Rattle.consensus_core.specs.Whole.{packets_sent, wanted}
use Rattle.sbe_consensus.specs.declared.packet.Outgoing.{Outgoing}
use Rattle.consensus_agent.specs.Reads.{AreRead}
use Rattle.sbe_events.specs.declared.event.Event.{Event}

-- the node and the log after a change of the disk
pub record IsKept (n : Node) (l : Log) (k : Kept) : Type 0 where
  pub node : k.node ≡ n
  pub log : k.log ≡ l

-- a change is on the disk
abbrev pub Made : Change → Kept → Kept → Type 0
Made changes.Nothing a b = IsKept a.node a.log b
Made (changes.Raise term voted) a b = IsKept (raised a.node term voted) a.log b
Made (changes.Append entries) a b = IsKept a.node (a.log ++ entries) b
Made (changes.Cut n) a b = IsKept a.node (take n a.log) b

-- what a row leaves that a fault cut: what was kept before its change, or what is kept after it
abbrev pub CutRow : Change → Kept → Kept → Type 0
CutRow change a b = IsKept a.node a.log b ⊎ Made change a b

-- the packets of what was to be sent over this log, with the entries that were read of it for its batches: on a disk that tells its contents the log's own
pub record IsSpoken (told : Bool) (c : Held) (log : Log) (out : List Outgoing) : Type 0 where
  pub read : List Entry
  pub entries : AreRead (wanted c (shape_of log)) read
  pub own : IsTrue told → read ≡ entries_in (wanted c (shape_of log)) log
  pub packets : out ≡ packets_sent c (shape_of log) read

-- the row was run: its change is on the disk, its values are the member's, and then these packets go out
pub record RowRan (told : Bool) (row : Row) (a b : Kept) (v : Values) (out : List Outgoing) : Type 0 where
  pub change : Made row.change a b
  pub values : v ≡ row.values
  pub sent : IsSpoken told (held_by row) b.log out

-- what is due to a member with this module that leads this term
abbrev pub due_to : ModuleHeld → ℤ → ℕ → List Event
due_to m term now = due m.state (at_end m) m.ahead.events m.alive term now m.since
