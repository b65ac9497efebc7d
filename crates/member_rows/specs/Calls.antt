-- What a member's calls say of a packet and of a duty, clause by clause.
use Rattle.std.specs.Prelude.{◌≡◌, ℕ, Bool, List}
use Rattle.cl_base.specs.Disk.{DiskState}
use Rattle.entry_log.specs.Shape.{shape_of}
use Rattle.sbe_consensus.specs.Spelling.{HasSpelling, spelling_of}
use Rattle.sbe_consensus.specs.declared.packet.Outgoing.{Outgoing}
use Rattle.sbe_consensus.specs.declared.packet.Packet.{Packet}
use Rattle.consensus_core.specs.declared.row.Row.{Row}
use Rattle.consensus_core.specs.Reign.{does_duty}
use Rattle.consensus_core.specs.Sendable.{receives}
use Rattle.consensus_agent.specs.Disks.{Done, Went}
use Rattle.consensus_agent.specs.Rows.{RowRan, due_to}
use Rattle.consensus_agent.specs.Sound.{IsSound}
use Rattle.consensus_agent.specs.Taken.{RowTaken}
use Rattle.run_orders.specs.Stands.{UpSeen}

-- the row of a packet, of a member as it is seen
abbrev pub packet_row : {D : Type 0} → UpSeen D → Packet → ℕ → Row
packet_row u p now = receives u.core.values (shape_of u.disk.kept.log) p now

-- and that of a duty, with what its module finds due
abbrev pub duty_row : {D : Type 0} → UpSeen D → ℕ → Row
duty_row u now = does_duty u.core.values (shape_of u.disk.kept.log) (due_to u.module_held u.core.values.election.term now) now

-- the member goes on: what `Agent`, by its field `sound`, says of itself while it is whole
abbrev pub GoesOn : {D : Type 0} → UpSeen D → Type 0
GoesOn u = IsSound u.core.values u.disk.kept u.disk.whole u.module_held

-- what no row changes, whatever the answer: the services, with how many entries they began, and what the member was as its phase began; clauses `services`, `base` and `role`
pub record SameRest {D : Type 0} (u v : UpSeen D) : Type 0 where
  pub services : v.lending ≡ u.lending
  pub base : v.base ≡ u.base
  pub role : v.role ≡ u.role

-- bytes that are called bad changed nothing: clause `stays` of `Agent::deliver`
pub record Unchanged {D : Type 0} (u v : UpSeen D) : Type 0 where
  pub core : v.core ≡ u.core
  pub disk : v.disk ≡ u.disk
  pub held : v.module_held ≡ u.module_held
  pub over : v.over ≡ u.over
  pub rest : SameRest u v

module _ {D : Type 0} (state : D → DiskState) (is_told is_honest : D → Bool) where
  -- A row was run, its change is on the disk, and these packets go out. `Agent::deliver` and `Agent::duty` say so, where they answer Ok, by their clauses of these names (`ran` is `row`, `is` what the type says by `whole`).
  pub record RowDone (row : Row) (now : ℕ) (u v : UpSeen D) (out : List Outgoing) : Type 0 where
    pub was : GoesOn u
    pub is : GoesOn v
    pub ran : RowRan (is_told u.disk.disk) row u.disk.kept v.disk.kept v.core.values out
    pub went : Went state is_told is_honest row.change u.disk v.disk
    pub done : Done state is_told is_honest row.change u.disk v.disk
    pub taken : RowTaken row u.core.values now u.module_held v.module_held u.over v.over
    pub rest : SameRest u v

  -- a fault cut a row: what they say where they answer Err
  pub record RowCut (row : Row) (u v : UpSeen D) : Type 0 where
    pub was : GoesOn u
    pub went : Went state is_told is_honest row.change u.disk v.disk
    pub rest : SameRest u v

  -- `Agent::deliver` took bytes that spell a packet, whichever that is
  abbrev pub PacketDone : List ℕ → ℕ → UpSeen D → UpSeen D → List Outgoing → Type 0
  PacketDone bytes now u v out = (p : Packet) → HasSpelling p → spelling_of p ≡ bytes → RowDone (packet_row u p now) now u v out

  -- and a fault cut that packet's row
  abbrev pub PacketCut : List ℕ → ℕ → UpSeen D → UpSeen D → Type 0
  PacketCut bytes now u v = (p : Packet) → HasSpelling p → spelling_of p ≡ bytes → RowCut (packet_row u p now) u v
