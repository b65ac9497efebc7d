-- What became of a packet.
use Rattle.std.specs.Prelude.{◌≡◌, ⊤, ℕ, Bool, List, Some}
use Rattle.sbe_consensus.specs.Spelling.{first_fault}
use Rattle.consensus_core.specs.declared.row.Row.{Row}
use Rattle.consensus_core.specs.declared.values.Values.{Values}
use Rattle.member_disk.specs.Kept.{Kept}
use Rattle.consensus_agent.specs.declared.rows.Delivered.{Delivered}
use Rattle.consensus_agent.specs.declared.rows.Delivered.TheVariants as delivered
use Rattle.consensus_agent.specs.Rows.{RowRan}

-- the packet's row was run, and its packets go out
abbrev pub RanPacket : Bool → Row → Kept → Kept → Values → Delivered → Type 0
RanPacket told row a b v (delivered.Sent out) = RowRan told row a b v out
RanPacket told row a b v (delivered.Bad bad) = ⊥

-- bytes that are called bad are so, by their first fault
abbrev pub TellsBad : List ℕ → Delivered → Type 0
TellsBad bytes (delivered.Bad bad) = first_fault bytes ≡ Some bad
TellsBad bytes (delivered.Sent out) = ⊤

-- a fact of bytes that are called bad
abbrev pub OnBad : Delivered → Type 0 → Type 0
OnBad (delivered.Bad bad) p = p
OnBad (delivered.Sent out) p = ⊤
