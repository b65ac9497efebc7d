-- A change that was made, and what is sent after it.
use Rattle.std.proofs.Common.{◌≡◌, List, map, sym, ap, ◌∙◌}
use Rattle.std.specs.Prelude.{Bool, IsTrue}
use Rattle.cl_base.specs.declared.entry.Entry.{Entry}
use Rattle.entry_log.specs.Log.{Log}
use Rattle.entry_log.specs.Shape.{shape_of}
use Rattle.member_disk.specs.Kept.{Kept}
use Rattle.sbe_consensus.specs.declared.packet.Outgoing.{Outgoing}
use Rattle.consensus_core.specs.declared.change.Change.{Change}
use Rattle.consensus_core.specs.declared.change.Change.TheVariants as changes
use Rattle.consensus_core.specs.declared.row.Row.{Row}
use Rattle.consensus_core.specs.Fit.{held_by}
use Rattle.consensus_core.specs.Member.{Member, Whole, changed_log, sent_by, speaks, spelled_packet}
use Rattle.consensus_core.specs.Whole.{packets_sent}
use Rattle.consensus_core.proofs.Speech.{same_spelled_law}
use Rattle.consensus_agent.specs.Disks.{changed_kept}
use Rattle.consensus_agent.specs.Rows.{IsSpoken, Made}

pub made-node : (c : Change) (a b : Kept) → Made c a b → b.node ≡ (changed_kept c a).node
made-node changes.Nothing a b made = made.node
made-node (changes.Raise term voted) a b made = made.node
made-node (changes.Append entries) a b made = made.node
made-node (changes.Cut n) a b made = made.node

pub made-log : (c : Change) (a b : Kept) → Made c a b → b.log ≡ changed_log c a.log
made-log changes.Nothing a b made = made.log
made-log (changes.Raise term voted) a b made = made.log
made-log (changes.Append entries) a b made = made.log
made-log (changes.Cut n) a b made = made.log

-- the packets that were spoken over the log after the change are what the row sends
pub spoken-sent : (told : Bool) (row : Row) (x : Member) (log : Log) (out : List Outgoing) → IsTrue told → log ≡ changed_log row.change x.durable.log → IsSpoken told (held_by row) log out → out ≡ map spelled_packet (sent_by row Whole x)
spoken-sent told row x log out tells same s =
    s.packets
    ∙ ap (λ (es : List Entry). packets_sent (held_by row) (shape_of log) es) (s.own tells)
    ∙ sym (same_spelled_law row.plan row.values log)
    ∙ ap (λ (l : Log). map spelled_packet (speaks row.plan row.values l)) same
