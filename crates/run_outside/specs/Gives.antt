-- What the members of a run give to the outside, and what becomes of it there.
use Rattle.std.specs.Prelude.{ℕ, ◌-◌, nat_le, if◌then◌else◌, List, [], fold, length, take, drop}
use Rattle.cl_base.specs.declared.entry.Entry.{Entry}
use Rattle.sbe_consensus.specs.declared.packet.Outgoing.{Outgoing}
use Rattle.network.specs.Net.{NetSeen, sent}
use Rattle.egress.specs.declared.sent.Sent.{Sent}
use Rattle.egress.specs.Streams.{StreamSeen, sent_more}

-- a member's packets are in flight, in order
abbrev pub with_packets : ℕ → List Outgoing → NetSeen → NetSeen
with_packets from packets net = fold (λ n o. sent from o n) net packets

-- records stand behind those of their streams, in order
abbrev pub with_records : List Sent → List StreamSeen → List StreamSeen
with_records records streams = fold (λ s r. sent_more r s) streams records

-- what a member has committed and isn't printed yet: its log's entries from this index on are ahead; nothing where some of
-- those that are missing aren't ahead
abbrev pub newly : ℕ → List Entry → ℕ → ℕ → List Entry
newly from ahead commit printed = if nat_le from printed then take (commit - printed) (drop (printed - from) ahead) else []
