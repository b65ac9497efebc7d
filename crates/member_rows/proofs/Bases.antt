-- Where the terms of snapshots begin, after a row's change.
use Rattle.std.proofs.Common.{◌≡◌, ℕ, ◌≤◌, Bool, true, List, length, take, Option, Some, None, refl, sym, ap, ◌∙◌, subst, arith, get_or-set_same}
use Rattle.cl_base.specs.Disk.{FileState}
use Rattle.entry_log.specs.Durable.{Durable, SnapshotEntry}
use Rattle.entry_log.specs.Log.{Log}
use Rattle.recording_log.specs.declared.entry.RecEntry.{RecEntry}
use Rattle.sbe_consensus.specs.Spelling.{packet_of}
use Rattle.sbe_consensus.specs.declared.packet.Outgoing.{Outgoing}
use Rattle.sbe_consensus.specs.declared.packet.Packet.{Packet}
use Rattle.service_api.specs.declared.shipped.Kind.{Kind}
use Rattle.service_phases.specs.Pairs.{Each, Each2}
use Rattle.consensus_core.specs.declared.change.Change.{Change}
use Rattle.consensus_core.specs.declared.change.Change.TheVariants as changes
use Rattle.consensus_core.specs.declared.row.Row.{Row}
use Rattle.consensus_core.specs.Member.{Member, Whole, after, changed, changed_log, row_of_packet}
use Rattle.network.specs.Net.{coming, first_of}
use Rattle.run_world.specs.Lawful.{Lawful}
use Rattle.run_world.specs.RunWorld.{Hands, RunWorld, does, is_free, seat}
use Rattle.run_world.specs.Seat.{Fate, Seat, acted, becomes, first_seat, reigns_from}
use Rattle.run_world.proofs.Acts.{act-lifts}
use Rattle.run_world.proofs.Rows.{becomes-member, free-parts}
use Rattle.run_orders.specs.Kept.{Begins, HasBase, IsStored}
use Rattle.run_orders.proofs.Bases.{all-front, all-more}
use Rattle.run_orders.proofs.Begun.{snapshots-begin}
use Rattle.member_rows.proofs.Shorter.{IsShorter}
use Rattle.member_rows.proofs.Turning.{packet-is}

-- a change that cuts nothing
pub uncut-bases : (c : Change) (log : Log) (es : List RecEntry) → IsShorter 0 c → Each (HasBase log) es → Each (HasBase (changed_log c log)) es
uncut-bases changes.Nothing log es short each = each
uncut-bases (changes.Raise term voted) log es short each = each
uncut-bases (changes.Append entries) log es short each = all-more log entries es each
uncut-bases (changes.Cut n) log es short each = absurd (omega (arith, short))

-- one that leaves the terms of the snapshots
begun-bases : (c : Change) (log : Log) (files : ℕ → FileState) (es : List RecEntry) (ss : List SnapshotEntry) → Each2 (IsStored files) es ss → Each (λ (s : SnapshotEntry). Begins s.term (changed_log c log)) ss → Each (HasBase log) es → Each (HasBase (changed_log c log)) es
begun-bases changes.Nothing log files es ss stored begin each = each
begun-bases (changes.Raise term voted) log files es ss stored begin each = each
begun-bases (changes.Append entries) log files es ss stored begin each = all-more log entries es each
begun-bases (changes.Cut n) log files es ss stored begin each = all-front files log n es ss stored begin each

-- ---- a packet that the network hands on in a lawful world

log-after : (c : Change) (d : Durable) → (changed c d).log ≡ changed_log c d.log
log-after changes.Nothing d = refl
log-after (changes.Raise term voted) d = refl
log-after (changes.Append entries) d = refl
log-after (changes.Cut n) d = refl

snapshots-after : (c : Change) (d : Durable) → (changed c d).snapshots ≡ d.snapshots
snapshots-after changes.Nothing d = refl
snapshots-after (changes.Raise term voted) d = refl
snapshots-after (changes.Append entries) d = refl
snapshots-after (changes.Cut n) d = refl

abbrev HaveBegun : Log → List SnapshotEntry → Type 0
HaveBegun log ss = Each (λ (s : SnapshotEntry). Begins s.term log) ss

module _ (n : ℕ) (kinds : List Kind) (w : RunWorld) (q : ℕ × Outgoing) (p : Packet) (five : n ≤ 5) (three : length kinds ≤ 3) (lawful : Lawful n kinds w) (first : first_of (coming w.net) ≡ Some q) (read : packet_of q.1.bytes ≡ Some p) (free : is_free w q.1.to ≡ true) where
  abbrev x : Member
  x = (seat w q.1.to).member

  abbrev row : Row
  row = row_of_packet x p w.now

  abbrev whole : Fate
  whole = record { cut = Whole; lets = None; own = 0 }

  abbrev next : RunWorld
  next = does kinds w (Hands whole)

  next-member : (seat next q.1.to).member ≡ after row Whole x
  next-member =
      ap (λ (v : RunWorld). (seat v q.1.to).member) (packet-is kinds w q p first read free whole)
      ∙ ap (λ (s : Seat). s.member) (get_or-set_same w.seats q.1.to (acted row w.now whole (seat w q.1.to)) first_seat (free-parts w q.1.to free).0)
      ∙ becomes-member (after row Whole x) whole (reigns_from w.now row (seat w q.1.to))

  begun : HaveBegun (changed_log row.change x.durable.log) x.durable.snapshots
  begun =
      subst (λ (l : Log). HaveBegun l x.durable.snapshots) (log-after row.change x.durable)
      (subst (HaveBegun (changed row.change x.durable).log) (snapshots-after row.change x.durable)
      (subst (λ (y : Member). HaveBegun y.durable.log y.durable.snapshots) next-member (snapshots-begin n kinds next q.1.to five three (act-lifts n kinds w (Hands whole) five three lawful))))

  -- after it the terms of the snapshots begin where they did
  pub packet-bases : (files : ℕ → FileState) (es : List RecEntry) → Each2 (IsStored files) es x.durable.snapshots → Each (HasBase x.durable.log) es → Each (HasBase (changed_log row.change x.durable.log)) es
  packet-bases files es stored each = begun-bases row.change x.durable.log files es x.durable.snapshots stored begun each
