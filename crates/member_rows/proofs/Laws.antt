-- The laws, of any disk.
use Rattle.std.proofs.Common.{◌≡◌, ℕ, ◌≤◌, ◌^◌, Bool, true, List, length, Some, sym, subst, arith}
use Rattle.std.specs.Prelude.{IsTrue}
use Rattle.cl_base.specs.Disk.{DiskState, CrashLeaves}
use Rattle.cl_base.specs.Images.{IsSound}
use Rattle.cl_base.specs.declared.disk.Choice.{Choice}
use Rattle.entry_log.specs.Log.{Log}
use Rattle.entry_log.specs.Shape.{shape_of}
use Rattle.wire_prims.specs.Fields.{IsBytes}
use Rattle.sbe_consensus.specs.Spelling.{HasSpelling, packet_of, spelling_of}
use Rattle.sbe_consensus.specs.declared.packet.Outgoing.{Outgoing}
use Rattle.sbe_consensus.specs.declared.packet.Packet.{Packet}
use Rattle.service_api.specs.declared.shipped.Kind.{Kind}
use Rattle.service_phases.specs.Pairs.{Each}
use Rattle.member_disk.specs.CutWell.{snapshots_of}
use Rattle.network.specs.Net.{coming, first_of}
use Rattle.consensus_core.specs.declared.row.Row.{Row}
use Rattle.consensus_core.specs.Member.{changed_log, row_of_duty, row_of_packet}
use Rattle.run_world.specs.Lawful.{Lawful}
use Rattle.run_world.specs.RunWorld.{RunWorld, due_at, is_free, seat}
use Rattle.run_world.specs.Seat.{Seat}
use Rattle.run_orders.specs.Kept.{HasBase}
use Rattle.run_orders.specs.Stands.{EndedSeen, IsSeat, IsUp, UpSeen}
use Rattle.member_rows.specs.Calls.{PacketCut, PacketDone, RowCut, RowDone, duty_row}
use Rattle.member_rows.specs.Places.{ActedCut, ActedWhole, stopped_seat, running_seat}
use Rattle.member_rows.proofs.Bases.{packet-bases, uncut-bases}
use Rattle.member_rows.proofs.Bytes.{read-spells}
use Rattle.member_rows.proofs.Floors.{first-low}
use Rattle.member_rows.proofs.Halts.{seat-cut}
use Rattle.member_rows.proofs.Handed.{duty-ready, duty-same, log-spelled, packet-ready, packet-same}
use Rattle.member_rows.proofs.Shorter.{duty-shorter}
use Rattle.member_rows.proofs.Ups.{seat-done}

module _ {D : Type 0} (state : D → DiskState) (is_told is_honest : D → Bool) (kinds : List Kind) (u v : UpSeen D) (going : Bool) (choice : Choice) (ended : List EndedSeen) where
  floor : (n : ℕ) (w : RunWorld) (m : ℕ) → Lawful n kinds w → IsUp state kinds u going (seat w m) → u.base ≤ (seat w m).member.values.rest.commit
  floor n w m lawful up = let a = first-low n kinds w m lawful up.up in let b = up.first in omega (arith, a, b)

  -- where a duty's row leaves the terms of snapshots
  duty-bases : (s : Seat) (now : ℕ) → IsUp state kinds u going s → Each (HasBase (changed_log (row_of_duty s.member (due_at kinds s now) now).change s.member.durable.log)) (snapshots_of u.disk.kept.entries)
  duty-bases s now up =
      let row = row_of_duty s.member (due_at kinds s now) now in
      uncut-bases row.change s.member.durable.log (snapshots_of u.disk.kept.entries) (duty-shorter 0 s.member.values (shape_of s.member.durable.log) (due_at kinds s now) now)
      (subst (λ (l : Log). Each (HasBase l) (snapshots_of u.disk.kept.entries)) (sym up.durable.log) up.mountable.bases)

  pub duty-done : (n : ℕ) (w : RunWorld) (m now : ℕ) (out : List Outgoing) → n ≤ 5 → length kinds ≤ 3 → Lawful n kinds w → now ≤ 2 ^ 60 → IsTrue (is_told u.disk.disk) → IsTrue (is_honest u.disk.disk)
      → IsSeat state kinds (running_seat choice ended u going) (seat w m) → RowDone state is_told is_honest (duty_row u now) now u v out
      → ActedWhole state kinds (row_of_duty (seat w m).member (due_at kinds (seat w m) now) now) now (seat w m) out (running_seat choice ended v going)
  duty-done n w m now out five three lawful early told honest is d =
      let s = seat w m in
      let ready = duty-ready state kinds u going s is.home d.was now three early (log-spelled n kinds w m five three lawful) in
      let here = subst (λ (r : Row). RowDone state is_told is_honest r now u v out) (duty-same state kinds u going s is.home d.was now) d in
      seat-done state is_told is_honest kinds (row_of_duty s.member (due_at kinds s now) now) now u v going s out is.home honest ready.fits ready.short (duty-bases s now is.home) (floor n w m lawful is.home) here choice ended is told

  -- ---- the network's next packet

  module _ (n : ℕ) (w : RunWorld) (q : ℕ × Outgoing) (p : Packet) (five : n ≤ 5) (three : length kinds ≤ 3) (lawful : Lawful n kinds w) (first : first_of (coming w.net) ≡ Some q) (fits : IsBytes q.1.bytes) (read : packet_of q.1.bytes ≡ Some p)
      (free : is_free w q.1.to ≡ true) (honest : IsTrue (is_honest u.disk.disk)) (is : IsSeat state kinds (running_seat choice ended u going) (seat w q.1.to)) where
    abbrev s : Seat
    s = seat w q.1.to

    spelled : HasSpelling p × (spelling_of p ≡ q.1.bytes)
    spelled = read-spells q.1.bytes p fits read

    leaves : Each (HasBase (changed_log (row_of_packet s.member p w.now).change s.member.durable.log)) (snapshots_of u.disk.kept.entries)
    leaves =
        packet-bases n kinds w q p five three lawful first read free (state u.disk.disk).files (snapshots_of u.disk.kept.entries) is.home.durable.snapshots
        (subst (λ (l : Log). Each (HasBase l) (snapshots_of u.disk.kept.entries)) (sym is.home.durable.log) is.home.mountable.bases)

    pub packet-done : (out : List Outgoing) → IsTrue (is_told u.disk.disk) → PacketDone state is_told is_honest q.1.bytes w.now u v out → ActedWhole state kinds (row_of_packet s.member p w.now) w.now s out (running_seat choice ended v going)
    packet-done out told done =
        let d = done p spelled.0 spelled.1 in
        let ready = packet-ready state kinds u going s is.home d.was w.now p spelled.0 in
        let here = subst (λ (r : Row). RowDone state is_told is_honest r w.now u v out) (packet-same state kinds u going s is.home d.was w.now p) d in
        seat-done state is_told is_honest kinds (row_of_packet s.member p w.now) w.now u v going s out is.home honest ready.fits ready.short leaves (floor n w q.1.to lawful is.home) here choice ended is told

    pub packet-cut : (disk : D) → (IsTrue (is_honest v.disk.disk) → (f : ℕ) → IsSound ((state v.disk.disk).files f)) → CrashLeaves choice (state v.disk.disk) (state disk) → PacketCut state is_told is_honest q.1.bytes w.now u v
        → ActedCut state kinds (row_of_packet s.member p w.now) w.now s (stopped_seat ended v going disk)
    packet-cut disk sound crash cut =
        let d = cut p spelled.0 spelled.1 in
        let ready = packet-ready state kinds u going s is.home d.was w.now p spelled.0 in
        let here = subst (λ (r : Row). RowCut state is_told is_honest r u v) (packet-same state kinds u going s is.home d.was w.now p) d in
        seat-cut state is_told is_honest kinds (row_of_packet s.member p w.now) w.now u v going s choice ended disk is honest ready leaves here (sound (subst IsTrue (sym d.went.honest) honest)) crash

  -- ---- a duty that a fault cut

  pub duty-cut : (disk : D) → (IsTrue (is_honest v.disk.disk) → (f : ℕ) → IsSound ((state v.disk.disk).files f)) → CrashLeaves choice (state v.disk.disk) (state disk) → IsTrue (is_honest u.disk.disk) → (n : ℕ) (w : RunWorld) (m now : ℕ) → n ≤ 5 → length kinds ≤ 3
      → Lawful n kinds w → now ≤ 2 ^ 60 → IsSeat state kinds (running_seat choice ended u going) (seat w m) → RowCut state is_told is_honest (duty_row u now) u v
      → ActedCut state kinds (row_of_duty (seat w m).member (due_at kinds (seat w m) now) now) now (seat w m) (stopped_seat ended v going disk)
  duty-cut disk sound crash honest n w m now five three lawful early is d =
      let s = seat w m in
      let ready = duty-ready state kinds u going s is.home d.was now three early (log-spelled n kinds w m five three lawful) in
      let here = subst (λ (r : Row). RowCut state is_told is_honest r u v) (duty-same state kinds u going s is.home d.was now) d in
      seat-cut state is_told is_honest kinds (row_of_duty s.member (due_at kinds s now) now) now u v going s choice ended disk is honest ready (duty-bases s now is.home) here (sound (subst IsTrue (sym d.went.honest) honest)) crash
