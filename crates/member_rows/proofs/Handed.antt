-- A packet and a duty, on both sides.
use Rattle.std.proofs.Common.{◌≡◌, ℕ, ◌≤◌, ◌^◌, Bool, List, length, take, drop, sym, ap, ◌∙◌, subst}
use Rattle.std.specs.List.{AllByRecursion}
use Rattle.std.proofs.lemmas.List.{length-map}
use Rattle.cl_base.specs.Disk.{DiskState}
use Rattle.entry_log.specs.Log.{Log}
use Rattle.entry_log.specs.Shape.{entry_shape, shape_of}
use Rattle.sbe_events.specs.declared.event.Event.{Event}
use Rattle.sbe_consensus.specs.Spelling.{HasSpelling}
use Rattle.sbe_consensus.specs.declared.packet.Packet.{Packet}
use Rattle.service_api.specs.declared.shipped.Kind.{Kind}
use Rattle.module_state.specs.Entries.{events_in, IsSpellable}
use Rattle.module_state.specs.Logs.{due_in}
use Rattle.consensus_core.specs.declared.row.Row.{Row}
use Rattle.consensus_core.specs.declared.values.Values.{Values}
use Rattle.consensus_core.specs.Member.{Member, row_of_duty, row_of_packet}
use Rattle.consensus_core.specs.Reign.{does_duty}
use Rattle.consensus_core.specs.Sendable.{receives}
use Rattle.consensus_agent.specs.Rows.{due_to}
use Rattle.consensus_agent.specs.Sound.{IsSound}
use Rattle.one_log.specs.Led.{led, turns}
use Rattle.one_log.specs.Ruled.{rules_of}
use Rattle.one_log.proofs.Turns.{stays, logs-formed}
use Rattle.run_world.specs.Lawful.{Lawful}
use Rattle.run_world.specs.RunWorld.{RunWorld, due_at, seat}
use Rattle.run_world.specs.Seat.{Seat}
use Rattle.run_world.proofs.Shown.{member-shown}
use Rattle.run_orders.specs.Stands.{IsUp, UpSeen}
use Rattle.run_orders.proofs.Standing.{sees-due}
use Rattle.member_rows.specs.Calls.{GoesOn, duty_row, packet_row}
use Rattle.member_rows.proofs.Due.{Fitting, duty-fitting, packet-fitting}
use Rattle.member_rows.proofs.Shorter.{IsShorter, duty-shorter, packet-shorter}

-- a row that can be made of the log
pub record Ready (row : Row) (x : Member) : Type 0 where
  pub fits : Fitting row x.values x.durable.log
  pub short : IsShorter (length x.durable.log) row.change

shape-count : (row : Row) (log : Log) → IsShorter (length (shape_of log)) row.change → IsShorter (length log) row.change
shape-count row log short = subst (λ (n : ℕ). IsShorter n row.change) (length-map log entry_shape) short

-- the events of a running member's log have spellings
pub log-spelled : (n : ℕ) (kinds : List Kind) (w : RunWorld) (m : ℕ) → n ≤ 5 → length kinds ≤ 3 → Lawful n kinds w → AllByRecursion IsSpellable (events_in (seat w m).member.durable.log)
log-spelled n kinds w m five three lawful =
    let r = rules_of kinds in
    let d = turns kinds r (led n) lawful.taken in
    let logs = logs-formed n kinds r d (stays n kinds r lawful.taken five three) in
    subst (λ (x : Member). AllByRecursion IsSpellable (events_in x.durable.log)) (member-shown d.hosted w m lawful.shows) (logs.members m).formed.spellable

module _ {D : Type 0} (state : D → DiskState) (kinds : List Kind) (u : UpSeen D) (going : Bool) (s : Seat) (up : IsUp state kinds u going s) (was : GoesOn u) (now : ℕ) where
  abbrev x : Member
  x = s.member

  goes : IsSound x.values u.disk.kept u.disk.whole u.module_held
  goes = subst (λ (v : Values). IsSound v u.disk.kept u.disk.whole u.module_held) up.values was

  -- ---- a packet's row

  pub packet-same : (p : Packet) → packet_row u p now ≡ row_of_packet x p now
  packet-same p = ap (λ (v : Values). receives v (shape_of u.disk.kept.log) p now) up.values ∙ ap (λ (l : Log). receives x.values (shape_of l) p now) (sym up.durable.log)

  pub packet-ready : (p : Packet) → HasSpelling p → Ready (row_of_packet x p now) x
  packet-ready p spelled = record {
    fits = subst (λ (l : Log). Fitting (receives x.values (shape_of l) p now) x.values l) (sym up.durable.log) (packet-fitting x.values u.disk.kept u.disk.whole u.module_held p now goes spelled);
    short = shape-count (row_of_packet x p now) x.durable.log (packet-shorter x.values (shape_of x.durable.log) p now);
  }

  -- ---- a duty's

  pub duty-same : duty_row u now ≡ row_of_duty x (due_at kinds s now) now
  duty-same =
      ap (λ (v : Values). does_duty v (shape_of u.disk.kept.log) (due_to u.module_held v.election.term now) now) up.values
      ∙ ap (λ (l : Log). does_duty x.values (shape_of l) (due_to u.module_held x.values.election.term now) now) (sym up.durable.log)
      ∙ ap (λ (es : List Event). does_duty x.values (shape_of x.durable.log) es now) (sees-due kinds u.module_held s now up.has_module)

  pub duty-ready : length kinds ≤ 3 → now ≤ 2 ^ 60 → AllByRecursion IsSpellable (events_in x.durable.log) → Ready (row_of_duty x (due_at kinds s now) now) x
  duty-ready three early spells = record {
    fits = fits;
    short = duty-shorter (length x.durable.log) x.values (shape_of x.durable.log) (due_at kinds s now) now;
  }
    where
      over : Log → Row
      over l = does_duty x.values (shape_of l) (due_in kinds (events_in (take s.applied l)) (events_in (drop s.applied l)) s.alive x.values.election.term now s.since) now

      fits : Fitting (row_of_duty x (due_at kinds s now) now) x.values x.durable.log
      fits = subst (λ (l : Log). Fitting (over l) x.values l) (sym up.durable.log)
          (duty-fitting kinds x.values u.disk.kept u.disk.whole u.module_held s.applied s.alive now s.since three early goes (subst (λ (l : Log). AllByRecursion IsSpellable (events_in l)) up.durable.log spells))
