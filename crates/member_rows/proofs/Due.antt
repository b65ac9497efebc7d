-- What is due over a log has a spelling, and a duty's row can be made.
use Rattle.std.proofs.Common.{◌≡◌, ℕ, ◌≤◌, ◌^◌, ℤ, pos, ◌≤ℤ◌, Bool, true, false, List, [], ◌∷◌, ◌++◌, length, take, drop, refl, sym, ap, ◌∙◌, subst, arith, take-append-drop}
use Rattle.std.specs.Prelude.{All}
use Rattle.std.specs.List.{AllByRecursion}
use Rattle.std.proofs.lemmas.List.Elements.{All-from_recursion, All-nil}
use Rattle.entry_log.specs.Log.{Log}
use Rattle.entry_log.specs.Shape.{Shape, shape_of}
use Rattle.election.specs.declared.member.State.{State}
use Rattle.election.specs.declared.member.State.TheVariants.{LeaderReady}
use Rattle.sbe_events.specs.Spelling.{HasSpelling, IsNumber, term_of}
use Rattle.sbe_events.specs.declared.event.Event.{Event}
use Rattle.sbe_consensus.specs.Spelling.{HasSpelling as IsPacket}
use Rattle.sbe_consensus.specs.declared.packet.Packet.{Packet}
use Rattle.service_api.specs.declared.shipped.Kind.{Kind}
use Rattle.pending_messages.specs.Pending.{PendingTable}
use Rattle.module_state.specs.Part.{run_events}
use Rattle.module_state.specs.Dispatch.{pending_part, pending_after}
use Rattle.module_state.specs.Entries.{events_in, IsSpellable}
use Rattle.module_state.specs.Logs.{due_in}
use Rattle.module_state.specs.Module.{Module, tentative}
use Rattle.module_state.specs.Services.{history_of, module_of}
use Rattle.module_state.proofs.DueLaws.{length_pending}
use Rattle.module_state.proofs.EntryLaws.{history_fits}
use Rattle.module_state.proofs.PendingLaws.{length_after}
use Rattle.module_state.proofs.RangeLaws.{module_fits, tentative_fits, due_spells}
use Rattle.member_disk.specs.Kept.{Kept}
use Rattle.member_module.specs.Held.{Held as ModuleHeld}
use Rattle.consensus_core.specs.declared.row.Row.{Row}
use Rattle.consensus_core.specs.declared.values.Values.{Values}
use Rattle.consensus_core.specs.Fit.{IsFit, has_term}
use Rattle.consensus_core.specs.Member.{is_ready}
use Rattle.consensus_core.specs.Reign.{does_duty}
use Rattle.consensus_core.specs.Sendable.{receives}
use Rattle.consensus_core.specs.Standing.{CanMake}
use Rattle.consensus_core.proofs.Standing.{packets_fit, duties_fit}
use Rattle.consensus_agent.specs.Sound.{IsSound}
use Rattle.consensus_agent.proofs.Commits.{receives_moves, duty_moves, rises_of}
use Rattle.consensus_agent.proofs.Due.{due_of_term, same_duty}
use Rattle.member_rows.proofs.Logs.{events_more}

-- a row whose change can be made of this log, and by which the commit doesn't fall
pub record Fitting (row : Row) (v : Values) (log : Log) : Type 0 where
  pub can : CanMake row.change v row.values (shape_of log)
  pub rises : v.rest.commit ≤ row.values.rest.commit

pub packet-fitting : (v : Values) (k : Kept) (whole : Bool) (m : ModuleHeld) (p : Packet) (now : ℕ) → IsSound v k whole m → IsPacket p → Fitting (receives v (shape_of k.log) p now) v k.log
packet-fitting v k whole m p now s spelled = record {
  can = (packets_fit v (shape_of k.log) p now s.standing s.fit spelled).0;
  rises = rises_of v.rest _ (receives v (shape_of k.log) p now) (receives_moves v (shape_of k.log) p now);
}

-- ---- what is due has a spelling

spelled : (es : List Event) → AllByRecursion IsSpellable es → AllByRecursion HasSpelling es
spelled [] h = tt
spelled (e ∷ es) h = (h.0.0, spelled es h.1)

back : (xs ys : List Event) → AllByRecursion IsSpellable (xs ++ ys) → AllByRecursion IsSpellable ys
back [] ys h = h
back (x ∷ xs) ys h = back xs ys h.1

front : (xs ys : List Event) → AllByRecursion IsSpellable (xs ++ ys) → AllByRecursion IsSpellable xs
front [] ys h = tt
front (x ∷ xs) ys h = (h.0, front xs ys h.1)

pending_same : (m : PendingTable) (es : List Event) → length (run_events pending_part m es) ≡ length m
pending_same m [] = refl
pending_same m (e ∷ es) = pending_same (pending_after m e) es ∙ length_after m e

due-spelled : (kinds : List Kind) (a b : List Event) (alive : List (ℤ × ℕ)) (term : ℤ) (now since : ℕ) → AllByRecursion IsSpellable a → AllByRecursion IsSpellable b → length kinds ≤ 3 → IsNumber term → now ≤ 2 ^ 62
    → All HasSpelling (due_in kinds a b alive term now since)
due-spelled kinds a b alive term now since sa sb three t early =
    let m : Module = module_of kinds a in
    let view : Module = tentative m b in
    let fits = module_fits (length kinds) (history_of kinds a) (history_fits kinds a sa) in
    let size : length view.pending ≡ length kinds = pending_same m.pending b ∙ length_pending (length kinds) (history_of kinds a) in
    All-from_recursion HasSpelling (due_in kinds a b alive term now since) (due_spells m view b alive term now since fits (tentative_fits m b fits (spelled b sb)) (omega (arith, size, three)) t early)

-- over a log of which so many entries were applied
log-due : (kinds : List Kind) (log : Log) (applied : ℕ) (alive : List (ℤ × ℕ)) (term : ℤ) (now since : ℕ) → AllByRecursion IsSpellable (events_in log) → length kinds ≤ 3 → IsNumber term → now ≤ 2 ^ 62
    → All HasSpelling (due_in kinds (events_in (take applied log)) (events_in (drop applied log)) alive term now since)
log-due kinds log applied alive term now since spells three t early =
    let parts : events_in log ≡ events_in (take applied log) ++ events_in (drop applied log) = ap events_in (sym (take-append-drop applied log)) ∙ events_more (take applied log) (drop applied log) in
    let both : AllByRecursion IsSpellable (events_in (take applied log) ++ events_in (drop applied log)) = subst (AllByRecursion IsSpellable) parts spells in
    due-spelled kinds (events_in (take applied log)) (events_in (drop applied log)) alive term now since
    (front (events_in (take applied log)) (events_in (drop applied log)) both) (back (events_in (take applied log)) (events_in (drop applied log)) both) three t early

-- ---- a duty's row

ready_reigns : (s : State) → is_ready s ≡ true → has_term s ≡ true
ready_reigns LeaderReady h = refl
ready_reigns _ h = absurd (cc)

term-low : (v : Values) → IsFit v.election → is_ready v.election.state ≡ true → pos 0 ≤ℤ v.election.term
term-low v fit ready = fit.reigning (ready_reigns v.election.state ready)

module _ (kinds : List Kind) (v : Values) (k : Kept) (whole : Bool) (m : ModuleHeld) (applied : ℕ) (alive : List (ℤ × ℕ)) (now since : ℕ) where
  abbrev xs : Shape
  xs = shape_of k.log

  abbrev es : List Event
  es = due_in kinds (events_in (take applied k.log)) (events_in (drop applied k.log)) alive v.election.term now since

  duty-can : length kinds ≤ 3 → now ≤ 2 ^ 60 → IsSound v k whole m → AllByRecursion IsSpellable (events_in k.log) → (b : Bool) → is_ready v.election.state ≡ b → CanMake (does_duty v xs es now).change v (does_duty v xs es now).values xs
  duty-can three early s spells true ready =
      let number : IsNumber v.election.term = (term-low v s.fit ready, s.fit.term.high) in
      (duties_fit v xs es now s.standing s.fit early (log-due kinds k.log applied alive v.election.term now since spells three number (omega (arith, early)))
      (due_of_term es (module_of kinds (events_in (take applied k.log))) (tentative (module_of kinds (events_in (take applied k.log))) (events_in (drop applied k.log))) (events_in (drop applied k.log)) alive v.election.term now since refl)).0
  duty-can three early s spells false not_ready =
      let none : does_duty v xs [] now ≡ does_duty v xs es now = same_duty v.election.state v xs [] es now (λ h. absurd (cc (h, not_ready))) in
      subst (λ (r : Row). CanMake r.change v r.values xs) none (duties_fit v xs [] now s.standing s.fit early (All-nil HasSpelling) (All-nil (λ (e : Event). term_of e ≡ v.election.term))).0

  pub duty-fitting : length kinds ≤ 3 → now ≤ 2 ^ 60 → IsSound v k whole m → AllByRecursion IsSpellable (events_in k.log) → Fitting (does_duty v xs es now) v k.log
  duty-fitting three early s spells = record {
    can = duty-can three early s spells (is_ready v.election.state) refl;
    rises = rises_of v.rest _ (does_duty v xs es now) (duty_moves v xs es now);
  }
