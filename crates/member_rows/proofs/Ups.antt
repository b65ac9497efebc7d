-- A row that was done, on both sides.
use Rattle.std.proofs.Common.{◌≡◌, ℕ, suc, ◌≤◌, ℤ, Bool, true, false, ◌&&◌, ◌||◌, List, [], ◌∷◌, ◌++◌, length, take, drop, Option, refl, sym, ap, ◌∙◌, subst, arith, length-append, if◌then◌else◌}
use Rattle.std.specs.Prelude.{IsTrue, not, nat_lt}
use Rattle.std.proofs.lemmas.Bool.Decides.{nat_tests}
use Rattle.std.proofs.lemmas.List.{length-map, length-take-le}
use Rattle.cl_base.specs.Disk.{DiskState}
use Rattle.cl_base.specs.declared.disk.Choice.{Choice}
use Rattle.entry_log.specs.Durable.{Durable}
use Rattle.entry_log.specs.Log.{Log}
use Rattle.entry_log.specs.Shape.{entry_shape, shape_of}
use Rattle.commit_counter.specs.declared.role.Role.{Role}
use Rattle.log_segment.specs.Held.{IsHeld}
use Rattle.recording_log.specs.declared.entry.RecEntry.{RecEntry}
use Rattle.sbe_consensus.specs.declared.packet.Outgoing.{Outgoing}
use Rattle.service_api.specs.declared.shipped.Kind.{Kind}
use Rattle.service_api.specs.Service.{state_of}
use Rattle.service_container.specs.Held.{Held as ContainerHeld}
use Rattle.service_container.specs.Records.{records_from}
use Rattle.service_phases.specs.Pairs.{Each, Each2}
use Rattle.service_phases.specs.Phases.{Lending}
use Rattle.service_runs.specs.Hosts.{is_over}
use Rattle.member_disk.specs.CutWell.{snapshots_of}
use Rattle.module_state.specs.Entries.{events_in}
use Rattle.module_state.specs.Services.{module_of}
use Rattle.consensus_core.specs.declared.change.Change.{Change}
use Rattle.consensus_core.specs.declared.change.Change.TheVariants as changes
use Rattle.consensus_core.specs.declared.row.Row.{Row}
use Rattle.consensus_core.specs.declared.values.Values.{Values}
use Rattle.consensus_core.specs.Member.{Member, Whole, after, changed, changed_log, is_ready}
use Rattle.consensus_agent.specs.Disks.{IsRight}
use Rattle.consensus_agent.specs.Sound.{is_cut}
use Rattle.consensus_agent.specs.Taken.{ahead_after, events_after}
use Rattle.run_world.specs.Seat.{Seat, Fate, Phase, Goes, phase_after, went_on}
use Rattle.run_orders.specs.Kept.{HasBase, IsStored, IsStateOf, IsMountable}
use Rattle.run_orders.specs.Stands.{EndedSeen, HasInput, HaveInputs, IsPhase, IsSeat, IsUp, UpSeen, containers_of, term_led}
use Rattle.member_rows.specs.Calls.{RowDone}
use Rattle.member_rows.specs.Places.{ActedWhole, running_seat}
use Rattle.member_rows.proofs.Due.{Fitting}
use Rattle.member_rows.proofs.Images.{all-stored-on, log-changes, state-after}
use Rattle.member_rows.proofs.Logs.{Keeps, events_same, front_same, held_after, keeps_long, keeps_of, rest_same}
use Rattle.member_rows.proofs.Made.{made-log, made-node, spoken-sent}
use Rattle.member_rows.proofs.Shorter.{IsShorter}

pub log-after : (c : Change) (d : Durable) → (changed c d).log ≡ changed_log c d.log
log-after changes.Nothing d = refl
log-after (changes.Raise term voted) d = refl
log-after (changes.Append entries) d = refl
log-after (changes.Cut n) d = refl

-- a log is shorter after a cut, and only then
cut-shortens : (c : Change) (d : Durable) → IsShorter (length d.log) c → is_cut c ≡ nat_lt (length (changed c d).log) (length d.log)
cut-shortens changes.Nothing d short = grind (arith, nat_tests)
cut-shortens (changes.Raise term voted) d short = grind (arith, nat_tests)
cut-shortens (changes.Append entries) d short = let n = length-append d.log entries in grind (arith, nat_tests, n)
cut-shortens (changes.Cut n) d short = let l = length-take-le n d.log (omega (arith, short)) in grind (arith, nat_tests, short, l)

phase-goes : (x y : Member) (r : Option ℤ) (o : Bool) → phase_after x y (Goes r o) ≡ Goes r (o || is_over x y)
phase-goes x y r true = refl
phase-goes x y r false = refl

phase-is : (going : Bool) (r q : Role) (o p : Bool) (x y : Member) (h : Phase) → IsPhase going r o h → q ≡ r → p ≡ (o || is_over x y) → IsPhase going q p (phase_after x y h)
phase-is true r q o p x y h is role over =
    ap (phase_after x y) is ∙ phase-goes x y (term_led r) o ∙ ap (λ (b : Bool). Goes (term_led r) b) (sym over) ∙ ap (λ (z : Role). Goes (term_led z) p) (sym role)
phase-is false r q o p x y h is role over = ap (phase_after x y) is

-- ---- the services' inputs, over another log with the same front

input-on : (kind : Kind) (count : ℕ) (log new : Log) (number : ℕ) (c : ContainerHeld) (xs : Log) → take count new ≡ take count log → HasInput kind count log number c xs → HasInput kind count new number c xs
input-on kind count log new number c xs same is = record {
  service = is.service;
  base = is.base;
  inputs = is.inputs ∙ ap (λ (l : Log). l ++ c.inputs) (sym same);
  state = is.state;
  records = is.records ∙ ap (λ (l : Log). records_from (state_of kind l) count c.inputs) (sym same);
  whole = is.whole;
}

inputs-on : (kinds : List Kind) (base : ℕ) (log new : Log) (number : ℕ) (cs : List ContainerHeld) (xss : List Log) → take base new ≡ take base log → HaveInputs kinds base log number cs xss → HaveInputs kinds base new number cs xss
inputs-on [] base log new number [] [] same have = have
inputs-on [] base log new number [] (xs ∷ xss) same have = absurd have
inputs-on [] base log new number (c ∷ cs) xss same have = absurd have
inputs-on (kind ∷ kinds) base log new number [] xss same have = absurd have
inputs-on (kind ∷ kinds) base log new number (c ∷ cs) [] same have = absurd have
inputs-on (kind ∷ kinds) base log new number (c ∷ cs) (xs ∷ xss) same have = (input-on kind base log new number c xs same have.0, inputs-on kinds base log new (suc number) cs xss same have.1)

-- ---- the member

module _ {D : Type 0} (state : D → DiskState) (is_told is_honest : D → Bool) (kinds : List Kind) (row : Row) (now : ℕ) (u v : UpSeen D) (going : Bool) (s : Seat) (out : List Outgoing) where
  abbrev log : Log
  log = s.member.durable.log

  abbrev new : Log
  new = (changed row.change s.member.durable).log

  module _ (up : IsUp state kinds u going s) (honest : IsTrue (is_honest u.disk.disk)) (fits : Fitting row s.member.values log) (short : IsShorter (length log) row.change) (bases : Each (HasBase (changed_log row.change log)) (snapshots_of u.disk.kept.entries)) (floor : u.base ≤ s.member.values.rest.commit)
      (d : RowDone state is_told is_honest row now u v out) where
    same-commit : u.core.values.rest.commit ≡ s.member.values.rest.commit
    same-commit = ap (λ (x : Values). x.rest.commit) up.values

    many : length (shape_of u.disk.kept.log) ≡ length log
    many = length-map u.disk.kept.log entry_shape ∙ ap (λ (l : Log). length l) (sym up.durable.log)

    applied-low : s.applied ≤ s.member.values.rest.commit
    applied-low = let a = d.was.consumed in let b = same-commit in let c = up.has_module.applied in omega (arith, a, b, c)

    commit-low : s.member.values.rest.commit ≤ length log
    commit-low = let a = d.was.standing.commit in let b = same-commit in let c = many in omega (arith, a, b, c)

    applied-within : s.applied ≤ length log
    applied-within = let a = applied-low in let b = commit-low in omega (arith, a, b)

    keeps : (first : ℕ) → first ≤ s.member.values.rest.commit → Keeps row.change first log
    keeps first low = let r = fits.rises in keeps_of row.change s.member.values row.values log first fits.can (omega (arith, low, r))

    front : (first : ℕ) → first ≤ s.member.values.rest.commit → take first new ≡ take first log
    front first low = let c = commit-low in ap (take first) (log-after row.change s.member.durable) ∙ front_same row.change first log (keeps first low) (omega (arith, low, c))

    kept-log : v.disk.kept.log ≡ changed_log row.change log
    kept-log = made-log row.change u.disk.kept v.disk.kept d.ran.change ∙ ap (changed_log row.change) (sym up.durable.log)

    right : IsRight state is_told is_honest u.disk
    right = record { honest = honest; each = up.each; terms = up.mountable.terms }

    was-held : IsHeld log
    was-held = subst IsHeld (sym up.durable.log) up.mountable.held

    mountable : IsMountable (length kinds) v.disk.kept
    mountable = record {
      count = d.went.kept.services ∙ up.mountable.count;
      held = subst IsHeld (sym kept-log) (held_after row.change s.applied log (keeps s.applied applied-low) was-held);
      terms = d.went.kept.terms up.mountable.terms;
      bases = subst (λ (g : Log). Each (HasBase g) (snapshots_of v.disk.kept.entries)) (sym kept-log) (subst (Each (HasBase (changed_log row.change log))) (sym d.went.kept.snapshots) bases);
    }

    durable : IsStateOf v.disk.kept (state v.disk.disk).files (changed row.change s.member.durable)
    durable = state-after row.change u.disk.kept v.disk.kept (state u.disk.disk).files (state v.disk.disk).files s.member.durable
        (made-node row.change u.disk.kept v.disk.kept d.ran.change)
        (made-log row.change u.disk.kept v.disk.kept d.ran.change ∙ sym (log-changes row.change u.disk.kept))
        (subst (λ (es : List RecEntry). Each2 (IsStored (state v.disk.disk).files) es s.member.durable.snapshots) (sym d.went.kept.snapshots)
        (all-stored-on (state u.disk.disk).files (state v.disk.disk).files (d.went.files right) (snapshots_of u.disk.kept.entries) s.member.durable.snapshots up.durable.snapshots))
        up.durable

    entries : v.module_held.ahead.entries ≡ drop s.applied new
    entries =
        d.taken.taken.entries
        ∙ ap (λ (k : ℕ). ahead_after row.change k u.module_held.ahead.entries) up.has_module.applied
        ∙ ap (ahead_after row.change s.applied) up.has_module.entries
        ∙ sym (rest_same row.change s.applied log (keeps s.applied applied-low) applied-within)
        ∙ ap (drop s.applied) (sym (log-after row.change s.member.durable))

    events : v.module_held.ahead.events ≡ events_in (drop s.applied new)
    events =
        d.taken.taken.events
        ∙ ap (λ (k : ℕ). events_after row.change k u.module_held.ahead.events) up.has_module.applied
        ∙ ap (events_after row.change s.applied) up.has_module.events
        ∙ sym (events_same row.change s.applied log (keeps s.applied applied-low) applied-within was-held.events)
        ∙ ap (λ (l : Log). events_in (drop s.applied l)) (sym (log-after row.change s.member.durable))

    inputs : HaveInputs kinds v.base new 0 (containers_of going v.lending) s.run.inputs
    inputs =
        subst (λ (b : ℕ). HaveInputs kinds b new 0 (containers_of going v.lending) s.run.inputs) (sym d.rest.base)
        (subst (λ (l : Lending). HaveInputs kinds u.base new 0 (containers_of going l) s.run.inputs) (sym d.rest.services)
        (inputs-on kinds u.base log new 0 (containers_of going u.lending) s.run.inputs (front u.base floor) up.inputs))

    within : v.base ≤ length new
    within =
        let a = keeps_long row.change u.base log (keeps u.base floor) up.within in
        let b : length new ≡ length (changed_log row.change log) = ap (λ (l : Log). length l) (log-after row.change s.member.durable) in
        let c = d.rest.base in
        omega (arith, a, b, c)

    over : v.over ≡ (u.over || is_over s.member (after row Whole s.member))
    over =
        d.taken.phase
        ∙ ap (λ (x : Values). u.over || (is_cut row.change || (is_ready row.values.election.state && not (is_ready x.election.state)))) up.values
        ∙ ap (λ (b : Bool). u.over || (b || (is_ready row.values.election.state && not (is_ready s.member.values.election.state)))) (cut-shortens row.change s.member.durable short)

    -- with the keep-alives of its reign
    up-went : (f : Fate) (alive : List (ℤ × ℕ)) (since : ℕ) → v.module_held.alive ≡ alive → v.module_held.since ≡ since → IsUp state kinds v going (record (went_on (after row Whole s.member) f s) { alive = alive; since = since })
    up-went f alive since la ls = record {
      up = refl;
      values = d.ran.values;
      whole = d.is.disk;
      mountable = mountable;
      each = d.done.stands right;
      durable = durable;
      has_module = record {
        applied = d.taken.taken.consumed ∙ up.has_module.applied;
        state = d.taken.taken.state ∙ up.has_module.state ∙ ap (λ (l : Log). module_of kinds (events_in l)) (sym (front s.applied applied-low));
        entries = entries;
        events = events;
        coming = d.taken.taken.coming ∙ up.has_module.coming;
        alive = la;
        since = ls;
      };
      first = d.rest.base ∙ up.first;
      within = within;
      inputs = inputs;
      phase = phase-is going u.role v.role u.over v.over s.member (after row Whole s.member) s.phase up.phase d.rest.role over;
    }

    abbrev begins : Bool
    begins = is_ready row.values.election.state && not (is_ready s.member.values.election.state)

    alive-is : v.module_held.alive ≡ (if begins then [] else s.alive)
    alive-is =
        d.taken.taken.alive
        ∙ ap (λ (x : Values). if is_ready row.values.election.state && not (is_ready x.election.state) then [] else u.module_held.alive) up.values
        ∙ ap (λ (l : List (ℤ × ℕ)). if begins then [] else l) up.has_module.alive

    since-is : v.module_held.since ≡ (if begins then now else s.since)
    since-is =
        d.taken.taken.since
        ∙ ap (λ (x : Values). if is_ready row.values.election.state && not (is_ready x.election.state) then now else u.module_held.since) up.values
        ∙ ap (λ (t : ℕ). if begins then now else t) up.has_module.since

    abbrev fate : Fate
    fate = record { cut = Whole; lets = (state v.disk.disk).lets; own = (state v.disk.disk).own_faults }

    module _ (choice : Choice) (ended : List EndedSeen) (is : IsSeat state kinds (running_seat choice ended u going) s) where
      seat-went : (alive : List (ℤ × ℕ)) (since : ℕ) → v.module_held.alive ≡ alive → v.module_held.since ≡ since
          → IsSeat state kinds (running_seat choice ended v going) (record (went_on (after row Whole s.member) fate s) { alive = alive; since = since })
      seat-went alive since la ls = record {
        home = up-went fate alive since la ls;
        faults = record { lets = refl; left = is.faults.left; own = refl; alive = (d.done.passed right is.faults.alive).burnt };
        ended = is.ended;
      }

      by-reign : (b : Bool) → v.module_held.alive ≡ (if b then [] else s.alive) → v.module_held.since ≡ (if b then now else s.since)
          → IsSeat state kinds (running_seat choice ended v going) (went_on (after row Whole s.member) fate (if b then record s { alive = []; since = now } else s))
      by-reign true la ls = seat-went [] now la ls
      by-reign false la ls = seat-went s.alive s.since la ls

      pub seat-done : IsTrue (is_told u.disk.disk) → ActedWhole state kinds row now s out (running_seat choice ended v going)
      seat-done told = record {
        fate = fate;
        cut = refl;
        seat = by-reign begins alive-is since-is;
        sent = spoken-sent (is_told u.disk.disk) row s.member v.disk.kept.log out told kept-log d.ran.sent;
      }
