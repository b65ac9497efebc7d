-- The records that a phase sends.
use Rattle.std.proofs.Common.{◌≡◌, ℕ, ◌+◌, ◌-◌, ◌≤◌, List, [], ◌∷◌, length, map, take, drop, sym, ap, ◌∙◌, subst, arith}
use Rattle.commit_counter.specs.declared.role.Role.{Role}
use Rattle.consensus_agent.specs.Consumed.{outboxes}
use Rattle.egress.specs.declared.sent.Sent.{Sent}
use Rattle.entry_log.specs.Log.{Log}
use Rattle.module_state.specs.Entries.{IsWellFormedOn, events_in}
use Rattle.module_state.specs.Services.{module_of}
use Rattle.one_log.specs.Ruled.{rules_of}
use Rattle.owed_egress.specs.Taken.{Outboxes, outboxes_in, sent_over}
use Rattle.run_orders.specs.Stands.{HaveInputs, IsRecord, term_led}
use Rattle.sbe_events.specs.declared.event.Event.{Event}
use Rattle.service_api.specs.declared.shipped.Kind.{Kind}
use Rattle.service_container.specs.Held.{Held}
use Rattle.service_phases.specs.Pairs.{Each, Each2}
use Rattle.service_runs.specs.Hosts.{due_in, sent_in}
use Rattle.member_phases.specs.Grown.{GrewTo}
use Rattle.member_phases.proofs.Events.{front-events, rest-events}
use Rattle.member_phases.proofs.Grown.{grown, grown-boxes}
use Rattle.member_phases.proofs.Moduled.{taken-events}
use Rattle.member_phases.proofs.Owed.{over-each}
use Rattle.member_phases.proofs.Snapped.{over-snaps}
use Rattle.member_phases.specs.Snapshots.{snap_in, snapshot_as}
use Rattle.consensus_agent.specs.Written.{actions_over, snapshots_of}
use Rattle.entry_log.specs.Shape.{shape_of}
use Rattle.service_phases.specs.Phases.{IsAt}

pub records-each : (kinds : List Kind) (log : Log) (base applied commit : ℕ) (cs ds : List Held) (xss : List Log) (m : ℕ) (role : Role) → IsWellFormedOn kinds log → GrewTo kinds log base applied commit cs ds xss
    → Each2 IsRecord (sent_in (rules_of kinds) m (term_led role) log applied commit) (sent_over role (outboxes ds) applied (module_of kinds (events_in (take applied log))) (take (commit - applied) (events_in (drop applied log))))
records-each kinds log base applied commit cs ds xss m role formed g =
    let n = commit - applied in
    let es = events_in log in
    let due = g.due in
    let within = g.within in
    let to : applied + n ≡ commit = omega (arith, due) in
    let same : sent_over role (outboxes ds) applied (module_of kinds (events_in (take applied log))) (take n (events_in (drop applied log))) ≡ sent_over role (outboxes_in kinds es applied n) applied (module_of kinds (take applied es)) (take n (drop applied es)) =
    ap (λ (bs : Outboxes). sent_over role bs applied (module_of kinds (events_in (take applied log))) (take n (events_in (drop applied log)))) (grown-boxes kinds log base applied commit cs ds xss formed.are g)
    ∙ ap (λ (fs : List Event). sent_over role (outboxes_in kinds es applied n) applied (module_of kinds fs) (take n (events_in (drop applied log)))) (front-events kinds log formed applied)
    ∙ ap (sent_over role (outboxes_in kinds es applied n) applied (module_of kinds (take applied es))) (taken-events kinds log applied n formed) in
    subst (λ (ys : List Sent). Each2 IsRecord (sent_in (rules_of kinds) m (term_led role) log applied commit) ys) (sym same)
    (subst (λ (c : ℕ). Each2 IsRecord (sent_in (rules_of kinds) m (term_led role) log applied c) (sent_over role (outboxes_in kinds es applied n) applied (module_of kinds (take applied es)) (take n (drop applied es)))) to
    (over-each kinds log formed m role applied n n (omega arith) (omega (arith, to, within))))

-- where there is a service, what it began with is no more than what it had consumed
base-low : (kinds : List Kind) (base applied : ℕ) (log : Log) (number : ℕ) (cs : List Held) (xss : List Log) → HaveInputs kinds base log number cs xss → Each (IsAt applied) cs → 1 ≤ length kinds → base ≤ applied
base-low [] base applied log number cs xss have at some = absurd (omega (arith, some))
base-low (kind ∷ kinds) base applied log number [] xss have at some = absurd have
base-low (kind ∷ kinds) base applied log number (c ∷ cs) [] have at some = absurd have
base-low (kind ∷ kinds) base applied log number (c ∷ cs) (xs ∷ xss) have at some = let a = at.0.place in let b = have.0.base in omega (arith, a, b)

-- the snapshots that it writes
pub snapshots-each : (kinds : List Kind) (log : Log) (base applied commit : ℕ) (cs ds : List Held) (xss : List Log) → IsWellFormedOn kinds log → GrewTo kinds log base applied commit cs ds xss
    → map snapshot_as (snapshots_of ds (actions_over (outboxes ds) (shape_of log) applied (module_of kinds (events_in (take applied log))) (take (commit - applied) (events_in (drop applied log))))) ≡ map snap_in (due_in (rules_of kinds) log applied commit)
snapshots-each kinds log base applied commit cs ds xss formed g =
    let n = commit - applied in
    let es = events_in log in
    let due = g.due in
    let to : applied + n ≡ commit = omega (arith, due) in
    let over = λ (bs : Outboxes) (fs more : List Event). map snapshot_as (snapshots_of ds (actions_over bs (shape_of log) applied (module_of kinds fs) (take n more))) in
    ap (λ (bs : Outboxes). over bs (events_in (take applied log)) (events_in (drop applied log))) (grown-boxes kinds log base applied commit cs ds xss formed.are g)
    ∙ ap (λ (fs : List Event). over (outboxes_in kinds es applied n) fs (events_in (drop applied log))) (front-events kinds log formed applied)
    ∙ ap (over (outboxes_in kinds es applied n) (take applied es)) (rest-events kinds log formed applied)
    ∙ over-snaps kinds log formed base commit g.low g.within ds xss (grown kinds log base applied commit cs ds xss g).inputs applied n n (base-low kinds base applied log 0 cs xss g.have g.at) (omega arith) (omega (arith, to))
    ∙ ap (λ (k : ℕ). map snap_in (due_in (rules_of kinds) log applied k)) to
