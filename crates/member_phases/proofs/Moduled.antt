-- The module once it took what the services consumed.
use Rattle.std.proofs.Common.{◌≡◌, ℕ, ◌+◌, ◌-◌, List, take, drop, sym, ap, ◌∙◌, arith}
use Rattle.entry_log.specs.Log.{Log}
use Rattle.sbe_events.specs.declared.event.Event.{Event}
use Rattle.service_api.specs.declared.shipped.Kind.{Kind}
use Rattle.service_container.specs.Held.{Held}
use Rattle.consensus_agent.specs.Consumed.{outboxes}
use Rattle.module_state.specs.Entries.{IsWellFormedOn, events_in}
use Rattle.module_state.specs.Services.{module_of}
use Rattle.owed_egress.specs.Taken.{Outboxes, module_over, outboxes_in}
use Rattle.owed_egress.proofs.Asked.{module_goes_on}
use Rattle.member_phases.specs.Grown.{GrewTo}
use Rattle.member_phases.proofs.Events.{all-spelled, front-events, log-long, rest-events}
use Rattle.member_phases.proofs.Grown.{grown-boxes}

-- what the module takes
pub taken-events : (kinds : List Kind) (log : Log) (applied n : ℕ) → IsWellFormedOn kinds log → take n (events_in (drop applied log)) ≡ take n (drop applied (events_in log))
taken-events kinds log applied n formed = ap (take n) (rest-events kinds log formed applied)

pub module-grown : (kinds : List Kind) (log : Log) (base applied commit : ℕ) (cs ds : List Held) (xss : List Log) → IsWellFormedOn kinds log → GrewTo kinds log base applied commit cs ds xss
    → module_over (outboxes ds) applied (module_of kinds (events_in (take applied log))) (take (commit - applied) (events_in (drop applied log))) ≡ module_of kinds (events_in (take commit log))
module-grown kinds log base applied commit cs ds xss formed g =
    let n = commit - applied in
    let es = events_in log in
    let due = g.due in
    let within = g.within in
    let long = log-long kinds log formed in
    let to : applied + n ≡ commit = omega (arith, due) in
    ap (λ (bs : Outboxes). module_over bs applied (module_of kinds (events_in (take applied log))) (take n (events_in (drop applied log)))) (grown-boxes kinds log base applied commit cs ds xss formed.are g)
    ∙ ap (λ (fs : List Event). module_over (outboxes_in kinds es applied n) applied (module_of kinds fs) (take n (events_in (drop applied log)))) (front-events kinds log formed applied)
    ∙ ap (module_over (outboxes_in kinds es applied n) applied (module_of kinds (take applied es))) (taken-events kinds log applied n formed)
    ∙ module_goes_on kinds es applied n n (omega arith) (omega (arith, to, within, long)) (all-spelled es formed.spellable)
    ∙ ap (λ (k : ℕ). module_of kinds (take k es)) to
    ∙ ap (module_of kinds) (sym (front-events kinds log formed commit))
