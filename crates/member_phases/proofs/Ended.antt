-- A member whose services have consumed all that is committed, in a phase that goes on or within one call.
use Rattle.std.proofs.Common.{◌≡◌, ℕ, ◌≤◌, Bool, List, [], ◌∷◌, length, map, take, drop, sym, ap, ◌∙◌, subst, arith}
use Rattle.cl_base.specs.Disk.{DiskState}
use Rattle.commit_counter.specs.declared.role.Role.{Role}
use Rattle.egress.specs.declared.sent.Sent.{Sent}
use Rattle.entry_log.specs.Log.{Log}
use Rattle.entry_log.specs.Shape.{shape_of}
use Rattle.sbe_events.specs.declared.event.Event.{Event}
use Rattle.service_api.specs.declared.shipped.Kind.{Kind}
use Rattle.service_container.specs.Held.{Held}
use Rattle.service_phases.specs.Pairs.{Each2}
use Rattle.service_runs.specs.Hosts.{due_in, sent_in}
use Rattle.consensus_core.specs.declared.values.Values.{Values}
use Rattle.consensus_agent.specs.Consumed.{outboxes}
use Rattle.consensus_agent.specs.Written.{actions_over, snapshots_of}
use Rattle.module_state.specs.Entries.{IsWellFormedOn, events_in}
use Rattle.module_state.specs.Module.{Module}
use Rattle.module_state.specs.Services.{module_of}
use Rattle.one_log.specs.Ruled.{rules_of}
use Rattle.owed_egress.specs.Taken.{module_over, sent_over}
use Rattle.run_world.specs.Lawful.{Lawful}
use Rattle.run_world.specs.Seat.{Seat}
use Rattle.run_world.specs.RunWorld.{RunWorld, committed, seat}
use Rattle.run_orders.specs.Stands.{HaveInputs, IsRecord, IsUp, UpSeen, term_led}
use Rattle.member_phases.specs.Calls.{behind, commit_of, snapshots_due}
use Rattle.member_phases.specs.Grown.{GrewTo}
use Rattle.member_phases.specs.Snapshots.{snap_in, snapshot_as}
use Rattle.member_phases.proofs.Grown.{grown}
use Rattle.member_phases.proofs.Moduled.{module-grown}
use Rattle.member_phases.proofs.Phased.{log-formed}
use Rattle.member_phases.proofs.Recorded.{records-each, snapshots-each}
use Rattle.member_phases.proofs.Worlds.{commit-low}

same-many : (f : Log) (xss yss : List Log) → length xss ≡ length yss → map (λ (xs : Log). f) xss ≡ map (λ (xs : Log). f) yss
same-many f [] [] same = λ i. []
same-many f [] (y ∷ yss) same = absurd (omega (arith, same))
same-many f (x ∷ xss) [] same = absurd (omega (arith, same))
same-many f (x ∷ xss) (y ∷ yss) same = ap (λ (l : List Log). f ∷ l) (same-many f xss yss (omega (arith, same)))

module _ {D : Type 0} (state : D → DiskState) (kinds : List Kind) (n : ℕ) (w : RunWorld) (m : ℕ) (five : n ≤ 5) (three : length kinds ≤ 3) (lawful : Lawful n kinds w) (u : UpSeen D) (going : Bool) (up : IsUp state kinds u going (seat w m)) where
  abbrev pub s : Seat
  s = seat w m

  abbrev pub past : Log
  past = s.member.durable.log

  abbrev pub first : ℕ
  first = u.module_held.consumed

  pub same-commit : commit_of u ≡ s.member.values.rest.commit
  same-commit = ap (λ (v : Values). v.rest.commit) up.values

  pub formed : IsWellFormedOn kinds past
  formed = log-formed n kinds w m five three lawful

  pub within : s.member.values.rest.commit ≤ length past
  within = commit-low n kinds w m lawful

  pub commit-within : commit_of u ≤ length past
  commit-within = let a = within in let b = same-commit in omega (arith, a, b)

  pub entries-at : u.module_held.ahead.entries ≡ drop first past
  entries-at = up.has_module.entries ∙ ap (λ (k : ℕ). drop k past) (sym up.has_module.applied)

  pub events-at : u.module_held.ahead.events ≡ events_in (drop first past)
  events-at = up.has_module.events ∙ ap (λ (k : ℕ). events_in (drop k past)) (sym up.has_module.applied)

  pub state-at : u.module_held.state ≡ module_of kinds (events_in (take first past))
  state-at = up.has_module.state ∙ ap (λ (k : ℕ). module_of kinds (events_in (take k past))) (sym up.has_module.applied)

  -- ---- what its services became

  module _ (v : UpSeen D) (cs : List Held) (xss : List Log) (g : GrewTo kinds past u.base first (commit_of u) cs v.lending.kept xss) (count : length xss ≡ length s.run.inputs) where
    pub all-inputs : HaveInputs kinds u.base past 0 v.lending.kept (map (λ (xs : Log). committed s.member) s.run.inputs)
    all-inputs =
        subst (HaveInputs kinds u.base past 0 v.lending.kept) (same-many (committed s.member) xss s.run.inputs count)
        (subst (λ (k : ℕ). HaveInputs kinds u.base past 0 v.lending.kept (map (λ (xs : Log). take k past) xss)) same-commit (grown kinds past u.base first (commit_of u) cs v.lending.kept xss g).inputs)

    pub state-after : v.module_held.state ≡ module_over (outboxes v.lending.kept) first u.module_held.state (take (behind u) u.module_held.ahead.events) → v.module_held.state ≡ module_of kinds (events_in (committed s.member))
    state-after is =
        is
        ∙ ap (λ (t : Module). module_over (outboxes v.lending.kept) first t (take (behind u) u.module_held.ahead.events)) state-at
        ∙ ap (λ (es : List Event). module_over (outboxes v.lending.kept) first (module_of kinds (events_in (take first past))) (take (behind u) es)) events-at
        ∙ module-grown kinds past u.base first (commit_of u) cs v.lending.kept xss formed g
        ∙ ap (λ (k : ℕ). module_of kinds (events_in (take k past))) same-commit

    pub records-are : (role : Role) (sent : List Sent) → sent ≡ sent_over role (outboxes v.lending.kept) first u.module_held.state (take (behind u) u.module_held.ahead.events)
        → Each2 IsRecord (sent_in (rules_of kinds) m (term_led role) past s.applied s.member.values.rest.commit) sent
    records-are role sent owed =
        subst (λ (k : ℕ). Each2 IsRecord (sent_in (rules_of kinds) m (term_led role) past k s.member.values.rest.commit) sent) up.has_module.applied
        (subst (λ (k : ℕ). Each2 IsRecord (sent_in (rules_of kinds) m (term_led role) past first k) sent) same-commit
        (subst (λ (l : List Sent). Each2 IsRecord (sent_in (rules_of kinds) m (term_led role) past first (commit_of u)) l) (sym is)
        (records-each kinds past u.base first (commit_of u) cs v.lending.kept xss m role formed g)))
      where
        is : sent ≡ sent_over role (outboxes v.lending.kept) first (module_of kinds (events_in (take first past))) (take (behind u) (events_in (drop first past)))
        is =
            owed
            ∙ ap (λ (t : Module). sent_over role (outboxes v.lending.kept) first t (take (behind u) u.module_held.ahead.events)) state-at
            ∙ ap (λ (es : List Event). sent_over role (outboxes v.lending.kept) first (module_of kinds (events_in (take first past))) (take (behind u) es)) events-at

    pub snapshots-are : map snapshot_as (snapshots_due u v) ≡ map snap_in (due_in (rules_of kinds) past s.applied s.member.values.rest.commit)
    snapshots-are =
        let over = λ (l : Log) (t : Module) (es : List Event). map snapshot_as (snapshots_of v.lending.kept (actions_over (outboxes v.lending.kept) (shape_of l) first t (take (behind u) es))) in
        ap (λ (l : Log). over l u.module_held.state u.module_held.ahead.events) (sym up.durable.log)
        ∙ ap (λ (t : Module). over past t u.module_held.ahead.events) state-at
        ∙ ap (over past (module_of kinds (events_in (take first past)))) events-at
        ∙ snapshots-each kinds past u.base first (commit_of u) cs v.lending.kept xss formed g
        ∙ ap (λ (k : ℕ). map snap_in (due_in (rules_of kinds) past k (commit_of u))) up.has_module.applied
        ∙ ap (λ (k : ℕ). map snap_in (due_in (rules_of kinds) past s.applied k)) same-commit
