-- The snapshot actions of a log, as its module counts them.
use Rattle.std.proofs.Common.{◌≡◌, ℕ, zero, suc, ◌+◌, ◌-◌, ◌<◌, ◌≤◌, ◌^◌, ℤ, Bool, List, [], ◌∷◌, ◌++◌, length, map, take, drop, min, Option, refl, sym, ap, ◌∙◌, subst, arith, append_assoc, if◌then◌else◌}
use Rattle.std.specs.Prelude.{slice_get}
use Rattle.std.specs.List.{AllByRecursion}
use Rattle.std.proofs.lemmas.List.{append-nil, take-append-drop}
use Rattle.entry_log.specs.Log.{Log}
use Rattle.sbe_events.specs.declared.event.Event.{Event}
use Rattle.sbe_events.specs.declared.event.Event.TheVariants as events
use Rattle.sbe_events.specs.Laws.{encoded}
use Rattle.sbe_events.specs.Spelling.{HasSpelling, event_of}
use Rattle.service_api.specs.declared.shipped.Kind.{Kind}
use Rattle.service_api.specs.Shipped.{first_of}
use Rattle.service_runs.specs.Hosts.{Rules, actions}
use Rattle.module_state.specs.Allowed.{AllowedFrom, IsAllowed}
use Rattle.module_state.specs.Counts.{Counts, counts_after}
use Rattle.module_state.specs.Entries.{IsWellFormedOn, events_in}
use Rattle.module_state.specs.Logs.{IsWellFormedLog, MayFollowLog, services_over}
use Rattle.module_state.specs.Module.{Module, module_after, module_part}
use Rattle.module_state.specs.Part.{Asked, History, Taken, after_asks}
use Rattle.module_state.specs.Places.{entry_of}
use Rattle.module_state.specs.Services.{asks_of, history_from, history_of, module_of}
use Rattle.module_state.proofs.LogLaws.{front_well_formed, whole}
use Rattle.module_state.proofs.Runs.{asks_keep}
use Rattle.module_state.proofs.StepLaws.{module_push}
use Rattle.one_log.specs.Ruled.{is_snapshot, rules_of}
use Rattle.member_phases.proofs.Events.{all-front, all-spelled, entry-there, front-more, some_of, there}

-- ---- one event more is allowed

last-allowed : (n : ℕ) (h ts : History) (t : Taken) → AllowedFrom n h (ts ++ t ∷ []) → IsAllowed n (h ++ ts) t.event
last-allowed n h [] t all = subst (λ (z : History). IsAllowed n z t.event) (sym (append-nil h)) all.0
last-allowed n h (x ∷ ts) t all = subst (λ (z : History). IsAllowed n z t.event) (append_assoc h (x ∷ []) ts) (last-allowed n (h ++ x ∷ []) ts t all.1)

last-follows : (kinds : List Kind) (xs : List Event) (e : Event) → IsWellFormedLog kinds (xs ++ e ∷ []) → MayFollowLog kinds xs e
last-follows kinds xs e formed =
    let split : history_of kinds (xs ++ e ∷ []) ≡ history_of kinds xs ++ history_from (services_over (map first_of kinds) 0 xs) (0 + length xs) (e ∷ []) = whole kinds xs (e ∷ []) in
    last-allowed (length kinds) [] (history_of kinds xs) _ (subst (λ (h : History). AllowedFrom (length kinds) [] h) split formed)

-- ---- the counts

abbrev one_if : Bool → ℕ
one_if b = if b then 1 else 0

counts-step : (c : Counts) (e : Event) → c.actions ≤ 2 ^ 62 → (counts_after c e).actions ≡ min (c.actions + one_if (is_snapshot (some_of e))) (2 ^ 62)
counts-step c (events.Term term position stamp base leader) low = omega (arith, low)
counts-step c (events.Opened term corr session stamp stream channel) low = omega (arith, low)
counts-step c (events.Message term session stamp payload) low = omega (arith, low)
counts-step c (events.ServiceMessage term service n stamp payload) low = omega (arith, low)
counts-step c (events.Timer term corr stamp) low = omega (arith, low)
counts-step c (events.Closed term session stamp reason) low = omega (arith, low)
counts-step c (events.Snapshot term position stamp) low = refl

abbrev SameCounts : Module → Module → Type 0
SameCounts a b = b.counts ≡ a.counts

asks-count : (m : Module) (asks : List Asked) → (after_asks module_part m asks).counts ≡ m.counts
asks-count m asks = asks_keep module_part (SameCounts m) (λ t v c same. same) m asks refl

actions-append : (r : Rules) (xs ys : Log) → actions r (xs ++ ys) ≡ actions r xs + actions r ys
actions-append r [] ys = omega arith
actions-append r (x ∷ xs) ys = let a = actions-append r xs ys in plus (one_if (r.is_action x)) (actions r xs) (actions r ys) (actions r (xs ++ ys)) a
  where
    plus : (p a b c : ℕ) → c ≡ a + b → p + c ≡ (p + a) + b
    plus p a b c e = omega (arith, e)

module _ (kinds : List Kind) (log : Log) (formed : IsWellFormedOn kinds log) where
  abbrev es : List Event
  es = events_in log

  abbrev r : Rules
  r = rules_of kinds

  pub spelled-at : (k : ℕ) (e : Event) → slice_get es k ≡ some_of e → HasSpelling e
  spelled-at k e at = last (take k es) (subst (AllByRecursion HasSpelling) (front-more es k e at) (all-front HasSpelling es (suc k) (all-spelled es formed.spellable)))
    where
      last : (xs : List Event) → AllByRecursion HasSpelling (xs ++ e ∷ []) → HasSpelling e
      last [] all = all.0
      last (x ∷ xs) all = last xs all.1

  -- the event of an entry
  pub event-at : (k : ℕ) (e : Event) → slice_get es k ≡ some_of e → event_of (entry_of e).bytes ≡ some_of e
  event-at k e at = encoded e (spelled-at k e at)

  pub push-at : (k : ℕ) (e : Event) → slice_get es k ≡ some_of e
      → module_of kinds (take (suc k) es) ≡ after_asks module_part (module_after (module_of kinds (take k es)) e) (asks_of kinds (take k es ++ e ∷ []) (length (take k es)))
  push-at k e at =
      let more : take (suc k) es ≡ take k es ++ e ∷ [] = front-more es k e at in
      ap (module_of kinds) more
      ∙ module_push kinds (take k es) e (subst (AllByRecursion HasSpelling) more (all-front HasSpelling es (suc k) (all-spelled es formed.spellable)))

  counts-at : (k : ℕ) (e : Event) → slice_get es k ≡ some_of e → (module_of kinds (take (suc k) es)).counts ≡ counts_after (module_of kinds (take k es)).counts e
  counts-at k e at =
      ap (λ (m : Module). m.counts) (push-at k e at) ∙ asks-count (module_after (module_of kinds (take k es)) e) (asks_of kinds (take k es ++ e ∷ []) (length (take k es)))

  actions-at : (k : ℕ) (e : Event) → slice_get es k ≡ some_of e → actions r (take (suc k) log) ≡ actions r (take k log) + one_if (is_snapshot (some_of e))
  actions-at k e at =
      ap (actions r) (front-more log k (entry_of e) (entry-there kinds log formed k e at))
      ∙ actions-append r (take k log) (entry_of e ∷ [])
      ∙ ap (λ (o : Option Event). actions r (take k log) + (one_if (is_snapshot o) + 0)) (event-at k e at)
      ∙ (let p = one_if (is_snapshot (some_of e)) in drop-zero (actions r (take k log)) p)
    where
      drop-zero : (a p : ℕ) → a + (p + 0) ≡ a + p
      drop-zero a p = omega arith

  -- up to its limit
  pub counted : (k : ℕ) → k ≤ length es → (module_of kinds (take k es)).counts.actions ≡ min (actions r (take k log)) (2 ^ 62)
  counted zero few = refl
  counted (suc k) few =
      let at = there es k (omega (arith, few)) in
      let e : Event = at.0 in
      let before = counted k (omega (arith, few)) in
      let step = counts-step (module_of kinds (take k es)).counts e (low (module_of kinds (take k es)).counts.actions (actions r (take k log)) before) in
      ap (λ (c : Counts). c.actions) (counts-at k e at.1)
      ∙ step
      ∙ more (module_of kinds (take k es)).counts.actions (actions r (take k log)) (one_if (is_snapshot (some_of e))) (actions r (take (suc k) log)) before (actions-at k e at.1)
    where
      low : (c a : ℕ) → c ≡ min a (2 ^ 62) → c ≤ 2 ^ 62
      low c a e = omega (arith, e)

      more : (c a p b : ℕ) → c ≡ min a (2 ^ 62) → b ≡ a + p → min (c + p) (2 ^ 62) ≡ min b (2 ^ 62)
      more c a p b e f = omega (arith, e, f)

  -- an action is one of the first 256
  pub few-before : (k : ℕ) (term position stamp : ℤ) → slice_get es k ≡ some_of (events.Snapshot term position stamp) → k < length es → actions r (take k log) < 256
  few-before k term position stamp at less =
      let e = events.Snapshot term position stamp in
      let front : IsWellFormedLog kinds (take k es ++ e ∷ []) = subst (IsWellFormedLog kinds) (front-more es k e at) (fronts es (suc k) formed.allowed) in
      let row = (last-follows kinds (take k es) e front).row in
      below (module_of kinds (take k es)).counts.actions (actions r (take k log)) (counted k (omega (arith, less))) row.1
    where
      fronts : (xs : List Event) (n : ℕ) → IsWellFormedLog kinds xs → IsWellFormedLog kinds (take n xs)
      fronts xs n all = front_well_formed kinds (take n xs) (drop n xs) (subst (IsWellFormedLog kinds) (sym (take-append-drop n xs)) all)

      below : (c a : ℕ) → c ≡ min a (2 ^ 62) → c < 256 → a < 256
      below c a e less = omega (arith, e, less)

  -- and the module counts it
  pub counts-it : (k : ℕ) (term position stamp : ℤ) → slice_get es k ≡ some_of (events.Snapshot term position stamp) → k < length es → (module_of kinds (take (suc k) es)).counts.actions - 1 ≡ actions r (take k log)
  counts-it k term position stamp at less =
      let a = counted (suc k) less in
      let b = actions-at k (events.Snapshot term position stamp) at in
      let c = few-before k term position stamp at less in
      one (module_of kinds (take (suc k) es)).counts.actions (actions r (take (suc k) log)) (actions r (take k log)) a b c
    where
      one : (c b a : ℕ) → c ≡ min b (2 ^ 62) → b ≡ a + 1 → a < 256 → c - 1 ≡ a
      one c b a e f g = omega (arith, e, f, g)
