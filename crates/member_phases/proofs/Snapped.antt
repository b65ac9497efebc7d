-- The snapshots of a phase are those that are due.
use Rattle.std.proofs.Common.{◌≡◌, ℕ, zero, suc, ◌+◌, ◌-◌, ◌*◌, ◌<◌, ◌≤◌, ℤ, pos, negsuc, Bool, true, false, ◌&&◌, List, [], ◌∷◌, ◌++◌, length, map, take, drop, Option, refl, sym, ap, ◌∙◌, arith, add-one, add-zero, zero-add, append_assoc, if◌then◌else◌}
use Rattle.std.specs.Prelude.{nat_le, nat_lt, slice_get}
use Rattle.std.proofs.lemmas.Bool.Decides.{nat_tests}
use Rattle.std.proofs.lemmas.List.{append-nil, map-append, take-map}
use Rattle.cl_base.specs.declared.entry.Entry.{Entry}
use Rattle.entry_log.specs.Log.{Log, last, place}
use Rattle.entry_log.specs.Shape.{end_from-shape_of, end_of, entry_shape, shape_of}
use Rattle.sbe_events.specs.declared.event.Event.{Event}
use Rattle.sbe_events.specs.declared.event.Event.TheVariants as events
use Rattle.sbe_local.specs.declared.piece.Piece.{Piece}
use Rattle.sbe_local.specs.declared.piece.Piece.TheVariants.{Marker, ServiceState}
use Rattle.sbe_local.specs.declared.piece.Mark.TheVariants.{Begin, End}
use Rattle.sbe_local.specs.Pieces.{piece_spelling_of}
use Rattle.service_api.specs.declared.shipped.Kind.{Kind}
use Rattle.service_api.specs.Service.{state_of}
use Rattle.service_api.specs.Shipped.{spelled_of}
use Rattle.service_container.specs.Held.{Held}
use Rattle.service_container.specs.Records.{found_at}
use Rattle.service_runs.specs.Hosts.{Due, Rules, actions, due_for, due_in, due_of, service_of, services_due}
use Rattle.service_runs.proofs.Lists.{last-of_snoc}
use Rattle.snapshot_pieces.specs.Pieces.{between, service_pieces_of}
use Rattle.consensus_agent.specs.Written.{Snapshot, action_at, action_with, actions_over, module_snapshot, origin_at, head_at, service_snapshots, snapshot_with, snapshots_of}
use Rattle.consensus_agent.specs.declared.snapshots.Action.{Action}
use Rattle.consensus_agent.proofs.Writing.{actions_next}
use Rattle.module_state.specs.Entries.{IsWellFormedOn, events_in}
use Rattle.module_state.specs.Module.{Module}
use Rattle.module_state.specs.Places.{entry_of}
use Rattle.module_state.specs.Recorded.{pieces_of}
use Rattle.module_state.specs.Services.{module_of}
use Rattle.one_log.specs.Ruled.{is_snapshot, pieces_in, records_of, rules_of, stamp_in, state_pieces}
use Rattle.owed_egress.specs.Taken.{module_over, module_with, outboxes_in}
use Rattle.owed_egress.proofs.Asked.{module_goes_on}
use Rattle.owed_egress.proofs.Over.{over_next}
use Rattle.run_orders.specs.Stands.{HaveInputs}
use Rattle.member_phases.specs.Snapshots.{snap_in, snapshot_as}
use Rattle.member_phases.proofs.Counted.{counts-it, event-at, few-before}
use Rattle.member_phases.proofs.Events.{all-spelled, entry-there, front-events, front-more, get-past, log-long, some_of, there}
use Rattle.member_phases.proofs.Found.{found-in}

-- ---- lists of what is due

-- those of so many services from one on
abbrev from_due : Rules → Log → Entry → ℕ → ℕ → List Due
from_due r before x v zero = []
from_due r before x v (suc c) = due_for r before x (suc v) ∷ from_due r before x (suc v) c

due-split : (r : Rules) (before : Log) (x : Entry) (v c : ℕ) → services_due r before x (v + c) ≡ services_due r before x v ++ from_due r before x v c
due-split r before x v zero = ap (services_due r before x) (add-zero v) ∙ sym (append-nil (services_due r before x v))
due-split r before x v (suc c) =
    let e : v + suc c ≡ suc v + c = omega arith in
    ap (services_due r before x) e ∙ due-split r before x (suc v) c ∙ append_assoc (services_due r before x v) (due_for r before x (suc v) ∷ []) (from_due r before x (suc v) c)

snapshots-append : (ds : List Held) (as' bs : List Action) → snapshots_of ds (as' ++ bs) ≡ snapshots_of ds as' ++ snapshots_of ds bs
snapshots-append ds [] bs = refl
snapshots-append ds (a ∷ as') bs =
    let own = service_snapshots a ds ++ module_snapshot a ∷ [] in
    ap (λ (l : List Snapshot). own ++ l) (snapshots-append ds as' bs) ∙ sym (append_assoc own (snapshots_of ds as') (snapshots_of ds bs))

-- the snapshots of some actions, and of some more
joined : (ds : List Held) (all old new : List Action) (before more dues : List Due) → all ≡ old ++ new → map snapshot_as (snapshots_of ds old) ≡ map snap_in before → map snapshot_as (snapshots_of ds new) ≡ map snap_in more → dues ≡ before ++ more
    → map snapshot_as (snapshots_of ds all) ≡ map snap_in dues
joined ds all old new before more dues split a b is =
    ap (λ (l : List Action). map snapshot_as (snapshots_of ds l)) split
    ∙ ap (map snapshot_as) (snapshots-append ds old new)
    ∙ map-append snapshot_as (snapshots_of ds old) (snapshots_of ds new)
    ∙ (λ i. a i ++ b i)
    ∙ sym (map-append snap_in before more)
    ∙ ap (map snap_in) (sym is)

-- the pieces between two markers
pieces-same : (kinds : List Kind) (front : Log) (seat position : ℕ) (term : ℤ) (ps : List Piece) → position ≡ place front → term ≡ last front → ps ≡ records_of kinds front seat
    → between (record { service = service_of seat; position = position; term = term }) (map piece_spelling_of ps) ≡ pieces_in kinds front seat
pieces-same kinds front seat position term ps at of recs =
    let begins = Marker (service_of seat) (pos position) term Begin in
    let ends = Marker (service_of seat) (pos position) term End in
    ap (λ (l : List (List ℕ)). piece_spelling_of begins ∷ l) (sym (map-append piece_spelling_of ps (ends ∷ [])))
    ∙ (λ i. map piece_spelling_of (Marker (service_of seat) (pos (at i)) (of i) Begin ∷ (recs i ++ Marker (service_of seat) (pos (at i)) (of i) End ∷ [])))

module _ (kinds : List Kind) (log : Log) (formed : IsWellFormedOn kinds log) (base commit : ℕ) (low : base ≤ length log) (within : commit ≤ length log) where
  abbrev es : List Event
  es = events_in log

  abbrev r : Rules
  r = rules_of kinds

  -- ---- an action

  module _ (k : ℕ) (less : k < commit) (term position stamp : ℤ) (at : slice_get es k ≡ some_of (events.Snapshot term position stamp)) (m : Module) (is : m ≡ module_of kinds (take (suc k) es)) where
    abbrev e : Event
    e = events.Snapshot term position stamp

    abbrev x : Entry
    x = entry_of e

    abbrev before : Log
    before = take k log

    abbrev front : Log
    front = before ++ x ∷ []

    abbrev a : Action
    a = action_at k (end_of (take (k + 1) (shape_of log))) term stamp m

    in-log : k < length es
    in-log = let l = log-long kinds log formed in omega (arith, less, within, l)

    front-is : front ≡ take (suc k) log
    front-is = sym (front-more log k x (entry-there kinds log formed k e at))

    before-is : a.before ≡ actions r before
    before-is = ap (λ (z : Module). z.counts.actions - 1) is ∙ counts-it kinds log formed k term position stamp at in-log

    place-is : a.position ≡ place front
    place-is =
        ap (λ (n : ℕ). end_of (take n (shape_of log))) (add-one k)
        ∙ ap end_of (take-map entry_shape (suc k) log)
        ∙ end_from-shape_of 0 (take (suc k) log)
        ∙ ap place (sym front-is)

    term-is : term ≡ last front
    term-is = sym (last-of_snoc (negsuc 0) before x)

    stamp-is : stamp ≡ r.stamp x
    stamp-is = ap stamp_in (sym (event-at kinds log formed k e at))

    -- one seat's
    seat-snap : (seat number : ℕ) (ps : List Piece) → number ≡ seat → ps ≡ records_of kinds front seat
        → snapshot_as (record { head = record { recording = 4 * a.before + number; service = service_of seat; term = term; position = a.position; stamp = stamp }; pieces = between (record { service = service_of seat; position = a.position; term = term }) (map piece_spelling_of ps) })
        ≡ snap_in (due_for r before x seat)
    seat-snap seat number ps same recs = λ i. record {
      recording = 4 * before-is i + same i;
      service = service_of seat;
      term = term;
      position = place-is i;
      stamp = stamp-is i;
      pieces = pieces-same kinds front seat a.position term ps place-is term-is recs i;
    }

    module-snap : snapshot_as (module_snapshot a) ≡ snap_in (due_for r before x 0)
    module-snap = seat-snap 0 0 (pieces_of m) refl (ap pieces_of (is ∙ ap (module_of kinds) (sym (front-events kinds log formed (suc k)) ∙ ap events_in (sym front-is))))

    -- the services'
    services-snap : (v : ℕ) (ks : List Kind) (ds : List Held) (xss : List Log) → HaveInputs ks base log v ds (map (λ (xs : Log). take commit log) xss) → (1 ≤ length ks → base ≤ k) → ((j : ℕ) (kind : Kind) → slice_get ks j ≡ some_of kind → slice_get kinds (v + j) ≡ some_of kind)
        → map snapshot_as (service_snapshots a ds) ≡ map snap_in (from_due r before x v (length ks))
    services-snap v [] [] [] have from has = refl
    services-snap v [] [] (xs ∷ xss) have from has = absurd have
    services-snap v [] (d ∷ ds) xss have from has = absurd have
    services-snap v (kind ∷ ks) [] xss have from has = absurd have
    services-snap v (kind ∷ ks) (d ∷ ds) [] have from has = absurd have
    services-snap v (kind ∷ ks) (d ∷ ds) (xs ∷ xss) have from has =
        let mine : slice_get kinds v ≡ some_of kind = ap (slice_get kinds) (sym (add-zero v)) ∙ has 0 kind refl in
        let left : found_at k d.records ≡ some_of (spelled_of (state_of kind (take (suc k) log))) =
        found-in kind base commit log v d k x term position stamp have.0 (from (omega arith)) less low (entry-there kinds log formed k e at) (event-at kinds log formed k e at) in
        let state = spelled_of (state_of kind (take (suc k) log)) in
        let recs : ServiceState state ∷ [] ≡ records_of kinds front (suc v) = (λ i. state_pieces (sym mine i) (sym front-is i)) in
        let rest = service_snapshots a ds in
        let one : snapshot_as (record { head = head_at a (pos v); pieces = service_pieces_of (origin_at a (pos v)) state }) ≡ snap_in (due_for r before x (suc v)) = seat-snap (suc v) (v + 1) (ServiceState state ∷ []) (add-one v) recs in
        ap (λ (o : Option (List ℕ)). map snapshot_as (snapshot_with a d.service o ++ rest)) left
        ∙ ap (λ (n : ℕ). map snapshot_as (snapshot_with a n (some_of state) ++ rest)) have.0.service
        ∙ (λ i. one i ∷ services-snap (suc v) ks ds xss have.1 (λ some. from (omega arith)) (λ j q in_ks. ap (slice_get kinds) (on v j) ∙ has (suc j) q in_ks) i)
      where
        on : (v j : ℕ) → suc v + j ≡ v + suc j
        on v j = omega arith

    action-snaps : (ds : List Held) (xss : List Log) → HaveInputs kinds base log 0 ds (map (λ (xs : Log). take commit log) xss) → (1 ≤ length kinds → base ≤ k) → map snapshot_as ((service_snapshots a ds ++ module_snapshot a ∷ []) ++ []) ≡ map snap_in (due_of r before (some_of x))
    action-snaps ds xss have from =
        let own = service_snapshots a ds in
        let dues = services_due r before x (length kinds) in
        let split : dues ≡ from_due r before x 0 (length kinds) = ap (services_due r before x) (sym (zero-add (length kinds))) ∙ due-split r before x 0 (length kinds) in
        let few : nat_lt (actions r before) 256 ≡ true = (let f = few-before kinds log formed k term position stamp at in-log in grind (arith, nat_tests, f)) in
        ap (map snapshot_as) (append-nil (own ++ module_snapshot a ∷ []))
        ∙ map-append snapshot_as own (module_snapshot a ∷ [])
        ∙ (λ i. (services-snap 0 kinds ds xss have from (λ j kind is. ap (slice_get kinds) (zero-add j) ∙ is) ∙ ap (map snap_in) (sym split)) i ++ module-snap i ∷ [])
        ∙ sym (map-append snap_in dues (due_for r before x 0 ∷ []))
        ∙ ap (λ (b : Bool). map snap_in (if b then dues ++ due_for r before x 0 ∷ [] else [])) (sym few)
        ∙ ap (λ (o : Option Event). map snap_in (if is_snapshot o && nat_lt (actions r before) 256 then dues ++ due_for r before x 0 ∷ [] else [])) (sym (event-at kinds log formed k e at))

  -- ---- one entry

  -- an event that is no action
  none-due : (k : ℕ) (e : Event) → slice_get es k ≡ some_of e → is_snapshot (some_of e) ≡ false → [] ≡ map snap_in (due_of r (take k log) (some_of (entry_of e)))
  none-due k e at plain =
      let x = entry_of e in
      let dues = services_due r (take k log) x (length kinds) ++ due_for r (take k log) x 0 ∷ [] in
      ap (λ (b : Bool). map snap_in (if b && nat_lt (actions r (take k log)) 256 then dues else [])) (sym plain)
      ∙ ap (λ (o : Option Event). map snap_in (if is_snapshot o && nat_lt (actions r (take k log)) 256 then dues else [])) (sym (event-at kinds log formed k e at))

  module _ (ds : List Held) (xss : List Log) (have : HaveInputs kinds base log 0 ds (map (λ (xs : Log). take commit log) xss)) where
    event-snaps : (k : ℕ) → k < commit → (1 ≤ length kinds → base ≤ k) → (e : Event) → slice_get es k ≡ some_of e → (m : Module) → m ≡ module_of kinds (take (suc k) es)
        → map snapshot_as (snapshots_of ds (action_with (shape_of log) k (some_of e) m)) ≡ map snap_in (due_of r (take k log) (some_of (entry_of e)))
    event-snaps k less from (events.Snapshot term position stamp) at m is = action-snaps k less term position stamp at m is ds xss have from
    event-snaps k less from (events.Term term position stamp b leader) at m is = none-due k (events.Term term position stamp b leader) at refl
    event-snaps k less from (events.Opened term corr session stamp stream channel) at m is = none-due k (events.Opened term corr session stamp stream channel) at refl
    event-snaps k less from (events.Message term session stamp payload) at m is = none-due k (events.Message term session stamp payload) at refl
    event-snaps k less from (events.ServiceMessage term service n stamp payload) at m is = none-due k (events.ServiceMessage term service n stamp payload) at refl
    event-snaps k less from (events.Timer term corr stamp) at m is = none-due k (events.Timer term corr stamp) at refl
    event-snaps k less from (events.Closed term session stamp reason) at m is = none-due k (events.Closed term session stamp reason) at refl

    -- ---- all of them

    none-below : (from n : ℕ) → n ≤ from → due_in r log from n ≡ []
    none-below from zero few = refl
    none-below from (suc n) few =
        let past : nat_le from n ≡ false = grind (arith, nat_tests, few) in
        (λ i. none-below from n (omega (arith, few)) i ++ (if past i then due_of r (take n log) (slice_get log n) else []))

    one-more : (from n : ℕ) → due_in r log from (from + suc n) ≡ due_in r log from (from + n) ++ due_of r (take (from + n) log) (slice_get log (from + n))
    one-more from n =
        let is : from + suc n ≡ suc (from + n) = omega arith in
        let up : nat_le from (from + n) ≡ true = grind (arith, nat_tests) in
        ap (due_in r log from) is ∙ ap (λ (b : Bool). due_in r log from (from + n) ++ (if b then due_of r (take (from + n) log) (slice_get log (from + n)) else [])) up

    pub over-snaps : (first many n : ℕ) → (1 ≤ length kinds → base ≤ first) → n ≤ many → first + many ≤ commit
        → map snapshot_as (snapshots_of ds (actions_over (outboxes_in kinds es first many) (shape_of log) first (module_of kinds (take first es)) (take n (drop first es)))) ≡ map snap_in (due_in r log first (first + n))
    over-snaps first many zero from few room = ap (map snap_in) (sym (none-below first (first + 0) (omega arith)))
    over-snaps first many (suc n) from few room =
        let bs = outboxes_in kinds es first many in
        let xs = shape_of log in
        let start = module_of kinds (take first es) in
        let long = log-long kinds log formed in
        let k = first + n in
        let less : k < commit = omega (arith, few, room) in
        let found = there es k (omega (arith, less, within, long)) in
        let e : Event = found.0 in
        let here : slice_get (drop first es) n ≡ some_of e = get-past es first n ∙ found.1 in
        let spelled = all-spelled es formed.spellable in
        let next : module_with bs k (module_over bs first start (take n (drop first es))) (some_of e) ≡ module_of kinds (take (suc k) es) =
        ap (module_with bs k (module_over bs first start (take n (drop first es)))) (sym here)
        ∙ sym (over_next bs first n start (drop first es))
        ∙ ap (λ (j : ℕ). module_over bs first start (take j (drop first es))) (add-one n)
        ∙ module_goes_on kinds es first many (suc n) few (omega (arith, few, room, within, long)) spelled
        ∙ ap (λ (j : ℕ). module_of kinds (take j es)) (on first n) in
        let old = actions_over bs xs first start (take n (drop first es)) in
        let new = action_with xs k (some_of e) (module_with bs k (module_over bs first start (take n (drop first es))) (some_of e)) in
        let split : actions_over bs xs first start (take (suc n) (drop first es)) ≡ old ++ new =
        ap (λ (j : ℕ). actions_over bs xs first start (take j (drop first es))) (sym (add-one n))
        ∙ actions_next bs xs first n start (drop first es)
        ∙ ap (λ (o : Option Event). old ++ action_with xs k o (module_with bs k (module_over bs first start (take n (drop first es))) o)) here in
        joined ds (actions_over bs xs first start (take (suc n) (drop first es))) old new (due_in r log first k) (due_of r (take k log) (some_of (entry_of e))) (due_in r log first (first + suc n)) split
        (over-snaps first many n from (omega (arith, few)) room)
        (event-snaps k less (λ some. low-at (from some)) e found.1 (module_with bs k (module_over bs first start (take n (drop first es))) (some_of e)) next)
        (one-more first n ∙ ap (λ (o : Option Entry). due_in r log first k ++ due_of r (take k log) o) (entry-there kinds log formed k e found.1))
      where
        on : (first n : ℕ) → first + suc n ≡ suc (first + n)
        on first n = omega arith

        low-at : base ≤ first → base ≤ first + n
        low-at h = omega (arith, h)
