-- The records that a service left at an action.
use Rattle.std.proofs.Common.{◌≡◌, ℕ, zero, suc, ◌+◌, ◌-◌, ◌<◌, ◌≤◌, ◌==◌, ℤ, Bool, true, false, List, [], ◌∷◌, ◌++◌, length, take, drop, Option, Some, None, refl, sym, ap, ◌∙◌, arith, zero-add, if◌then◌else◌}
use Rattle.std.specs.Prelude.{slice_get}
use Rattle.std.proofs.lemmas.Bool.Decides.{nat_tests}
use Rattle.std.proofs.lemmas.List.{take-take}
use Rattle.std.proofs.Math.Seq.{drop-append_seam, take-append-add}
use Rattle.cl_base.specs.declared.entry.Entry.{Entry}
use Rattle.entry_log.specs.Log.{Log}
use Rattle.run_orders.specs.Stands.{HasInput}
use Rattle.sbe_events.specs.declared.event.Event.{Event}
use Rattle.sbe_events.specs.declared.event.Event.TheVariants as events
use Rattle.sbe_events.specs.Spelling.{event_of}
use Rattle.service_api.specs.declared.shipped.Kind.{Kind}
use Rattle.service_api.specs.declared.shipped.Shipped.{Shipped}
use Rattle.service_api.specs.Service.{at_entry, state_from, state_of}
use Rattle.service_api.specs.Shipped.{first_of, spelled_of}
use Rattle.service_container.specs.Held.{Held}
use Rattle.service_container.specs.Records.{found_at, left_by, records_from}
use Rattle.service_runs.proofs.Lists.{take-length}
use Rattle.member_phases.proofs.Events.{get-front, get-past, some-is, some_of}
use Rattle.member_phases.proofs.Grown.{state-append}

abbrev Left : Type 0
Left = List (ℕ × List ℕ)

other : (i q : ℕ) → i < q → (i == q) ≡ false
other i q less = grind (arith, nat_tests, less)

-- what an earlier entry left isn't found
passed : (i q : ℕ) (o : Option Event) (s : Shipped) (rest : Left) → i < q → found_at q (left_by i o s ++ rest) ≡ found_at q rest
passed i q None s rest less = refl
passed i q (Some (events.Snapshot term position stamp)) s rest less = ap (λ (b : Bool). if b then Some (spelled_of s) else found_at q rest) (other i q less)
passed i q (Some (events.Term term position stamp base leader)) s rest less = refl
passed i q (Some (events.Opened term corr session stamp stream channel)) s rest less = refl
passed i q (Some (events.Message term session stamp payload)) s rest less = refl
passed i q (Some (events.ServiceMessage term service number stamp payload)) s rest less = refl
passed i q (Some (events.Timer term corr stamp)) s rest less = refl
passed i q (Some (events.Closed term session stamp reason)) s rest less = refl

abbrev action : ℤ → ℤ → ℤ → Option Event
action term position stamp = Some (events.Snapshot term position stamp)

found : (s : Shipped) (i j : ℕ) (xs : List Entry) (x : Entry) (term position stamp : ℤ) → slice_get xs j ≡ some_of x → event_of x.bytes ≡ action term position stamp → found_at (i + j) (records_from s i xs) ≡ some_of (spelled_of (state_from s i (take (suc j) xs)))
found s i j [] x term position stamp at is = absurd (cc)
found s i zero (y ∷ xs) x term position stamp at is =
    let t = (at_entry s i y).0 in
    let rest = records_from t (i + 1) xs in
    let same : (i == i + 0) ≡ true = grind (arith, nat_tests) in
    ap (λ (o : Option Event). found_at (i + 0) (left_by i o t ++ rest)) (ap (λ (z : Entry). event_of z.bytes) (some-is y x at) ∙ is)
    ∙ ap (λ (b : Bool). if b then some_of (spelled_of t) else found_at (i + 0) rest) same
found s i (suc j) (y ∷ xs) x term position stamp at is =
    let t = (at_entry s i y).0 in
    passed i (i + suc j) (event_of y.bytes) t (records_from t (i + 1) xs) (omega arith)
    ∙ ap (λ (q : ℕ). found_at q (records_from t (i + 1) xs)) (further i j)
    ∙ found t (i + 1) j xs x term position stamp at is
  where
    further : (i j : ℕ) → i + suc j ≡ (i + 1) + j
    further i j = omega arith

-- of a container that consumed the log up to the commit
pub found-in : (kind : Kind) (base commit : ℕ) (log : Log) (number : ℕ) (d : Held) (k : ℕ) (x : Entry) (term position stamp : ℤ) → HasInput kind base log number d (take commit log) → base ≤ k → k < commit → base ≤ length log
    → slice_get log k ≡ some_of x → event_of x.bytes ≡ action term position stamp → found_at k d.records ≡ some_of (spelled_of (state_of kind (take (suc k) log)))
found-in kind base commit log number d k x term position stamp is low less within at ev =
    let j = k - base in
    let to : base + j ≡ k = omega (arith, low) in
    let on : base + suc j ≡ suc k = omega (arith, low) in
    let long : length (take base log) ≡ base = take-length base log within in
    let s = state_of kind (take base log) in
    let mine : d.inputs ≡ drop base (take commit log) = sym (drop-append_seam (take base log) d.inputs) ∙ ap (λ (n : ℕ). drop n (take base log ++ d.inputs)) long ∙ ap (drop base) (sym is.inputs) in
    let here : slice_get d.inputs j ≡ some_of x = ap (λ (l : List Entry). slice_get l j) mine ∙ get-past (take commit log) base j ∙ ap (slice_get (take commit log)) to ∙ get-front log k commit less ∙ at in
    let front : take base log ++ take (suc j) d.inputs ≡ take (suc k) log =
    sym (take-append-add (take base log) d.inputs (suc j)) ∙ ap (λ (n : ℕ). take (n + suc j) (take base log ++ d.inputs)) long ∙ ap (λ (n : ℕ). take n (take base log ++ d.inputs)) on
    ∙ ap (take (suc k)) (sym is.inputs) ∙ take-take (suc k) commit log (omega (arith, less)) in
    let after : state_from s base (take (suc j) d.inputs) ≡ state_of kind (take (suc k) log) =
    ap (λ (n : ℕ). state_from s n (take (suc j) d.inputs)) (sym (zero-add (length (take base log)) ∙ long)) ∙ sym (state-append (first_of kind) 0 (take base log) (take (suc j) d.inputs)) ∙ ap (state_of kind) front in
    ap (found_at k) is.records
    ∙ ap (λ (q : ℕ). found_at q (records_from s base d.inputs)) (sym to)
    ∙ found s base j d.inputs x term position stamp here ev
    ∙ ap (λ (t : Shipped). some_of (spelled_of t)) after
