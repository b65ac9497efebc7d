-- A log through a row's change.
use Rattle.std.proofs.Common.{◌≡◌, ℕ, zero, suc, ◌+◌, ◌-◌, ◌≤◌, ℤ, List, [], ◌∷◌, ◌++◌, length, take, drop, Option, Some, None, refl, sym, ap, ◌∙◌, subst, arith, length-append}
use Rattle.std.specs.Prelude.{All, ⊤, negsuc}
use Rattle.std.proofs.lemmas.List.{take-append-le, drop-append-le, drop-take, length-map, length-take-le}
use Rattle.std.proofs.lemmas.List.Elements.{All-head, All-tail, All-append, All-nil, All-cons}
use Rattle.entry_log.specs.Log.{Log, RisesFrom, last_from, place}
use Rattle.entry_log.specs.Shape.{Shape, TermsRiseFrom, entry_shape, shape_of, end_of, last_term_of, end_from-shape_of, last_term_from-shape_of}
use Rattle.sbe_events.specs.declared.event.Event.{Event}
use Rattle.sbe_events.specs.Spelling.{event_of}
use Rattle.sbe_consensus.specs.Spelling.{AreEntries}
use Rattle.log_segment.specs.Held.{IsEventEntry, IsHeld}
use Rattle.log_segment.proofs.HeldLemmas.{held_take}
use Rattle.module_state.specs.Entries.{events_in, with_event}
use Rattle.consensus_core.specs.declared.change.Change.{Change}
use Rattle.consensus_core.specs.declared.change.Change.TheVariants as changes
use Rattle.consensus_core.specs.declared.values.Values.{Values}
use Rattle.consensus_core.specs.Member.{changed_log}
use Rattle.consensus_core.specs.Standing.{CanFollow, CanMake}
use Rattle.consensus_agent.specs.Taken.{ahead_after, events_after}

-- a change that can be made, by which the first so many entries stay
abbrev pub Keeps : Change → ℕ → Log → Type 0
Keeps changes.Nothing first log = ⊤
Keeps (changes.Raise term voted) first log = ⊤
Keeps (changes.Append entries) first log = CanFollow (shape_of log) entries
Keeps (changes.Cut n) first log = (first ≤ n) × (n ≤ length log)

pub keeps_of : (c : Change) (v w : Values) (log : Log) (first : ℕ) → CanMake c v w (shape_of log) → first ≤ w.rest.commit → Keeps c first log
keeps_of changes.Nothing v w log first can low = tt
keeps_of (changes.Raise term voted) v w log first can low = tt
keeps_of (changes.Append entries) v w log first can low = can.1
keeps_of (changes.Cut n) v w log first can low =
    let kept = can.1 in
    let few = can.2 in
    let many = length-map log entry_shape in
    (omega (arith, low, kept), omega (arith, few, many))

pub keeps_long : (c : Change) (first : ℕ) (log : Log) → Keeps c first log → first ≤ length log → first ≤ length (changed_log c log)
keeps_long changes.Nothing first log k low = low
keeps_long (changes.Raise term voted) first log k low = low
keeps_long (changes.Append entries) first log k low = let n = length-append log entries in omega (arith, n, low)
keeps_long (changes.Cut n) first log k low = let l = length-take-le n log k.1 in let f = k.0 in omega (arith, l, f)

take_twice : (first n : ℕ) (log : Log) → first ≤ n → take first (take n log) ≡ take first log
take_twice zero n log low = refl
take_twice (suc first) zero log low = absurd (omega (arith, low))
take_twice (suc first) (suc n) [] low = refl
take_twice (suc first) (suc n) (x ∷ log) low = ap (λ (l : Log). x ∷ l) (take_twice first n log (omega (arith, low)))

-- the first entries are the same
pub front_same : (c : Change) (first : ℕ) (log : Log) → Keeps c first log → first ≤ length log → take first (changed_log c log) ≡ take first log
front_same changes.Nothing first log k low = refl
front_same (changes.Raise term voted) first log k low = refl
front_same (changes.Append entries) first log k low = take-append-le first log entries low
front_same (changes.Cut n) first log k low = take_twice first n log k.0

-- and so is what is ahead of them
pub rest_same : (c : Change) (first : ℕ) (log : Log) → Keeps c first log → first ≤ length log → drop first (changed_log c log) ≡ ahead_after c first (drop first log)
rest_same changes.Nothing first log k low = refl
rest_same (changes.Raise term voted) first log k low = refl
rest_same (changes.Append entries) first log k low = drop-append-le first log entries low
rest_same (changes.Cut n) first log k low =
    let f = k.0 in
    let is : n ≡ first + (n - first) = omega (arith, f) in
    ap (λ (i : ℕ). drop first (take i log)) is ∙ drop-take first (n - first) log

-- ---- the events

with_more : (o : Option Event) (es fs : List Event) → with_event o (es ++ fs) ≡ with_event o es ++ fs
with_more None es fs = refl
with_more (Some e) es fs = refl

pub events_more : (xs ys : Log) → events_in (xs ++ ys) ≡ events_in xs ++ events_in ys
events_more [] ys = refl
events_more (x ∷ xs) ys = ap (with_event (event_of x.bytes)) (events_more xs ys) ∙ with_more (event_of x.bytes) (events_in xs) (events_in ys)

take_one : (o : Option Event) (v : Event) (n : ℕ) (es fs : List Event) → o ≡ Some v → take n es ≡ fs → take (suc n) (with_event o es) ≡ with_event o fs
take_one None v n es fs is same = absurd (cc)
take_one (Some e) v n es fs is same = ap (λ (l : List Event). e ∷ l) same

events_take : (n : ℕ) (xs : Log) → All IsEventEntry xs → take n (events_in xs) ≡ events_in (take n xs)
events_take zero xs all = refl
events_take (suc n) [] all = refl
events_take (suc n) (x ∷ xs) all =
    let is : IsEventEntry x = All-head IsEventEntry x xs all in
    take_one (event_of x.bytes) is.0 n (events_in xs) (events_in (take n xs)) is.1 (events_take n xs (All-tail IsEventEntry x xs all))

all_drop : (n : ℕ) (xs : Log) → All IsEventEntry xs → All IsEventEntry (drop n xs)
all_drop zero xs all = all
all_drop (suc n) [] all = all
all_drop (suc n) (x ∷ xs) all = all_drop n xs (All-tail IsEventEntry x xs all)

-- the events ahead
pub events_same : (c : Change) (first : ℕ) (log : Log) → Keeps c first log → first ≤ length log → All IsEventEntry log → events_in (drop first (changed_log c log)) ≡ events_after c first (events_in (drop first log))
events_same changes.Nothing first log k low all = refl
events_same (changes.Raise term voted) first log k low all = refl
events_same (changes.Append entries) first log k low all = ap events_in (rest_same (changes.Append entries) first log k low) ∙ events_more (drop first log) entries
events_same (changes.Cut n) first log k low all = ap events_in (rest_same (changes.Cut n) first log k low) ∙ sym (events_take (n - first) (drop first log) (all_drop first log all))

-- ---- a member can hold it

shape_append : (xs ys : Log) → shape_of (xs ++ ys) ≡ shape_of xs ++ shape_of ys
shape_append [] ys = refl
shape_append (x ∷ xs) ys = ap (λ (z : Shape). entry_shape x ∷ z) (shape_append xs ys)

rises_on : (t : ℤ) (xs ys : Log) → RisesFrom t xs → RisesFrom (last_from t xs) ys → RisesFrom t (xs ++ ys)
rises_on t [] ys a b = b
rises_on t (x ∷ xs) ys a b = (a.0, rises_on x.term xs ys a.1 b)

rises_shape : (t : ℤ) (es : Log) → TermsRiseFrom t (shape_of es) → RisesFrom t es
rises_shape t [] h = tt
rises_shape t (x ∷ xs) h = (h.0, rises_shape x.term xs h.1)

all_events : (xs : Log) → AreEntries xs → All IsEventEntry xs
all_events [] h = All-nil IsEventEntry
all_events (x ∷ xs) h = All-cons IsEventEntry x xs h.0.event (all_events xs h.1)

held_on : (log es : Log) → IsHeld log → CanFollow (shape_of log) es → IsHeld (log ++ es)
held_on log es held can = record {
  events = All-append IsEventEntry log es held.events (all_events es can.events);
  rises = rises_on (negsuc 0) log es held.rises (subst (λ (t : ℤ). RisesFrom t es) (last_term_from-shape_of (negsuc 0) log) (rises_shape (last_term_of (shape_of log)) es can.rises));
  room =
      let same : end_of (shape_of log ++ shape_of es) ≡ place (log ++ es) = ap end_of (sym (shape_append log es)) ∙ end_from-shape_of 0 (log ++ es) in
      subst (λ (n : ℕ). n ≤ 16777216) same can.end;
}

pub held_after : (c : Change) (first : ℕ) (log : Log) → Keeps c first log → IsHeld log → IsHeld (changed_log c log)
held_after changes.Nothing first log k held = held
held_after (changes.Raise term voted) first log k held = held
held_after (changes.Append entries) first log k held = held_on log entries held k
held_after (changes.Cut n) first log k held = held_take n log held
