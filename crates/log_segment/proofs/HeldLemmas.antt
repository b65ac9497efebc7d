-- What is known of the logs that a member holds.
use Rattle.std.proofs.Common.{◌≡◌, ℕ, zero, suc, ◌+◌, ◌-◌, ◌<◌, ◌≤◌, ◌^◌, pos, negsuc, ℤ, ◌≤ℤ◌, Bool, true, false, List, [], ◌∷◌, ◌++◌, length, take, get_or, Option, Some, None, refl, sym, ◌∙◌, subst, arith}
use Rattle.std.specs.Prelude.{All, nat_le}
use Rattle.std.proofs.lemmas.Bool.Decides.{nat_tests}
use Rattle.wire_prims.specs.Fields.{u32_at, i64_at}
use Rattle.wire_prims.specs.Header.{bad}
use Rattle.wire_prims.specs.Strict.{◌or_else◌, unless}
use Rattle.wire_prims.specs.StrictLaws.{Between}
use Rattle.wire_prims.specs.declared.fault.Bad.{Bad}
use Rattle.wire_prims.specs.declared.fault.BadCause.TheVariants as causes
use Rattle.cl_base.specs.declared.entry.Entry.{Entry}
use Rattle.sbe_events.specs.Laws.{Sound, sound, block_there, free_event, event_term}
use Rattle.sbe_events.specs.declared.template.Template.{Template}
use Rattle.sbe_events.specs.declared.template.Template.TheVariants as templates
use Rattle.entry_log.specs.Log.{Log, RisesFrom, place, place_from, last, last_from, end_after}
use Rattle.entry_log.specs.Shape.{shape_of, entry_shape, end_from-shape_of}
use Rattle.entry_log.specs.PlaceLaws.{end_after-up}
use Rattle.log_segment.specs.Held.{IsEventEntry, IsHeld, IsRanged, AreRanged}
use Rattle.log_segment.specs.Reads.{HaveBytes}
use Rattle.log_segment.proofs.AppendLemmas.{place_more}

-- ---- all of a list

pub all_first : {X : Type 0} (P : X → Type 0) (x : X) (xs : List X) → All P (x ∷ xs) → P x
all_first P x xs all = all 0 x (omega arith)

pub all_rest : {X : Type 0} (P : X → Type 0) (x : X) (xs : List X) → All P (x ∷ xs) → All P xs
all_rest P x xs all = λ k d below. all (suc k) d (omega (arith, below))

all_at : {X : Type 0} (P : X → Type 0) (x : X) (xs : List X) → P x → All P xs → (k : ℕ) (d : X) → k < length (x ∷ xs) → P (get_or (x ∷ xs) k d)
all_at P x xs first rest zero d below = first
all_at P x xs first rest (suc k) d below = rest k d (omega (arith, below))

pub all_with : {X : Type 0} (P : X → Type 0) (x : X) (xs : List X) → P x → All P xs → All P (x ∷ xs)
all_with P x xs first rest = all_at P x xs first rest

all_none : {X : Type 0} (P : X → Type 0) → All P []
all_none P = λ k d below. absurd (omega (arith, below))

-- ---- how long an event is

unless_none : (b : Bool) (f : Bad) → unless b f ≡ None → b ≡ true
unless_none true f is = refl
unless_none false f is = absurd (cc)

or_none : (o p : Option Bad) → o or_else p ≡ None → (o ≡ None) × (p ≡ None)
or_none None p is = (refl, is)
or_none (Some b) p is = absurd (cc)

short_enough : (a b : ℕ) → nat_le a b ≡ true → a ≤ b
short_enough a b is = grind (arith, nat_tests, is)

pub event_most : (t : Template) (bytes : List ℕ) → Sound t bytes → length bytes ≤ 16416
event_most templates.Message bytes s = let le = short_enough (length bytes - 32) 16384 (unless_none (nat_le (length bytes - 32) 16384) (bad 32 causes.Value) s.strict.ends) in omega (arith, le)
event_most templates.Timer bytes s = let le = short_enough (length bytes) 32 (unless_none (nat_le (length bytes) 32) (bad 32 causes.Trailing) s.strict.ends) in omega (arith, le)
event_most templates.Opened bytes s =
    let n = u32_at 44 bytes in
    let parts = or_none (unless (nat_le n 1024) (bad 44 causes.Value)) (unless (nat_le (length bytes) (44 + 4 + n)) (bad (44 + 4 + n) causes.Trailing)) s.strict.ends in
    let one = short_enough n 1024 (unless_none (nat_le n 1024) (bad 44 causes.Value) parts.0) in
    let two = short_enough (length bytes) (44 + 4 + n) (unless_none (nat_le (length bytes) (44 + 4 + n)) (bad (44 + 4 + n) causes.Trailing) parts.1) in
    omega (arith, one, two)
event_most templates.Closed bytes s = let le = short_enough (length bytes) 36 (unless_none (nat_le (length bytes) 36) (bad 36 causes.Trailing) s.strict.ends) in omega (arith, le)
event_most templates.Snapshot bytes s = let le = short_enough (length bytes) 36 (unless_none (nat_le (length bytes) 36) (bad 36 causes.Trailing) s.strict.ends) in omega (arith, le)
event_most templates.Term bytes s = let le = short_enough (length bytes) 48 (unless_none (nat_le (length bytes) 48) (bad 48 causes.Trailing) s.strict.ends) in omega (arith, le)

-- the term is the block's first number
event_range : (t : Template) (bytes : List ℕ) → Sound t bytes → Between (pos 0) (pos (2 ^ 62)) (i64_at 8 bytes)
event_range templates.Message bytes s = s.strict.pass.0
event_range templates.Timer bytes s = s.strict.pass.0
event_range templates.Opened bytes s = s.strict.pass.0
event_range templates.Closed bytes s = s.strict.pass.0
event_range templates.Snapshot bytes s = s.strict.pass.0
event_range templates.Term bytes s = s.strict.pass.0

pub ranged : (e : Entry) → IsEventEntry e → IsRanged (entry_shape e)
ranged e is =
    let free = free_event e.bytes is.0 is.1 in
    let s = sound e.bytes free in
    let range = event_range s.0 e.bytes s.2 in
    let term : e.term ≡ i64_at 8 e.bytes = is.2 ∙ (event_term e.bytes is.0 is.1).1 in
    record {
      low = subst (λ z. pos 0 ≤ℤ z) (sym term) range.0;
      high = subst (λ z. z ≤ℤ pos (2 ^ 62)) (sym term) range.1;
      least = block_there s.0 e.bytes s.2;
      most = event_most s.0 e.bytes s.2;
    }

pub all_ranged : (log : Log) → All IsEventEntry log → All IsRanged (shape_of log)
all_ranged [] all = all_none IsRanged
all_ranged (e ∷ es) all = all_with IsRanged (entry_shape e) (shape_of es) (ranged e (all_first IsEventEntry e es all)) (all_ranged es (all_rest IsEventEntry e es all))

pub are_ranged : (log : Log) → IsHeld log → AreRanged (shape_of log)
are_ranged log s = record { each = all_ranged log s.events; room = subst (λ p. p ≤ 16777216) (sym (end_from-shape_of 0 log)) s.room }

pub have_bytes : (log : Log) → All IsEventEntry log → HaveBytes log
have_bytes [] all = tt
have_bytes (e ∷ es) all = (let least = (ranged e (all_first IsEventEntry e es all)).least in omega (arith, least), have_bytes es (all_rest IsEventEntry e es all))

-- ---- one entry more, and fewer

all_more : {X : Type 0} (P : X → Type 0) (xs : List X) (x : X) → All P xs → P x → All P (xs ++ x ∷ [])
all_more P [] x all is = all_with P x [] is (all_none P)
all_more P (y ∷ ys) x all is = all_with P y (ys ++ x ∷ []) (all_first P y ys all) (all_more P ys x (all_rest P y ys all) is)

all_take : {X : Type 0} (P : X → Type 0) (n : ℕ) (xs : List X) → All P xs → All P (take n xs)
all_take P zero xs all = all_none P
all_take P (suc n) [] all = all_none P
all_take P (suc n) (x ∷ xs) all = all_with P x (take n xs) (all_first P x xs all) (all_take P n xs (all_rest P x xs all))

rises_more : (t : ℤ) (log : Log) (e : Entry) → RisesFrom t log → last_from t log ≤ℤ e.term → RisesFrom t (log ++ e ∷ [])
rises_more t [] e rises high = (high, tt)
rises_more t (x ∷ xs) e rises high = (rises.0, rises_more x.term xs e rises.1 high)

rises_take : (t : ℤ) (n : ℕ) (log : Log) → RisesFrom t log → RisesFrom t (take n log)
rises_take t zero log rises = tt
rises_take t (suc n) [] rises = tt
rises_take t (suc n) (x ∷ xs) rises = (rises.0, rises_take x.term n xs rises.1)

pub place_up : (p : ℕ) (log : Log) → p ≤ place_from p log
place_up p [] = omega arith
place_up p (x ∷ xs) = let up = place_up (end_after p (length x.bytes)) xs in let one = end_after-up p (length x.bytes) in omega (arith, up, one)

place_take : (p n : ℕ) (log : Log) → place_from p (take n log) ≤ place_from p log
place_take p zero log = place_up p log
place_take p (suc n) [] = omega arith
place_take p (suc n) (x ∷ xs) = place_take (end_after p (length x.bytes)) n xs

pub held_more : (log : Log) (e : Entry) → IsHeld log → IsEventEntry e → last log ≤ℤ e.term → end_after (place log) (length e.bytes) ≤ 16777216 → IsHeld (log ++ e ∷ [])
held_more log e s event high room = record {
  events = all_more IsEventEntry log e s.events event;
  rises = rises_more (negsuc 0) log e s.rises high;
  room = subst (λ p. p ≤ 16777216) (sym (place_more 0 log (e ∷ []))) room;
}

pub held_take : (n : ℕ) (log : Log) → IsHeld log → IsHeld (take n log)
held_take n log s = record {
  events = all_take IsEventEntry n log s.events;
  rises = rises_take (negsuc 0) n log s.rises;
  room = let le = place_take 0 n log in let room = s.room in omega arith;
}

pub held_none : IsHeld []
held_none = record { events = all_none IsEventEntry; rises = tt; room = omega arith }
