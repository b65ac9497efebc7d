-- What can follow a log: the part of a batch that is left past its end, and what a leader admits of what is due.
use Rattle.std.proofs.Common.{◌≡◌, ◌⊎◌, inl, inr, ℕ, zero, suc, ◌<◌, ◌≤◌, Bool, true, false, ◌&&◌, ◌||◌, List, [], ◌∷◌, ◌++◌, length, take, map, refl, sym, ap, ◌∙◌, subst, arith, ℤ, negsuc, if◌then◌else◌, length-append}
use Rattle.std.specs.Prelude.{All, int_le, nat_le, nat_eq, sum}
use Rattle.std.proofs.lemmas.Int.{ints}
use Rattle.std.proofs.lemmas.Bool.{eq-eqb, eqb-true}
use Rattle.std.proofs.lemmas.Bool.Decides.{nat_tests}
use Rattle.std.proofs.lemmas.List.Sums.{sum_by-cons}
use Rattle.std.proofs.lemmas.List.{append-nil, length-map}
use Rattle.entry_log.specs.Log.{Log, end_after, place_from}
use Rattle.entry_log.specs.Batches.{segment_of, all_in, in_one_segment, is_batch}
use Rattle.entry_log.specs.PlaceLaws.{end_after-up}
use Rattle.entry_log.specs.Places.{place_from_grows}
use Rattle.entry_log.specs.Shape.{Shape, entry_shape, shape_of, lens_of, end_from, end_of, last_term_from, last_term_of, TermsRiseFrom, end_from-shape_of}
use Rattle.log_replication.specs.Replication.{past}
use Rattle.election.specs.declared.member.Election.{Election}
use Rattle.sbe_events.specs.Laws.{encoded}
use Rattle.sbe_events.specs.Spelling.{HasSpelling as IsEvent, term_of, spelling_of}
use Rattle.sbe_events.specs.declared.event.Event.{Event}
use Rattle.sbe_consensus.specs.Spelling.{IsEntry, AreEntries}
use Rattle.consensus_core.specs.declared.plan.Plan.{Plan}
use Rattle.consensus_core.specs.declared.rest.Rest.{Rest}
use Rattle.consensus_core.specs.declared.values.Values.{Values}
use Rattle.consensus_core.specs.Rows.{outcome, name_of_shape, appends}
use Rattle.consensus_core.specs.Reign.{greatest, entry_of, is_admitted, admitted}
use Rattle.consensus_core.specs.Sendable.{is_end_from, are_rising, is_sendable_batch}
use Rattle.consensus_core.specs.Standing.{Standing, CanFollow, SameVote, RowFits}
use Rattle.consensus_core.proofs.Measured.{event_short}

pub choice : {X : Type 0} (P : X → Type 0) (b : Bool) (x y : X) → (b ≡ true → P x) → (b ≡ false → P y) → P (if b then x else y)
choice P true x y f g = f refl
choice P false x y f g = g refl

pub both : (a b : Bool) → (a && b) ≡ true → (a ≡ true) × (b ≡ true)
both true b e = (refl, e)
both false b e = absurd (cc)

join : (a b : Bool) → a ≡ true → b ≡ true → (a && b) ≡ true
join a b p q = ap (λ z. z && b) p ∙ q

either : (a b : Bool) → (a || b) ≡ true → (a ≡ true) ⊎ (b ≡ true)
either true b e = inl refl
either false b e = inr e

-- ---- what a batch has past a place

pub record Left (p limit : ℕ) (es new : Log) : Type 0 where
  pub few : length new ≤ length es
  pub small : sum (lens_of (shape_of new)) ≤ sum (lens_of (shape_of es))
  pub end : place_from limit new ≡ place_from p es
  pub segment : (s : ℕ) → all_in s p (shape_of es) ≡ true → all_in s limit (shape_of new) ≡ true
  pub events : AreEntries es → AreEntries new

end_low : (p at : ℕ) (es : Log) → is_end_from p at es ≡ true → p ≤ at
end_low p at [] h = absurd (cc)
end_low p at (x ∷ xs) h =
    let q : ℕ = end_after p (length x.bytes) in
    let up = end_after-up p (length x.bytes) in
    elim (either (nat_eq q at) (is_end_from q at xs) h) [
      | inl e ↦ grind (arith, nat_tests, e, up)
      | inr r ↦ let z = end_low q at xs r in omega (arith, z, up)
    ]

left : (p limit : ℕ) (es : Log) → (p ≡ limit) ⊎ (is_end_from p limit es ≡ true) → Left p limit es (past p limit es)
left p limit [] (inl e) = record { few = omega arith; small = omega arith; end = sym e; segment = λ s h. refl; events = λ h. tt }
left p limit [] (inr h) = absurd (cc)
left p limit (x ∷ xs) c = at (nat_le (end_after p (length x.bytes)) limit) refl (left (end_after p (length x.bytes)) limit xs)
  where
    up : p ≤ end_after p (length x.bytes)
    up = end_after-up p (length x.bytes)

    next : nat_le (end_after p (length x.bytes)) limit ≡ true → (end_after p (length x.bytes) ≡ limit) ⊎ (is_end_from (end_after p (length x.bytes)) limit xs ≡ true)
    next h = elim c [
      | inl e ↦ inl (let u = up in grind (arith, nat_tests, h, e, u))
      | inr r ↦ elim (either (nat_eq (end_after p (length x.bytes)) limit) (is_end_from (end_after p (length x.bytes)) limit xs) r) [ inl e ↦ inl (grind (arith, nat_tests, e)) | inr z ↦ inr z ]
    ]

    here : nat_le (end_after p (length x.bytes)) limit ≡ false → p ≡ limit
    here h = elim c [
      | inl e ↦ e
      | inr r ↦ absurd (elim (either (nat_eq (end_after p (length x.bytes)) limit) (is_end_from (end_after p (length x.bytes)) limit xs) r) [
        | inl e ↦ grind (arith, nat_tests, e, h)
        | inr z ↦ let w = end_low (end_after p (length x.bytes)) limit xs z in grind (arith, nat_tests, h, w)
      ])
    ]

    at : (b : Bool) → nat_le (end_after p (length x.bytes)) limit ≡ b
        → ((end_after p (length x.bytes) ≡ limit) ⊎ (is_end_from (end_after p (length x.bytes)) limit xs ≡ true) → Left (end_after p (length x.bytes)) limit xs (past (end_after p (length x.bytes)) limit xs))
        → Left p limit (x ∷ xs) (if b then past (end_after p (length x.bytes)) limit xs else x ∷ xs)
    at true h rest =
        let r = rest (next h) in
        record {
          few = (let z = r.few in omega (arith, z));
          small = (let z = r.small in let y = sum_by-cons (λ n. n) (length x.bytes) (lens_of (shape_of xs)) in omega (arith, z, y));
          end = r.end;
          segment = λ s e. r.segment s (both _ _ e).1;
          events = λ e. r.events e.1;
        }
    at false h rest =
        let e = here h in
        record {
          few = omega arith;
          small = omega arith;
          end = ap (λ z. place_from z (x ∷ xs)) (sym e);
          segment = λ s k. subst (λ z. all_in s z (shape_of (x ∷ xs)) ≡ true) e k;
          events = λ k. k;
        }

past_none : (p limit : ℕ) (es : Log) → place_from p es ≤ limit → past p limit es ≡ []
past_none p limit [] h = refl
past_none p limit (x ∷ xs) h =
    let q : ℕ = end_after p (length x.bytes) in
    let up = place_from_grows q xs in
    let skips : nat_le q limit ≡ true = grind (arith, nat_tests, h, up) in
    ap (λ b. if b then past q limit xs else x ∷ xs) skips ∙ past_none q limit xs h

pub end_from_append : (p : ℕ) (xs ys : Shape) → end_from p (xs ++ ys) ≡ end_from (end_from p xs) ys
end_from_append p [] ys = refl
end_from_append p (x ∷ xs) ys = end_from_append (end_after p x.len) xs ys

pub last_term_append : (t : ℤ) (xs ys : Shape) → last_term_from t (xs ++ ys) ≡ last_term_from (last_term_from t xs) ys
last_term_append t [] ys = refl
last_term_append t (x ∷ xs) ys = last_term_append x.term xs ys

rising_rises : (low high : ℤ) (es : Log) → are_rising low high es ≡ true → TermsRiseFrom low (shape_of es)
rising_rises low high [] h = tt
rising_rises low high (x ∷ xs) h =
    let a = both (int_le low x.term && int_le x.term high) (are_rising x.term high xs) h in
    let b = both (int_le low x.term) (int_le x.term high) a.0 in
    (let z = b.0 in grind (arith, ints, z), rising_rises x.term high xs a.1)

-- the entries of one batch are in some segment
segment_all : (p : ℕ) (es : Log) → in_one_segment p (shape_of es) ≡ true → (s : ℕ) × (all_in s p (shape_of es) ≡ true)
segment_all p [] h = (0, refl)
segment_all p (x ∷ xs) h = (segment_of (end_after p (length x.bytes)), join _ _ (eq-eqb _ _ refl) h)

all_segment : (s p : ℕ) (es : Log) → all_in s p (shape_of es) ≡ true → in_one_segment p (shape_of es) ≡ true
all_segment s p [] h = refl
all_segment s p (x ∷ xs) h =
    let a = both _ _ h in
    let is : segment_of (end_after p (length x.bytes)) ≡ s = eqb-true _ _ a.0 in
    subst (λ z. all_in z (end_after p (length x.bytes)) (shape_of xs) ≡ true) (sym is) a.1

below : (n m l : ℕ) → n ≤ m → nat_le m l ≡ true → nat_le n l ≡ true
below n m l h e = grind (arith, nat_tests, h, e)

below_either : (n m s t : ℕ) → n ≤ m → s ≤ t → (nat_le m 1 || nat_le t 8192) ≡ true → (nat_le n 1 || nat_le s 8192) ≡ true
below_either n m s t h g e = grind (arith, nat_tests, h, g, e)

shape_length : (es : Log) → length (shape_of es) ≡ length es
shape_length es = length-map es entry_shape

-- the part of a batch that is left is a batch
left_batch : (p limit : ℕ) (es new : Log) → Left p limit es new → is_batch p (shape_of es) ≡ true → is_batch limit (shape_of new) ≡ true
left_batch p limit es new l h =
    let a = both (nat_le (length (shape_of es)) 64) ((nat_le (length (shape_of es)) 1 || nat_le (sum (lens_of (shape_of es))) 8192) && in_one_segment p (shape_of es)) h in
    let b = both (nat_le (length (shape_of es)) 1 || nat_le (sum (lens_of (shape_of es))) 8192) (in_one_segment p (shape_of es)) a.1 in
    let s = segment_all p es b.1 in
    let n = shape_length new in
    let m = shape_length es in
    let few = l.few in
    let less : length (shape_of new) ≤ length (shape_of es) = omega (arith, n, m, few) in
    join (nat_le (length (shape_of new)) 64) _ (below (length (shape_of new)) (length (shape_of es)) 64 less a.0)
    (join (nat_le (length (shape_of new)) 1 || nat_le (sum (lens_of (shape_of new))) 8192) (in_one_segment limit (shape_of new))
    (below_either (length (shape_of new)) (length (shape_of es)) (sum (lens_of (shape_of new))) (sum (lens_of (shape_of es))) less l.small b.0)
    (all_segment s.0 limit new (l.segment s.0 s.1)))

-- what a follower appends of a batch that can have been sent
pub follows_batch : (xs : Shape) (t : ℤ) (start : ℕ) (es : Log) → is_sendable_batch t start es (name_of_shape xs) ≡ true → AreEntries es → nat_le start (end_of xs) ≡ true
    → 0 < length (past start (end_of xs) es) → CanFollow xs (past start (end_of xs) es)
follows_batch xs t start es ok are begun some =
    let place : ℕ = end_of xs in
    let new : Log = past start place es in
    let a = both (nat_le (place_from start es) 16777216 && is_batch start (shape_of es)) _ ok in
    let b = both (nat_le (place_from start es) 16777216) (is_batch start (shape_of es)) a.0 in
    let c = both (are_rising (negsuc 0) t es && are_rising (last_term_of xs) t new) _ a.1 in
    let rising = (both (are_rising (negsuc 0) t es) (are_rising (last_term_of xs) t new) c.0).1 in
    let l : Left start place es new = elim (either (nat_le place start) _ c.1) [
      | inl h ↦ left start place es (inl (grind (arith, nat_tests, h, begun)))
      | inr h ↦ elim (either (nat_le (place_from start es) place) (is_end_from start place es) h) [
        | inl all ↦ absurd (let none = past_none start place es (grind (arith, nat_tests, all)) in let z : length new ≡ 0 = ap length none in omega (arith, some, z))
        | inr r ↦ left start place es (inr r)
      ]
    ] in
    record {
      some = some;
      batch = left_batch start place es new l b.1;
      end = (let e : end_of (xs ++ shape_of new) ≡ place_from start es = end_from_append 0 xs (shape_of new) ∙ end_from-shape_of place new ∙ l.end in let most = b.0 in grind (arith, nat_tests, e, most));
      rises = rising_rises (last_term_of xs) t new rising;
      events = l.events are;
    }

-- ---- what a leader appends

abbrev pub OfTerm : ℤ → Log → Type 0
OfTerm t [] = Unit {0}
OfTerm t (x ∷ xs) = (x.term ≡ t) × OfTerm t xs

pub of_term_last : (t : ℤ) (es : Log) → OfTerm t es → last_term_from t (shape_of es) ≡ t
of_term_last t [] h = refl
of_term_last t (x ∷ xs) h = subst (λ z. last_term_from z (shape_of xs) ≡ t) (sym h.0) (of_term_last t xs h.1)

of_term_rises : (t : ℤ) (es : Log) → OfTerm t es → TermsRiseFrom t (shape_of es)
of_term_rises t [] h = tt
of_term_rises t (x ∷ xs) h = let e = h.0 in (omega (arith, ints, e), subst (λ z. TermsRiseFrom z (shape_of xs)) (sym e) (of_term_rises t xs h.1))

pub event_entry : (e : Event) → IsEvent e → IsEntry (entry_of e)
event_entry e h = let short = event_short (spelling_of e) e (encoded e h) in record { event = (e, encoded e h, refl); short = omega (arith, short) }

pub due_entries : (t : ℤ) (due : List Event) → All IsEvent due → All (λ e. term_of e ≡ t) due → AreEntries (map entry_of due) × OfTerm t (map entry_of due)
due_entries t [] h g = (tt, tt)
due_entries t (e ∷ es) h g =
    let r = due_entries t es (λ k d l. h (suc k) d (omega (arith, l))) (λ k d l. g (suc k) d (omega (arith, l))) in
    ((event_entry e (h zero e (omega arith)), r.0), (g zero e (omega arith), r.1))

take_entries : (k : ℕ) (es : Log) → AreEntries es → AreEntries (take k es)
take_entries zero es h = tt
take_entries (suc k) [] h = tt
take_entries (suc k) (x ∷ xs) h = (h.0, take_entries k xs h.1)

pub take_of_term : (t : ℤ) (k : ℕ) (es : Log) → OfTerm t es → OfTerm t (take k es)
take_of_term t zero es h = tt
take_of_term t (suc k) [] h = tt
take_of_term t (suc k) (x ∷ xs) h = (h.0, take_of_term t k xs h.1)

greatest_passes : (test : ℕ → Bool) (n : ℕ) → (greatest test n ≡ 0) ⊎ (test (greatest test n) ≡ true)
greatest_passes test zero = inl refl
greatest_passes test (suc n) = at (test (suc n)) refl (greatest_passes test n)
  where
    at : (b : Bool) → test (suc n) ≡ b → (greatest test n ≡ 0) ⊎ (test (greatest test n) ≡ true) → ((if b then suc n else greatest test n) ≡ 0) ⊎ (test (if b then suc n else greatest test n) ≡ true)
    at true e h = inr e
    at false e h = h

-- entries of the last term that are admitted can follow, and nothing else is appended
pub admitted_follow : (xs : Shape) (limit : ℕ) (all : Log) → limit ≤ 16777216 → AreEntries all → OfTerm (last_term_of xs) all → 0 < length (admitted (end_of xs) limit all) → CanFollow xs (admitted (end_of xs) limit all)
admitted_follow xs limit all low are of some =
    let test : ℕ → Bool = λ k. is_admitted (end_of xs) limit (shape_of (take k all)) in
    let k : ℕ = greatest test (length all) in
    let new : Log = take k all in
    elim (greatest_passes test (length all)) [
      | inl none ↦ absurd (let z : length new ≡ 0 = ap (λ n. length (take n all)) none in omega (arith, some, z))
      | inr ok ↦
          let a = both (nat_le (end_from (end_of xs) (shape_of new)) limit) (is_batch (end_of xs) (shape_of new)) ok in
          record {
            some = some;
            batch = a.1;
            end = (let e : end_of (xs ++ shape_of new) ≡ end_from (end_of xs) (shape_of new) = end_from_append 0 xs (shape_of new) in let most = a.0 in grind (arith, nat_tests, e, most, low));
            rises = of_term_rises (last_term_of xs) new (take_of_term (last_term_of xs) k all of);
            events = take_entries k all are;
          }
    ]

-- where something is appended, or nothing
pub append_room : (xs : Shape) (new : Log) → end_of xs ≤ 16777216 → (0 < length new → CanFollow xs new) → end_of (xs ++ shape_of new) ≤ 16777216
append_room xs [] low f = subst (λ l. end_of l ≤ 16777216) (sym (append-nil xs)) low
append_room xs (x ∷ es) low f = (f (omega arith)).end

pub append_fits : (v : Values) (e : Election) (r : Rest) (p : Plan) (xs : Shape) (new : Log) → SameVote v (record { election = e; rest = r }) → (0 < length new → CanFollow xs new)
    → Standing (record { election = e; rest = r }) (xs ++ shape_of new) → RowFits v xs (outcome e r (appends new) p)
append_fits v e r p xs [] same f st = (same, subst (Standing (record { election = e; rest = r })) (append-nil xs) st)
append_fits v e r p xs (x ∷ es) same f st = ((same, f (omega arith)), st)

pub length_more : (xs ys : Shape) → length xs ≤ length (xs ++ ys)
length_more xs ys = let a = length-append xs ys in omega (arith, a)
