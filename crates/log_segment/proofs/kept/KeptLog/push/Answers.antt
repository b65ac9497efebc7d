-- One entry more.
use Rattle.std.proofs.Common.{◌≡◌, ℕ, ◌+◌, ◌≤◌, ◌≤ℤ◌, ℤ, negsuc, List, [], ◌∷◌, ◌++◌, Option, length, to_z, of_z, w64, sym, ◌∙◌, ap, subst, arith}
use Rattle.std.proofs.lemmas.Int.{ints}
use Rattle.std.proofs.lemmas.List.{map-append, length-map}
use Rattle.std.specs.declared.snapshot.Snapshot.{Snapshot}
use Rattle.cl_base.specs.declared.entry.Entry.{Entry}
use Rattle.entry_log.specs.Log.{Log, last, place, end_after}
use Rattle.entry_log.specs.Shape.{EntryShape, Shape, shape_of, entry_shape, end_of, last_term_of, end_from-shape_of, last_term_from-shape_of}
use Rattle.log_segment.specs.Kept.{values}
use Rattle.log_segment.specs.Held.{IsHeld, new_term_of, put_term, new_terms}
use Rattle.log_segment.specs.declared.kept.NewTerm.{NewTerm}
use Rattle.log_segment.proofs.TermLemmas.{new_terms_more}
use Rattle.log_segment.proofs.KeptLemmas.{values_more}
use Rattle.log_segment.proofs.HeldLemmas.{ranged, held_more}
use Rattle.log_segment.proofs.kept.KeptLog.push.Goals as goal

pub push-requires-clause-place : goal.push-requires-clause-place
push-requires-clause-place c =
    let log = values c.self.inside.entries.items in
    let room = c.self.invariant.1.room in
    let is : end_of c.self.inside.index ≡ place log = ap end_of c.self.invariant.0 ∙ end_from-shape_of 0 log in
    omega (arith, is, room)

pub push-requires-clause-term : goal.push-requires-clause-term
push-requires-clause-term c =
    let log = values c.self.inside.entries.items in
    let z : to_z w64 (of_z w64 c.args.entry.now.term) ≡ c.args.entry.now.term = omega (arith, ints) in
    let is : last_term_of c.self.inside.index ≡ last c.args.self.now = ap last_term_of c.self.invariant.0 ∙ last_term_from-shape_of (negsuc 0) log ∙ ap last c.self.view_is in
    subst (λ (t : ℤ). last_term_of c.self.inside.index ≤ℤ t) (sym z) (subst (λ (t : ℤ). t ≤ℤ c.args.entry.now.term) (sym is) c.requires.term)

pub push-requires-clause-event_len : goal.push-requires-clause-event_len
push-requires-clause-event_len c = let most = (ranged c.args.entry.now c.requires.event).most in let is = ap length c.as_slice-event.ensures in omega (arith, is, most)

abbrev shape : ℤ → ℕ → EntryShape
shape t n = record { term = t; len = n }

shape_is : (t u : ℤ) (n m : ℕ) → t ≡ u → n ≡ m → shape t n ≡ shape u m
shape_is t u n m one two = cc (one, two)

-- what is remembered with one entry more
values_with : (old new : List (Snapshot Entry)) (s : Snapshot Entry) (e : Entry) → new ≡ old ++ s ∷ [] → s.value ≡ e → values new ≡ values old ++ e ∷ []
values_with old new s e is same = ap values is ∙ values_more old (s ∷ []) ∙ ap (λ (v : Entry). values old ++ v ∷ []) same

pub invariant_of-self-2 : goal.invariant_of-self-2
invariant_of-self-2 c =
    let items = c.self.inside.entries.items in
    let log = values items in
    let e = c.args.entry.now in
    let more = values_with items c.put.new.values.items c.of.result e (c.put.ensures ∙ ap (λ (l : List (Snapshot Entry)). l ++ c.of.result ∷ []) c.reserve-else-is_err.ensures.items) c.of.ensures in
    let z : to_z w64 (of_z w64 e.term) ≡ e.term = omega (arith, ints) in
    let same = shape_is (to_z w64 (of_z w64 e.term)) e.term (length c.as_slice-event.result.now) (length e.bytes) z (ap length c.as_slice-event.ensures) in
    let index : c.push.new.self ≡ shape_of (log ++ e ∷ []) = c.in_ok-push.ensures.ok ∙ ap (λ (x : EntryShape). c.self.inside.index ++ x ∷ []) same ∙ ap (λ (xs : Shape). xs ++ entry_shape e ∷ []) c.self.invariant.0 ∙ sym (map-append entry_shape log (e ∷ [])) in
    let view = sym c.self.view_is in
    let count : c.entries.result ≡ 0 + length log = omega (arith, c.entries.ensures.count, ap length c.self.invariant.0, length-map log entry_shape) in
    let begins : c.of-begins.result ≡ new_term_of (0 + length log) e.bytes = c.of-begins.ensures ∙ ap (λ k. new_term_of k c.as_slice-event.result.now) count ∙ ap (new_term_of (0 + length log)) c.as_slice-event.ensures in
    let terms = c.put_some.ensures ∙ ap (λ (l : List NewTerm). l ++ put_term c.of-begins.result []) (c.reserve.ensures.items ∙ c.self.invariant.2) ∙ ap (λ (o : Option NewTerm). new_terms 0 log ++ put_term o []) begins ∙ sym (new_terms_more 0 log e) ∙ ap (new_terms 0) (sym more) in (
      index ∙ ap shape_of (sym more),
      subst IsHeld (sym more) (held_more log e c.self.invariant.1 c.requires.event (subst (λ (l : Log). last l ≤ℤ e.term) view c.requires.term) (subst (λ (l : Log). end_after (place l) (length e.bytes) ≤ 16777216) view c.requires.room)),
      terms,
    )

pub returns-clause-ok : goal.returns-clause-ok
returns-clause-ok c =
    let items = c.self.inside.entries.items in
    let e = c.args.entry.now in
    let more = values_with items c.put.new.values.items c.of.result e (c.put.ensures ∙ ap (λ (l : List (Snapshot Entry)). l ++ c.of.result ∷ []) c.reserve-else-is_err.ensures.items) c.of.ensures in
    more ∙ ap (λ (l : Log). l ++ e ∷ []) c.self.view_is
