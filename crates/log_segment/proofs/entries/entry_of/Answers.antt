-- Bytes without a fault are an event's.
use Rattle.std.specs.Prelude.{Some, None}
use Rattle.std.proofs.Common.{◌≡◌, ◌≤◌, ℕ, List, length, Option, ℤ, to_z, of_z, w64, sym, ◌∙◌, ap, subst, arith}
use Rattle.std.proofs.lemmas.Int.{ints}
use Rattle.cl_base.specs.declared.entry.Entry.{Entry}
use Rattle.wire_prims.specs.Fields.{i64_at}
use Rattle.wire_prims.specs.declared.fault.Bad.{Bad}
use Rattle.sbe_events.specs.Spelling.{first_fault, event_of}
use Rattle.sbe_events.specs.Laws.{event_free, event_term, free_event}
use Rattle.log_segment.proofs.entries.entry_of.Goals as goal

none_some : (b : Bad) (o : Option Bad) → o ≡ None → o ≡ Some b → ⊥
none_some b o is other = cc

abbrev entry_with : ℤ → List ℕ → Entry
entry_with t b = record { term = t; bytes = b }

entry_is : (t : ℤ) (b : List ℕ) (e : Entry) → t ≡ e.term → b ≡ e.bytes → entry_with t b ≡ e
entry_is t b e one two = λ i. entry_with (one i) (two i)

pub returns-in-Some-clause-exact : goal.returns-in-Some-clause-exact
returns-in-Some-clause-exact c e is bytes =
    absurd (none_some c.in-Some.bad (first_fault c.args.event.items) (sym (ap first_fault bytes) ∙ free_event e.bytes is.0 is.1) (ap first_fault (sym c.deref.ensures.value) ∙ sym c.in-Some.ensures))

free_of : (l m : List ℕ) → m ≡ l → None ≡ first_fault m → first_fault l ≡ None
free_of l m is none = ap first_fault (sym is) ∙ sym none

pub get_i64-term-requires : goal.get_i64-term-requires
get_i64-term-requires c =
    let items = c.args.event.items in
    let event = event_free items (free_of items c.deref.result.now c.deref.ensures.value c.in-None.ensures) in
    subst (λ l. 16 ≤ length l) (sym c.deref-in-None.ensures.value) (event_term items event.0 event.1).0

pub returns-in-None-clause-entry : goal.returns-in-None-clause-entry
returns-in-None-clause-entry c =
    let items = c.args.event.items in
    let event = event_free items (free_of items c.deref.result.now c.deref.ensures.value c.in-None.ensures) in
    let z : to_z w64 (of_z w64 c.get_i64-term.result) ≡ c.get_i64-term.result = omega (arith, ints) in (
      c.from_vec.ensures,
      (event.0, ap event_of c.from_vec.ensures ∙ event.1, z ∙ c.get_i64-term.ensures ∙ ap (i64_at 8) c.deref-in-None.ensures.value ∙ event.2),
    )

pub returns-in-None-clause-exact : goal.returns-in-None-clause-exact
returns-in-None-clause-exact c e is bytes =
    let z : to_z w64 (of_z w64 c.get_i64-term.result) ≡ c.get_i64-term.result = omega (arith, ints) in
    let term : e.term ≡ i64_at 8 e.bytes = is.2 ∙ (event_term e.bytes is.0 is.1).1 in
    entry_is (to_z w64 (of_z w64 c.get_i64-term.result)) c.from_vec.result e (z ∙ c.get_i64-term.ensures ∙ ap (i64_at 8) (c.deref-in-None.ensures.value ∙ sym bytes) ∙ sym term) (c.from_vec.ensures ∙ sym bytes)
