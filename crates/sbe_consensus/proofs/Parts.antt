-- The entries of a batch, by their index, and one less.
use Rattle.std.proofs.Common.{◌≡◌, ℕ, zero, suc, ◌+◌, ◌-◌, ◌^◌, ◌<◌, ◌≤◌, Bool, true, ◌&&◌, List, [], ◌∷◌, ◌++◌, length, take, drop, get_or, Option, Some, None, ℤ, refl, sym, ◌∙◌, ap, subst, append_assoc, arith}
use Rattle.std.specs.Prelude.{nat_le, IsSome}
use Rattle.std.proofs.lemmas.Bool.{false≢true, and_parts, and_from, leb-true, le-leb}
use Rattle.cl_base.specs.declared.entry.Entry.{Entry}
use Rattle.wire_prims.specs.Fields.{u32_at, i64_at}
use Rattle.wire_prims.specs.Header.{bad}
use Rattle.wire_prims.specs.Strict.{◌or_else◌}
use Rattle.wire_prims.specs.declared.fault.Bad.{Bad}
use Rattle.sbe_events.specs.Spelling as events
use Rattle.sbe_events.specs.Laws.{event_free, event_term}
use Rattle.sbe_events.specs.declared.event.Event.{Event}
use Rattle.sbe_consensus.specs.BatchLaws.{or_none, shifted_none}
use Rattle.sbe_consensus.specs.Spelling.{AreEntries, part_end, part_at, parts_there, parts_end, shifted, events_fault, entries_at}

pub entry_short : (es : List Entry) (i : ℕ) (d : Entry) → i < length es → AreEntries es → length (get_or es i d).bytes < 2 ^ 32
entry_short [] i d lt h = absurd (omega arith)
entry_short (e ∷ es) zero d lt h = h.0.short
entry_short (e ∷ es) (suc i) d lt h = entry_short es i d (omega arith) h.1

-- the first of the parts that are left is all there
abbrev pub one_there : ℕ → List ℕ → Bool
one_there at bytes = nat_le (at + 4) (length bytes) && nat_le (part_end at bytes) (length bytes)

left : (n i : ℕ) → i < n → n - i ≡ suc (n - (i + 1))
left n i h = omega (arith, h)

pub there_next : (n i at : ℕ) (bytes : List ℕ) → i < n → parts_there (n - i) at bytes ≡ (one_there at bytes && parts_there (n - (i + 1)) (part_end at bytes) bytes)
there_next n i at bytes h = ap (λ k. parts_there k at bytes) (left n i h)

pub end_next : (n i at : ℕ) (bytes : List ℕ) → i < n → parts_end (n - i) at bytes ≡ parts_end (n - (i + 1)) (part_end at bytes) bytes
end_next n i at bytes h = ap (λ k. parts_end k at bytes) (left n i h)

pub fault_next : (n i at : ℕ) (bytes : List ℕ) → i < n → events_fault (n - i) at bytes ≡ (shifted (at + 4) (events.first_fault (part_at at bytes)) or_else events_fault (n - (i + 1)) (part_end at bytes) bytes)
fault_next n i at bytes h = ap (λ k. events_fault k at bytes) (left n i h)

abbrev pub made : ℤ → List ℕ → Entry
made term bytes = record { term = term; bytes = bytes }

abbrev pub entry_at : ℕ → List ℕ → Entry
entry_at at bytes = made (i64_at 8 (part_at at bytes)) (part_at at bytes)

pub entries_next : (n i at : ℕ) (bytes : List ℕ) → i < n → entries_at (n - i) at bytes ≡ entry_at at bytes ∷ entries_at (n - (i + 1)) (part_end at bytes) bytes
entries_next n i at bytes h = ap (λ k. entries_at k at bytes) (left n i h)

-- the first of the parts that are left, and the others
pub first_there : (n i at : ℕ) (bytes : List ℕ) → i < n → parts_there (n - i) at bytes ≡ true → (part_end at bytes ≤ length bytes) × (parts_there (n - (i + 1)) (part_end at bytes) bytes ≡ true)
first_there n i at bytes h e =
    let a = and_parts (one_there at bytes) (parts_there (n - (i + 1)) (part_end at bytes) bytes) (sym (there_next n i at bytes h) ∙ e) in
    let b = and_parts (nat_le (at + 4) (length bytes)) (nat_le (part_end at bytes) (length bytes)) a.0 in
    (leb-true (part_end at bytes) (length bytes) b.1, a.1)

-- the bytes of a slice from behind a part's length up to its end
pub part_slice : (at len : ℕ) (bytes : List ℕ) → len ≡ u32_at at bytes → take (at + 4 + len - (at + 4)) (drop (at + 4) bytes) ≡ part_at at bytes
part_slice at len bytes is = ap (λ k. take k (drop (at + 4) bytes)) (omega (arith, is))

one_is : (at : ℕ) (bytes : List ℕ) → part_end at bytes ≤ length bytes → one_there at bytes ≡ true
one_is at bytes inside = and_from (nat_le (at + 4) (length bytes)) (nat_le (part_end at bytes) (length bytes)) (le-leb (at + 4) (length bytes) (omega (arith, inside))) (le-leb (part_end at bytes) (length bytes) inside)

pub there_on : (n i at next : ℕ) (bytes : List ℕ) (x : Bool) → i < n → next ≡ part_end at bytes → part_end at bytes ≤ length bytes → parts_there (n - i) at bytes ≡ x → parts_there (n - (i + 1)) next bytes ≡ x
there_on n i at next bytes x lt is inside e =
    ap (λ k. parts_there (n - (i + 1)) k bytes) is ∙ sym (ap (λ b. b && parts_there (n - (i + 1)) (part_end at bytes) bytes) (one_is at bytes inside)) ∙ sym (there_next n i at bytes lt) ∙ e

pub end_on : (n i at next : ℕ) (bytes : List ℕ) (x : ℕ) → i < n → next ≡ part_end at bytes → parts_end (n - i) at bytes ≡ x → parts_end (n - (i + 1)) next bytes ≡ x
end_on n i at next bytes x lt is e = ap (λ k. parts_end (n - (i + 1)) k bytes) is ∙ sym (end_next n i at bytes lt) ∙ e

pub fault_on : (n i at next : ℕ) (bytes : List ℕ) (x : Option Bad) → i < n → next ≡ part_end at bytes → events.first_fault (part_at at bytes) ≡ None → events_fault (n - i) at bytes ≡ x → events_fault (n - (i + 1)) next bytes ≡ x
fault_on n i at next bytes x lt is free e =
    ap (λ k. events_fault (n - (i + 1)) k bytes) is ∙ sym (ap (λ f. shifted (at + 4) f or_else events_fault (n - (i + 1)) (part_end at bytes) bytes) free) ∙ sym (fault_next n i at bytes lt) ∙ e

-- the first fault of the parts that are left is the first part's, where it has one
pub fault_here : (n i at : ℕ) (bytes : List ℕ) (b : Bad) (x : Option Bad) → i < n → events.first_fault (part_at at bytes) ≡ Some b → events_fault (n - i) at bytes ≡ x → x ≡ Some (bad (at + 4 + b.place) b.cause)
fault_here n i at bytes b x lt here e = sym e ∙ fault_next n i at bytes lt ∙ ap (λ f. shifted (at + 4) f or_else events_fault (n - (i + 1)) (part_end at bytes) bytes) here

pub part_free : (n i at : ℕ) (bytes : List ℕ) → i < n → events_fault (n - i) at bytes ≡ None → (events.first_fault (part_at at bytes) ≡ None) × (events_fault (n - (i + 1)) (part_end at bytes) bytes ≡ None)
part_free n i at bytes lt e =
    let f = or_none (shifted (at + 4) (events.first_fault (part_at at bytes))) (events_fault (n - (i + 1)) (part_end at bytes) bytes) (sym (fault_next n i at bytes lt) ∙ e) in
    (shifted_none (at + 4) (events.first_fault (part_at at bytes)) f.0, f.1)

-- bytes without a fault spell an event
pub spells_one : (bytes : List ℕ) → events.first_fault bytes ≡ None → IsSome (events.event_of bytes)
spells_one bytes free = let e = event_free bytes free in subst (λ o. IsSome o) (sym e.1) refl

pub grown : (es : List Entry) (e : Entry) (n i at next : ℕ) (bytes : List ℕ) (x : List Entry) → i < n → next ≡ part_end at bytes → e ≡ entry_at at bytes → es ++ entries_at (n - i) at bytes ≡ x → (es ++ e ∷ []) ++ entries_at (n - (i + 1)) next bytes ≡ x
grown es e n i at next bytes x lt is this all =
    append_assoc es (e ∷ []) (entries_at (n - (i + 1)) next bytes) ∙ ap (λ k. es ++ (e ∷ entries_at (n - (i + 1)) k bytes)) is ∙ ap (λ v. es ++ (v ∷ entries_at (n - (i + 1)) (part_end at bytes) bytes)) this ∙ ap (λ l. es ++ l) (sym (entries_next n i at bytes lt)) ∙ all

pub entry_is : (at : ℕ) (bytes part : List ℕ) (term : ℤ) (own : List ℕ) → part ≡ part_at at bytes → term ≡ i64_at 8 part → own ≡ part → made term own ≡ entry_at at bytes
entry_is at bytes part term own is a b = ap (λ t. made t own) (a ∙ ap (i64_at 8) is) ∙ ap (λ l. made (i64_at 8 (part_at at bytes)) l) (b ∙ is)

some_there : (o : Option Event) → IsSome o → (e : Event) × (o ≡ Some e)
some_there None h = absurd (false≢true h)
some_there (Some e) h = (e, refl)

pub event_there : (bytes : List ℕ) → IsSome (events.event_of bytes) → (e : Event) × (events.event_of bytes ≡ Some e)
event_there bytes h = some_there (events.event_of bytes) h

pub event_term_at : (bytes : List ℕ) (e : Event) → events.event_of bytes ≡ Some e → events.term_of e ≡ i64_at 8 bytes
event_term_at bytes e is = (event_term bytes e is).1
