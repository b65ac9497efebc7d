-- Events as entries, and what is asked of entries that go behind a log.
use Rattle.std.proofs.Common.{◌≡◌, ℕ, zero, suc, ◌+◌, ◌-◌, ◌/◌, ◌^◌, ◌<◌, ◌≤◌, ℤ, ◌≤ℤ◌, Bool, true, ◌&&◌, ◌||◌, List, [], ◌∷◌, ◌++◌, length, drop, sum, Option, Some, None, All, inl, inr, IsTrue, refl, sym, ◌∙◌, ap, subst, arith}
use Rattle.std.specs.Prelude.{IsSome, is_some, nat_le, ◌==◌, ◌⊎◌}
use Rattle.std.proofs.lemmas.Bool.{and_parts, and_from, or_cases, or_left, or_right, leb-true, le-leb, eqb-true, eq-eqb}
use Rattle.std.proofs.lemmas.List.Elements.{All-nil, All-cons}
use Rattle.std.proofs.lemmas.List.Sums.{sum_by-cons}
use Rattle.cl_base.specs.declared.entry.Entry.{Entry}
use Rattle.wire_prims.specs.Fields.{i64_at}
use Rattle.entry_log.specs.Log.{Log, end_after}
use Rattle.entry_log.specs.Shape.{Shape, shape_of, lens_of}
use Rattle.entry_log.specs.Batches.{segment_of, all_in, in_one_segment, is_batch}
use Rattle.sbe_events.specs.Spelling.{event_of, first_fault, term_of}
use Rattle.sbe_events.specs.Laws.{sound, event_free, event_term}
use Rattle.sbe_events.specs.declared.event.Event.{Event}
use Rattle.log_segment.specs.Batch.{AllIn, AreTogether, IsBatchAt, event_bytes}
use Rattle.log_segment.specs.Held.{IsEventEntry}
use Rattle.log_segment.proofs.HeldLemmas.{event_most}
use Rattle.cluster_backup.specs.Spelling.{IsPart, AreParts}
use Rattle.cluster_backup.specs.Taking.{entry_of, entries_of}
use Rattle.cluster_backup.specs.declared.part.Part.TheVariants as part

-- ---- events

some_from : (o : Option Event) (e : Event) → o ≡ Some e → IsSome o
some_from o e is = ap is_some is

pub some_event : (bytes : List ℕ) → IsPart part.Event bytes → IsSome (event_of bytes)
some_event bytes h = let e = event_free bytes h.0 in some_from (event_of bytes) e.0 e.1

-- the term that is read is the first number of the block
pub term_read : (bytes : List ℕ) (t : ℤ) → IsPart part.Event bytes → ((e : Event) → event_of bytes ≡ Some e → t ≡ term_of e) → t ≡ i64_at 8 bytes
term_read bytes t h is = let e = event_free bytes h.0 in is e.0 e.1 ∙ (event_term bytes e.0 e.1).1

event_is : (bytes : List ℕ) → IsPart part.Event bytes → IsEventEntry (entry_of bytes)
event_is bytes h = let e = event_free bytes h.0 in (e.0, e.1, sym (event_term bytes e.0 e.1).1)

pub all_events : (bs : List (List ℕ)) → AreParts part.Event bs → All IsEventEntry (entries_of bs)
all_events [] h = All-nil IsEventEntry
all_events (b ∷ bs) h = All-cons IsEventEntry (entry_of b) (entries_of bs) (event_is b h.0) (all_events bs h.1)

short_event : (bytes : List ℕ) → IsPart part.Event bytes → length bytes ≤ 32768
short_event bytes h = let s = sound bytes h.0 in omega (arith, event_most s.0 bytes s.2)

pub free_short : (bytes : List ℕ) → first_fault bytes ≡ None → length bytes < 2 ^ 32
free_short bytes free = let s = sound bytes free in omega (arith, event_most s.0 bytes s.2)

pub all_small : (bs : List (List ℕ)) → AreParts part.Event bs → All (λ (e : Entry). length e.bytes ≤ 32768) (entries_of bs)
all_small [] h = All-nil (λ (e : Entry). length e.bytes ≤ 32768)
all_small (b ∷ bs) h = All-cons (λ (e : Entry). length e.bytes ≤ 32768) (entry_of b) (entries_of bs) (short_event b h.0) (all_small bs h.1)

pub length-entries_of : (bs : List (List ℕ)) → length (entries_of bs) ≡ length bs
length-entries_of [] = refl
length-entries_of (b ∷ bs) = ap suc (length-entries_of bs)

pub parts-drop : (n : ℕ) (bs : List (List ℕ)) → AreParts part.Event bs → AreParts part.Event (drop n bs)
parts-drop zero bs h = h
parts-drop (suc n) [] h = tt
parts-drop (suc n) (b ∷ bs) h = parts-drop n bs h.1

-- ---- batches

in_all : (s p : ℕ) (es : Log) → all_in s p (shape_of es) ≡ true → AllIn s p es
in_all s p [] h = tt
in_all s p (e ∷ es) h =
    let a = and_parts (segment_of (end_after p (length e.bytes)) == s) (all_in s (end_after p (length e.bytes)) (shape_of es)) h in
    (eqb-true (segment_of (end_after p (length e.bytes))) s a.0, in_all s (end_after p (length e.bytes)) es a.1)

all_within : (s p : ℕ) (es : Log) → AllIn s p es → all_in s p (shape_of es) ≡ true
all_within s p [] h = refl
all_within s p (e ∷ es) h =
    and_from (segment_of (end_after p (length e.bytes)) == s) (all_in s (end_after p (length e.bytes)) (shape_of es)) (eq-eqb (segment_of (end_after p (length e.bytes))) s h.0) (all_within s (end_after p (length e.bytes)) es h.1)

together : (p : ℕ) (es : Log) → in_one_segment p (shape_of es) ≡ true → AreTogether p es
together p [] h = tt
together p (e ∷ es) h = in_all (segment_of (end_after p (length e.bytes))) (end_after p (length e.bytes)) es h

one_segment : (p : ℕ) (es : Log) → AreTogether p es → in_one_segment p (shape_of es) ≡ true
one_segment p [] h = refl
one_segment p (e ∷ es) h = all_within (segment_of (end_after p (length e.bytes))) (end_after p (length e.bytes)) es h

sum_bytes : (es : Log) → sum (lens_of (shape_of es)) ≡ event_bytes es
sum_bytes [] = refl
sum_bytes (e ∷ es) = let a = sum_bytes es in let y = sum_by-cons (λ n. n) (length e.bytes) (lens_of (shape_of es)) in omega (arith, a, y)

pub length-shape_of : (es : Log) → length (shape_of es) ≡ length es
length-shape_of [] = refl
length-shape_of (e ∷ es) = ap suc (length-shape_of es)

pub batch_at : (p : ℕ) (es : Log) → 0 < length es → is_batch p (shape_of es) ≡ true → IsBatchAt p es
batch_at p es some h =
    let n = length-shape_of es in
    let a = and_parts (nat_le (length (shape_of es)) 64) ((nat_le (length (shape_of es)) 1 || nat_le (sum (lens_of (shape_of es))) 8192) && in_one_segment p (shape_of es)) h in
    let b = and_parts (nat_le (length (shape_of es)) 1 || nat_le (sum (lens_of (shape_of es))) 8192) (in_one_segment p (shape_of es)) a.1 in
    record {
      some = some;
      few = omega (arith, n, leb-true (length (shape_of es)) 64 a.0);
      small = elim (or_cases (nat_le (length (shape_of es)) 1) (nat_le (sum (lens_of (shape_of es))) 8192) b.0) [
        | inl one ↦ inl (omega (arith, n, leb-true (length (shape_of es)) 1 one))
        | inr low ↦ inr (omega (arith, sum_bytes es, leb-true (sum (lens_of (shape_of es))) 8192 low))
      ];
      together = together p es b.1;
    }

small_enough : (n s : ℕ) → n ≤ 1 ⊎ s ≤ 8192 → (nat_le n 1 || nat_le s 8192) ≡ true
small_enough n s (inl one) = or_left (nat_le n 1) (nat_le s 8192) (le-leb n 1 one)
small_enough n s (inr low) = or_right (nat_le n 1) (nat_le s 8192) (le-leb s 8192 low)

pub at_batch : (p : ℕ) (es : Log) → IsBatchAt p es → is_batch p (shape_of es) ≡ true
at_batch p es h =
    let n = length-shape_of es in
    let small : length (shape_of es) ≤ 1 ⊎ sum (lens_of (shape_of es)) ≤ 8192 = subst (λ k. k ≤ 1 ⊎ sum (lens_of (shape_of es)) ≤ 8192) (sym n) (subst (λ k. length es ≤ 1 ⊎ k ≤ 8192) (sym (sum_bytes es)) h.small) in
    and_from (nat_le (length (shape_of es)) 64) ((nat_le (length (shape_of es)) 1 || nat_le (sum (lens_of (shape_of es))) 8192) && in_one_segment p (shape_of es)) (le-leb (length (shape_of es)) 64 (omega (arith, n, h.few)))
    (and_from (nat_le (length (shape_of es)) 1 || nat_le (sum (lens_of (shape_of es))) 8192) (in_one_segment p (shape_of es)) (small_enough (length (shape_of es)) (sum (lens_of (shape_of es))) small) (one_segment p es h.together))

abbrev entry_with : ℤ → List ℕ → Entry
entry_with t own = record { term = t; bytes = own }

pub made : (t : ℤ) (own bytes : List ℕ) → t ≡ i64_at 8 bytes → own ≡ bytes → record { term = t; bytes = own } ≡ entry_of bytes
made t own bytes a b = ap (λ x. entry_with x own) a ∙ ap (λ l. entry_with (i64_at 8 bytes) l) b
