-- The entries of a batch: what bytes without a fault spell, and what is spelled so.
use Rattle.std.proofs.Common.{◌≡◌, ℕ, zero, suc, ◌+◌, ◌≤◌, ℤ, true, ◌&&◌, List, [], ◌∷◌, ◌++◌, length, take, drop, drop-drop, take-append-drop, Option, Some, None, refl, sym, ◌∙◌, ap, subst, arith, append_assoc}
use Rattle.std.specs.Prelude.{nat_le}
use Rattle.std.proofs.lemmas.Bool.{and_parts, and_from, leb-true, le-leb}
use Rattle.std.proofs.lemmas.List.{append-nil, length-append, length-take, length-drop, take_at, drop_at}
use Rattle.cl_base.specs.declared.entry.Entry.{Entry}
use Rattle.wire_prims.specs.Fields.{u32_at, i64_at, IsBytes, le32, length-le32, u32_at-put, u32_at-drop, u32_at-below}
use Rattle.wire_prims.specs.Strict.{counted, ◌or_else◌}
use Rattle.wire_prims.specs.declared.fault.Bad.{Bad}
use Rattle.sbe_events.specs.Spelling as events
use Rattle.sbe_events.specs.Laws.{event_free, free_event, event_term}
use Rattle.sbe_consensus.specs.Spelling.{AreEntries, entries_bytes, part_end, part_at, parts_there, parts_end, shifted, events_fault, entries_at}

pub or_none : (a b : Option Bad) → (a or_else b) ≡ None → (a ≡ None) × (b ≡ None)
or_none None b e = (refl, e)
or_none (Some x) b e = absurd cc

or_both : (a b : Option Bad) → a ≡ None → b ≡ None → (a or_else b) ≡ None
or_both None b p q = q
or_both (Some x) b p q = absurd cc

pub shifted_none : (by : ℕ) (o : Option Bad) → shifted by o ≡ None → o ≡ None
shifted_none by None e = refl
shifted_none by (Some b) e = absurd cc

pub there_parts : (n at : ℕ) (bytes : List ℕ) → parts_there (suc n) at bytes ≡ true → (part_end at bytes ≤ length bytes) × (parts_there n (part_end at bytes) bytes ≡ true)
there_parts n at bytes e =
    let a = and_parts (nat_le (at + 4) (length bytes) && nat_le (part_end at bytes) (length bytes)) (parts_there n (part_end at bytes) bytes) e in
    let b = and_parts (nat_le (at + 4) (length bytes)) (nat_le (part_end at bytes) (length bytes)) a.0 in
    (leb-true (part_end at bytes) (length bytes) b.1, a.1)

pub length-entries_at : (n at : ℕ) (bytes : List ℕ) → length (entries_at n at bytes) ≡ n
length-entries_at zero at bytes = refl
length-entries_at (suc n) at bytes = ap suc (length-entries_at n (part_end at bytes) bytes)

pub parts_within : (n at : ℕ) (bytes : List ℕ) → at ≤ length bytes → parts_there n at bytes ≡ true → parts_end n at bytes ≤ length bytes
parts_within zero at bytes le e = le
parts_within (suc n) at bytes le e = let p = there_parts n at bytes e in parts_within n (part_end at bytes) bytes p.0 p.1

module _ (bytes : List ℕ) (fits : IsBytes bytes) where
  part_length : (at : ℕ) → part_end at bytes ≤ length bytes → length (part_at at bytes) ≡ u32_at at bytes
  part_length at inside = omega (arith, inside, length-take (u32_at at bytes) (drop (at + 4) bytes), length-drop (at + 4) bytes)

  part_spelled : (at : ℕ) → part_end at bytes ≤ length bytes → counted (part_at at bytes) ++ drop (part_end at bytes) bytes ≡ drop at bytes
  part_spelled at inside =
      let rest : part_at at bytes ++ drop (part_end at bytes) bytes ≡ drop (at + 4) bytes =
      ap (λ l. part_at at bytes ++ l) (sym (drop-drop (u32_at at bytes) (at + 4) bytes)) ∙ take-append-drop (u32_at at bytes) (drop (at + 4) bytes) in
      append_assoc (le32 (length (part_at at bytes))) (part_at at bytes) (drop (part_end at bytes) bytes) ∙ ap (λ l. le32 (length (part_at at bytes)) ++ l) rest
      ∙ ap (λ k. le32 k ++ drop (at + 4) bytes) (part_length at inside) ∙ u32_at-drop at bytes fits (omega (arith, inside))

  pub parts_spelled : (n at : ℕ) → parts_there n at bytes ≡ true → entries_bytes (entries_at n at bytes) ++ drop (parts_end n at bytes) bytes ≡ drop at bytes
  parts_spelled zero at e = refl
  parts_spelled (suc n) at e =
      let p = there_parts n at bytes e in
      append_assoc (counted (part_at at bytes)) (entries_bytes (entries_at n (part_end at bytes) bytes)) (drop (parts_end n (part_end at bytes) bytes) bytes)
      ∙ ap (λ l. counted (part_at at bytes) ++ l) (parts_spelled n (part_end at bytes) p.1) ∙ part_spelled at p.0

  pub parts_entries : (n at : ℕ) → parts_there n at bytes ≡ true → events_fault n at bytes ≡ None → AreEntries (entries_at n at bytes)
  parts_entries zero at there free = tt
  parts_entries (suc n) at there free =
      let p = there_parts n at bytes there in
      let f = or_none (shifted (at + 4) (events.first_fault (part_at at bytes))) (events_fault n (part_end at bytes) bytes) free in
      let e = event_free (part_at at bytes) (shifted_none (at + 4) (events.first_fault (part_at at bytes)) f.0) in
      (record { event = (e.0, e.1, e.2); short = omega (arith, part_length at p.0, u32_at-below at bytes fits) }, parts_entries n (part_end at bytes) p.1 f.1)

abbrev made : ℤ → List ℕ → Entry
made term bytes = record { term = term; bytes = bytes }

-- entries stand in the bytes from this place on, up to their end
pub record Stand (es : List Entry) (at : ℕ) (bytes : List ℕ) : Type 0 where
  pub there : parts_there (length es) at bytes ≡ true
  pub ends : parts_end (length es) at bytes ≡ length bytes
  pub free : events_fault (length es) at bytes ≡ None
  pub same : entries_at (length es) at bytes ≡ es

pub entries_stand : (es : List Entry) (front : List ℕ) (at : ℕ) → length front ≡ at → AreEntries es → Stand es at (front ++ entries_bytes es)
entries_stand [] front at len h = record { there = refl; ends = sym (ap length (append-nil front) ∙ len); free = refl; same = refl }
entries_stand (e ∷ es) front at len h =
    let b = e.bytes in
    let rest = entries_bytes es in
    let all = front ++ (counted e.bytes ++ entries_bytes es) in
    let near : all ≡ front ++ (le32 (length b) ++ (b ++ rest)) = ap (λ l. front ++ l) (append_assoc (le32 (length b)) b rest) in
    let inner : front ++ (le32 (length b) ++ (b ++ rest)) ≡ (front ++ le32 (length b)) ++ (b ++ rest) = sym (append_assoc front (le32 (length b)) (b ++ rest)) in
    let far : all ≡ (front ++ counted b) ++ rest = sym (append_assoc front (counted b) rest) in
    let size : u32_at at all ≡ length b = ap (u32_at at) near ∙ u32_at-put at (length b) front (b ++ rest) len h.0.short in
    let l1 : length (front ++ le32 (length b)) ≡ at + 4 = omega (arith, len, length-append front (le32 (length b)), length-le32 (length b)) in
    let l2 : length (front ++ counted b) ≡ at + 4 + length b = omega (arith, len, length-append front (counted b), length-append (le32 (length b)) b, length-le32 (length b)) in
    let part : part_at at all ≡ b = ap (λ k. take k (drop (at + 4) all)) size ∙ ap (λ l. take (length b) l) (ap (drop (at + 4)) (near ∙ inner) ∙ drop_at (front ++ le32 (length b)) (b ++ rest) (at + 4) l1) ∙ take_at b rest (length b) refl in
    let end : part_end at all ≡ at + 4 + length b = ap (λ k. at + 4 + k) size in
    let more : Stand es (at + 4 + length b) ((front ++ counted b) ++ rest) = entries_stand es (front ++ counted b) (at + 4 + length b) l2 h.1 in
    let moved : Stand es (at + 4 + length b) all = subst (λ l. Stand es (at + 4 + length b) l) (sym far) more in
    let next : Stand es (part_end at all) all = subst (λ k. Stand es k all) (sym end) moved in
    let long : length all ≡ at + 4 + length b + length rest = omega (arith, ap length far, l2, length-append (front ++ counted b) rest) in
    let free : events.first_fault (part_at at all) ≡ None = ap events.first_fault part ∙ free_event b h.0.event.0 h.0.event.1 in
    let term : i64_at 8 (part_at at all) ≡ e.term = ap (i64_at 8) part ∙ sym (event_term b h.0.event.0 h.0.event.1).1 ∙ sym h.0.event.2 in
    record {
      there = and_from (nat_le (at + 4) (length all) && nat_le (part_end at all) (length all)) (parts_there (length es) (part_end at all) all)
          (and_from (nat_le (at + 4) (length all)) (nat_le (part_end at all) (length all)) (le-leb (at + 4) (length all) (omega (arith, long))) (le-leb (part_end at all) (length all) (omega (arith, long, end)))) next.there;
      ends = next.ends;
      free = or_both (shifted (at + 4) (events.first_fault (part_at at all))) (events_fault (length es) (part_end at all) all) (ap (shifted (at + 4)) free) next.free;
      same = ap (λ k. made k (part_at at all) ∷ entries_at (length es) (part_end at all) all) term ∙ ap (λ l. made e.term l ∷ entries_at (length es) (part_end at all) all) part ∙ ap (λ l. e ∷ l) next.same;
    }
