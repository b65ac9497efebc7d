-- The parts of a packet: what bytes without a fault spell, and what is spelled so.
use Rattle.std.proofs.Common.{◌≡◌, ℕ, zero, suc, ◌+◌, ◌≤◌, ◌<◌, ◌^◌, true, ◌&&◌, List, [], ◌∷◌, ◌++◌, length, take, drop, drop-drop, take-append-drop, Option, Some, None, refl, sym, ◌∙◌, ap, subst, arith, append_assoc}
use Rattle.std.specs.Prelude.{nat_le}
use Rattle.std.proofs.lemmas.Bool.{and_from, le-leb}
use Rattle.std.proofs.lemmas.List.{append-nil, length-append, length-take, length-drop, take_at, drop_at}
use Rattle.wire_prims.specs.Fields.{u32_at, IsBytes, le32, length-le32, u32_at-put, u32_at-drop, u32_at-below}
use Rattle.wire_prims.specs.Strict.{counted, ◌or_else◌}
use Rattle.wire_prims.specs.declared.fault.Bad.{Bad}
use Rattle.sbe_consensus.specs.Spelling.{part_end, part_at, parts_there, parts_end, shifted}
use Rattle.sbe_consensus.specs.BatchLaws.{or_none, shifted_none, there_parts}
use Rattle.snapshot_store.specs.Snapshots.{spelled}
use Rattle.cluster_backup.specs.Spelling.{part_fault, AreParts, parts_fault, parts_at}
use Rattle.cluster_backup.specs.declared.part.Part.{Part}

or_both : (a b : Option Bad) → a ≡ None → b ≡ None → (a or_else b) ≡ None
or_both None b p q = q
or_both (Some x) b p q = absurd cc

pub length-parts_at : (n at : ℕ) (bytes : List ℕ) → length (parts_at n at bytes) ≡ n
length-parts_at zero at bytes = refl
length-parts_at (suc n) at bytes = ap suc (length-parts_at n (part_end at bytes) bytes)

module _ (bytes : List ℕ) (fits : IsBytes bytes) where
  part_length : (at : ℕ) → part_end at bytes ≤ length bytes → length (part_at at bytes) ≡ u32_at at bytes
  part_length at inside = omega (arith, inside, length-take (u32_at at bytes) (drop (at + 4) bytes), length-drop (at + 4) bytes)

  part_spelled : (at : ℕ) → part_end at bytes ≤ length bytes → counted (part_at at bytes) ++ drop (part_end at bytes) bytes ≡ drop at bytes
  part_spelled at inside =
      let rest : part_at at bytes ++ drop (part_end at bytes) bytes ≡ drop (at + 4) bytes =
      ap (λ l. part_at at bytes ++ l) (sym (drop-drop (u32_at at bytes) (at + 4) bytes)) ∙ take-append-drop (u32_at at bytes) (drop (at + 4) bytes) in
      append_assoc (le32 (length (part_at at bytes))) (part_at at bytes) (drop (part_end at bytes) bytes) ∙ ap (λ l. le32 (length (part_at at bytes)) ++ l) rest
      ∙ ap (λ k. le32 k ++ drop (at + 4) bytes) (part_length at inside) ∙ u32_at-drop at bytes fits (omega (arith, inside))

  pub parts_spelled : (n at : ℕ) → parts_there n at bytes ≡ true → spelled (parts_at n at bytes) ++ drop (parts_end n at bytes) bytes ≡ drop at bytes
  parts_spelled zero at e = refl
  parts_spelled (suc n) at e =
      let p = there_parts n at bytes e in
      append_assoc (counted (part_at at bytes)) (spelled (parts_at n (part_end at bytes) bytes)) (drop (parts_end n (part_end at bytes) bytes) bytes)
      ∙ ap (λ l. counted (part_at at bytes) ++ l) (parts_spelled n (part_end at bytes) p.1) ∙ part_spelled at p.0

  pub parts_are : (k : Part) (n at : ℕ) → parts_there n at bytes ≡ true → parts_fault k n at bytes ≡ None → AreParts k (parts_at n at bytes)
  parts_are k zero at there free = tt
  parts_are k (suc n) at there free =
      let p = there_parts n at bytes there in
      let f = or_none (shifted (at + 4) (part_fault k (part_at at bytes))) (parts_fault k n (part_end at bytes) bytes) free in
      ((shifted_none (at + 4) (part_fault k (part_at at bytes)) f.0, omega (arith, part_length at p.0, u32_at-below at bytes fits)), parts_are k n (part_end at bytes) p.1 f.1)

-- parts stand in the bytes from this place on, up to their end
pub record Stand (k : Part) (ps : List (List ℕ)) (at : ℕ) (bytes : List ℕ) : Type 0 where
  pub there : parts_there (length ps) at bytes ≡ true
  pub ends : parts_end (length ps) at bytes ≡ length bytes
  pub free : parts_fault k (length ps) at bytes ≡ None
  pub same : parts_at (length ps) at bytes ≡ ps

pub parts_stand : (k : Part) (ps : List (List ℕ)) (front : List ℕ) (at : ℕ) → length front ≡ at → AreParts k ps → Stand k ps at (front ++ spelled ps)
parts_stand k [] front at len h = record { there = refl; ends = sym (ap length (append-nil front) ∙ len); free = refl; same = refl }
parts_stand k (b ∷ ps) front at len h =
    let rest = spelled ps in
    let all = front ++ (counted b ++ spelled ps) in
    let near : all ≡ front ++ (le32 (length b) ++ (b ++ rest)) = ap (λ l. front ++ l) (append_assoc (le32 (length b)) b rest) in
    let inner : front ++ (le32 (length b) ++ (b ++ rest)) ≡ (front ++ le32 (length b)) ++ (b ++ rest) = sym (append_assoc front (le32 (length b)) (b ++ rest)) in
    let far : all ≡ (front ++ counted b) ++ rest = sym (append_assoc front (counted b) rest) in
    let size : u32_at at all ≡ length b = ap (u32_at at) near ∙ u32_at-put at (length b) front (b ++ rest) len h.0.1 in
    let l1 : length (front ++ le32 (length b)) ≡ at + 4 = omega (arith, len, length-append front (le32 (length b)), length-le32 (length b)) in
    let l2 : length (front ++ counted b) ≡ at + 4 + length b = omega (arith, len, length-append front (counted b), length-append (le32 (length b)) b, length-le32 (length b)) in
    let part : part_at at all ≡ b = ap (λ n. take n (drop (at + 4) all)) size ∙ ap (λ l. take (length b) l) (ap (drop (at + 4)) (near ∙ inner) ∙ drop_at (front ++ le32 (length b)) (b ++ rest) (at + 4) l1) ∙ take_at b rest (length b) refl in
    let end : part_end at all ≡ at + 4 + length b = ap (λ n. at + 4 + n) size in
    let more : Stand k ps (at + 4 + length b) ((front ++ counted b) ++ rest) = parts_stand k ps (front ++ counted b) (at + 4 + length b) l2 h.1 in
    let moved : Stand k ps (at + 4 + length b) all = subst (λ l. Stand k ps (at + 4 + length b) l) (sym far) more in
    let next : Stand k ps (part_end at all) all = subst (λ n. Stand k ps n all) (sym end) moved in
    let long : length all ≡ at + 4 + length b + length rest = omega (arith, ap length far, l2, length-append (front ++ counted b) rest) in
    let free : part_fault k (part_at at all) ≡ None = ap (part_fault k) part ∙ h.0.0 in
    record {
      there = and_from (nat_le (at + 4) (length all) && nat_le (part_end at all) (length all)) (parts_there (length ps) (part_end at all) all)
          (and_from (nat_le (at + 4) (length all)) (nat_le (part_end at all) (length all)) (le-leb (at + 4) (length all) (omega (arith, long))) (le-leb (part_end at all) (length all) (omega (arith, long, end)))) next.there;
      ends = next.ends;
      free = or_both (shifted (at + 4) (part_fault k (part_at at all))) (parts_fault k (length ps) (part_end at all) all) (ap (shifted (at + 4)) free) next.free;
      same = ap (λ l. l ∷ parts_at (length ps) (part_end at all) all) part ∙ ap (λ l. b ∷ l) next.same;
    }
