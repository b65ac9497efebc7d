-- The parts of a packet, by their index, and one less.
use Rattle.std.proofs.Common.{◌≡◌, ℕ, zero, suc, ◌+◌, ◌-◌, ◌^◌, ◌<◌, ◌≤◌, List, [], ◌∷◌, ◌++◌, length, get_or, Option, Some, None, All, Result, Ok, Err, ◌↔◌, ℤ, refl, sym, ◌∙◌, ap, subst, append_assoc, arith}
use Rattle.std.specs.Prelude.{IsErrAnd, IfErr}
use Rattle.wire_prims.specs.Header.{bad}
use Rattle.wire_prims.specs.Strict.{◌or_else◌}
use Rattle.wire_prims.specs.declared.fault.Bad.{Bad}
use Rattle.wire_prims.specs.declared.fault.DecodeFault.{DecodeFault}
use Rattle.wire_prims.specs.declared.fault.DecodeFault.TheVariants as faults
use Rattle.sbe_consensus.specs.BatchLaws.{or_none, shifted_none}
use Rattle.sbe_consensus.specs.Spelling.{part_end, part_at, shifted}
use Rattle.cluster_backup.specs.Spelling.{IsFault, HasSpelling, IsPart, AreParts, part_fault, parts_fault, parts_at}
use Rattle.cluster_backup.specs.declared.part.Part.{Part}
use Rattle.cluster_backup.specs.declared.part.Part.TheVariants as part
use Rattle.cluster_backup.specs.declared.packet.BackupPacket.{BackupPacket}
use Rattle.cluster_backup.specs.declared.packet.BackupPacket.TheVariants.{Log, Snapshot}

left : (n i : ℕ) → i < n → n - i ≡ suc (n - (i + 1))
left n i h = omega (arith, h)

fault_next : (k : Part) (n i at : ℕ) (bytes : List ℕ) → i < n → parts_fault k (n - i) at bytes ≡ (shifted (at + 4) (part_fault k (part_at at bytes)) or_else parts_fault k (n - (i + 1)) (part_end at bytes) bytes)
fault_next k n i at bytes h = ap (λ m. parts_fault k m at bytes) (left n i h)

pub fault_on : (k : Part) (n i at next : ℕ) (bytes : List ℕ) (x : Option Bad) → i < n → next ≡ part_end at bytes → part_fault k (part_at at bytes) ≡ None → parts_fault k (n - i) at bytes ≡ x → parts_fault k (n - (i + 1)) next bytes ≡ x
fault_on k n i at next bytes x lt is free e =
    ap (λ m. parts_fault k (n - (i + 1)) m bytes) is ∙ sym (ap (λ f. shifted (at + 4) f or_else parts_fault k (n - (i + 1)) (part_end at bytes) bytes) free) ∙ sym (fault_next k n i at bytes lt) ∙ e

-- the first fault of the parts that are left is the first part's, where it has one
pub fault_here : (k : Part) (n i at : ℕ) (bytes : List ℕ) (b : Bad) (x : Option Bad) → i < n → part_fault k (part_at at bytes) ≡ Some b → parts_fault k (n - i) at bytes ≡ x → x ≡ Some (bad (at + 4 + b.place) b.cause)
fault_here k n i at bytes b x lt here e = sym e ∙ fault_next k n i at bytes lt ∙ ap (λ f. shifted (at + 4) f or_else parts_fault k (n - (i + 1)) (part_end at bytes) bytes) here

parts_next : (n i at : ℕ) (bytes : List ℕ) → i < n → parts_at (n - i) at bytes ≡ part_at at bytes ∷ parts_at (n - (i + 1)) (part_end at bytes) bytes
parts_next n i at bytes h = ap (λ m. parts_at m at bytes) (left n i h)

pub grown : (ps : List (List ℕ)) (p : List ℕ) (n i at next : ℕ) (bytes : List ℕ) (x : List (List ℕ)) → i < n → next ≡ part_end at bytes → p ≡ part_at at bytes → ps ++ parts_at (n - i) at bytes ≡ x → (ps ++ p ∷ []) ++ parts_at (n - (i + 1)) next bytes ≡ x
grown ps p n i at next bytes x lt is this all =
    append_assoc ps (p ∷ []) (parts_at (n - (i + 1)) next bytes) ∙ ap (λ m. ps ++ (p ∷ parts_at (n - (i + 1)) m bytes)) is ∙ ap (λ v. ps ++ (v ∷ parts_at (n - (i + 1)) (part_end at bytes) bytes)) this ∙ ap (λ l. ps ++ l) (sym (parts_next n i at bytes lt)) ∙ all

pub part_short : (k : Part) (ps : List (List ℕ)) (i : ℕ) (d : List ℕ) → i < length ps → AreParts k ps → length (get_or ps i d) < 2 ^ 32
part_short k [] i d lt h = absurd (omega arith)
part_short k (p ∷ ps) zero d lt h = h.0.1
part_short k (p ∷ ps) (suc i) d lt h = part_short k ps i d (omega arith) h.1

pub part_in : (k : Part) (ps : List (List ℕ)) (i : ℕ) (d : List ℕ) → i < length ps → AreParts k ps → IsPart k (get_or ps i d)
part_in k [] i d lt h = absurd (omega arith)
part_in k (p ∷ ps) zero d lt h = h.0
part_in k (p ∷ ps) (suc i) d lt h = part_in k ps i d (omega arith) h.1

pub all_parts : (k : Part) (ps : List (List ℕ)) → AreParts k ps → All (IsPart k) ps
all_parts k ps h = λ i d lt. part_in k ps i d lt h

pub all_short : (k : Part) (ps : List (List ℕ)) → AreParts k ps → All (λ p. length p < 2 ^ 32) ps
all_short k ps h = λ i d lt. part_short k ps i d lt h

pub short_log : (p : BackupPacket) (start : ℤ) (events : List (List ℕ)) → p ≡ Log start events → HasSpelling p → All (λ l. length l < 2 ^ 32) events
short_log p start events is h = let s : HasSpelling (Log start events) = subst HasSpelling is h in all_short part.Event events s.3

pub short_snapshot : (p : BackupPacket) (recording term position stamp service : ℤ) (pieces : List (List ℕ)) → p ≡ Snapshot recording term position stamp service pieces → HasSpelling p → All (λ l. length l < 2 ^ 32) pieces
short_snapshot p recording term position stamp service pieces is h = let s : HasSpelling (Snapshot recording term position stamp service pieces) = subst HasSpelling is h in all_short part.Piece pieces s.6

-- ---- what a decoder says of bytes

pub free_from : {V : Type 0} (o : Option Bad) (r : Result V DecodeFault) (v : V) → ((b : Bad) → (r ≡ Err (faults.Bad b)) ↔ (o ≡ Some b)) → r ≡ Ok v → o ≡ None
free_from None r v h is = refl
free_from (Some b) r v h is = absurd (ok_err r v b is ((h b).1 refl))
  where
    ok_err : {V : Type 0} (r : Result V DecodeFault) (v : V) (b : Bad) → r ≡ Ok v → r ≡ Err (faults.Bad b) → ⊥
    ok_err r v b p q = cc

pub fault_from : {V : Type 0} (o : Option Bad) (r : Result V DecodeFault) (e : DecodeFault) → ((b : Bad) → (r ≡ Err (faults.Bad b)) ↔ (o ≡ Some b)) → r ≡ Err e → IsFault o e
fault_from o r (faults.Bad b) h is = (h b).0 is
fault_from o r faults.NoMemory h is = tt

pub err_and : {V : Type 0} (r : Result V DecodeFault) (e : DecodeFault) (o : Option Bad) → IsErrAnd r (λ x. x ≡ e) → IsFault o e → IfErr r (IsFault o)
err_and (Ok v) e o h f = tt
err_and (Err x) e o h f = subst (IsFault o) (sym h) f

pub other_fault : (bytes : List ℕ) (o : Option Bad) (e : DecodeFault) → o ≡ None → IsFault o e → e ≡ faults.NoMemory
other_fault bytes o (faults.Bad b) none f = absurd (cc (none, f))
other_fault bytes o faults.NoMemory none f = refl

-- ---- a fault of a part, counted from the packet's first byte

pub shifted_some : (by : ℕ) (b : Bad) (o : Option Bad) → o ≡ Some b → shifted by o ≡ Some (bad (by + b.place) b.cause)
shifted_some by b o is = ap (shifted by) is

-- the first fault of the parts that are left is the first part's, where it has one, or no memory was there
pub fault_passed : (k : Part) (n i at : ℕ) (bytes : List ℕ) (e : DecodeFault) (x : Option Bad) → i < n → IsFault (shifted (at + 4) (part_fault k (part_at at bytes))) e → parts_fault k (n - i) at bytes ≡ x → IsFault x e
fault_passed k n i at bytes (faults.Bad b) x lt here all = sym all ∙ fault_next k n i at bytes lt ∙ ap (λ f. f or_else parts_fault k (n - (i + 1)) (part_end at bytes) bytes) here
fault_passed k n i at bytes faults.NoMemory x lt here all = tt
