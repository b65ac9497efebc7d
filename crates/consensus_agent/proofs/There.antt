-- A snapshot that is put leaves the log and the node as they are.
use Rattle.std.proofs.Common.{◌≡◌, ◌⊎◌, inl, inr, ℕ, zero, suc, ℤ, Bool, true, false, List, [], ◌∷◌, Some, refl, ap, arith}
use Rattle.std.specs.Prelude.{slice_get, nat_eq}
use Rattle.std.specs.Ordering.{int_eq}
use Rattle.std.proofs.lemmas.Bool.Decides.{nat_tests}
use Rattle.std.proofs.lemmas.Int.{ints}
use Rattle.node_state.specs.Node.{Node}
use Rattle.entry_log.specs.Log.{Log}
use Rattle.recording_log.specs.declared.entry.RecEntry.{RecEntry}
use Rattle.recording_log.specs.Listed.{IsThere}
use Rattle.member_disk.specs.declared.durable.SnapshotHead.{SnapshotHead}
use Rattle.member_disk.specs.Kept.{Kept}
use Rattle.member_disk.specs.Changes.{IsPut, entry_for}
use Rattle.consensus_agent.specs.Rows.{IsKept}

abbrev Either : Type 0 → Type 0
Either P = P ⊎ (P → ⊥)

int_either : (a b : ℤ) → Either (a ≡ b)
int_either a b = at (int_eq a b) refl
  where
    at : (t : Bool) → int_eq a b ≡ t → Either (a ≡ b)
    at true h = inl (grind (arith, ints, h))
    at false h = inr (λ e. grind (arith, ints, h, e))

nat_either : (a b : ℕ) → Either (a ≡ b)
nat_either a b = at (nat_eq a b) refl
  where
    at : (t : Bool) → nat_eq a b ≡ t → Either (a ≡ b)
    at true h = inl (grind (arith, nat_tests, h))
    at false h = inr (λ e. grind (arith, nat_tests, h, e))

-- both of two facts
both_either : (P Q : Type 0) → Either P → Either Q → Either (P × Q)
both_either P Q (inr n) q = inr (λ h. n h.0)
both_either P Q (inl p) (inr n) = inr (λ h. n h.1)
both_either P Q (inl p) (inl q) = inl (p, q)

same_either : (a b : RecEntry) → Either (a ≡ b)
same_either a b =
    elim (both_either _ _ (int_either a.recording b.recording) (both_either _ _ (int_either a.term b.term) (both_either _ _ (int_either a.base b.base) (both_either _ _ (int_either a.position b.position)
    (both_either _ _ (int_either a.stamp b.stamp) (both_either _ _ (int_either a.service b.service) (nat_either a.kind b.kind))))))) [
      | inl h ↦ inl (λ i. record { recording = h.0 i; term = h.1.0 i; base = h.1.1.0 i; position = h.1.1.1.0 i; stamp = h.1.1.1.1.0 i; service = h.1.1.1.1.1.0 i; kind = h.1.1.1.1.1.1 i })
      | inr n ↦ inr (λ e. n (
        ap (λ (x : RecEntry). x.recording) e,
        (
          ap (λ (x : RecEntry). x.term) e,
          (
            ap (λ (x : RecEntry). x.base) e,
            (
              ap (λ (x : RecEntry). x.position) e,
              (ap (λ (x : RecEntry). x.stamp) e, (ap (λ (x : RecEntry). x.service) e, ap (λ (x : RecEntry). x.kind) e)),
            ),
          ),
        ),
      ))
    ]

some_of : (x y : RecEntry) → Some x ≡ Some y → x ≡ y
some_of x y h = cc

pub there_either : (x : RecEntry) (xs : List RecEntry) → Either (IsThere x xs)
there_either x [] = inr (λ h. none h.0 h.1)
  where
    none : (i : ℕ) → slice_get [] i ≡ Some x → ⊥
    none i h = absurd (cc)
there_either x (y ∷ ys) =
    elim (same_either y x) [
      | inl p ↦ inl (zero, ap (λ z. Some z) p)
      | inr n ↦ elim (there_either x ys) [
        | inl h ↦ inl (suc h.0, h.1)
        | inr m ↦ inr (λ h. at n m h.0 h.1)
      ]
    ]
  where
    at : (y ≡ x → ⊥) → (IsThere x ys → ⊥) → (i : ℕ) → slice_get (y ∷ ys) i ≡ Some x → ⊥
    at n m zero h = n (some_of y x h)
    at n m (suc i) h = m (i, h)

abbrev node_in : Kept → Node
node_in k = k.node

abbrev log_in : Kept → Log
log_in k = k.log

same_kept : (old new : Kept) → new ≡ old → IsKept old.node old.log new
same_kept old new is = record { node = ap node_in is; log = ap log_in is }

pub put_kept : (head : SnapshotHead) (old new : Kept) → IsPut head old new → IsKept old.node old.log new
put_kept head old new put =
    elim (there_either (entry_for old head) old.entries) [
      | inl h ↦ same_kept old new (put.again h)
      | inr n ↦ let is = put.first n in record { node = ap node_in is; log = ap log_in is }
    ]
