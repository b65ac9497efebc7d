-- One look more.
use Rattle.std.specs.Prelude.{is_err, OnOk}
use Rattle.std.proofs.Common.{◌≡◌, ℕ, ◌≤◌, ◌^◌, pos, ◌≤ℤ◌, false, Result, Ok, Err, List, ap, subst, arith}
use Rattle.std.proofs.lemmas.Int.{ints}
use Rattle.cl_base.specs.Looks.{Looks, looks_as}
use Rattle.cl_base.specs.declared.fault.MemberFault.{MemberFault}
use Rattle.cl_base.specs.declared.fault.MemberFault.TheVariants.{Device}
use Rattle.cl_base.specs.Disk.{DiskState, IsImage, IsImageOf, LeavesOnly}
use Rattle.cl_base.specs.Torn.{run_after, weaker}

pub on_ok : {T E : Type 0} (r : Result T E) (P : Type 0) → is_err r ≡ false → OnOk r P → P
on_ok (Ok v) P is holds = holds
on_ok (Err e) P is holds = absurd (cc)

-- the same calls with another value, or another type of value
pub looks_ok : (T U : Type 0) (old new : DiskState) (v : T) (w : U) → Looks {T = T} Device old new (Ok v) → Looks {T = U} Device old new (Ok w)
looks_ok T U old new v w look = looks_as Device Device old new (Ok v) (Ok w) (λ is. is) (λ is. absurd (cc)) (λ is. absurd (cc)) look

pub looks_err : (T U : Type 0) (old new : DiskState) (e : MemberFault) → Looks {T = T} Device old new (Err e) → Looks {T = U} Device old new (Err e)
looks_err T U old new e look = looks_as Device Device old new (Err e) (Err e) (λ is. tt) (λ is. ap Err (same_err U e Device is)) (λ is. ap Err (same_err T e Device is)) look
  where
    same_err : (X : Type 0) (a b : MemberFault) → ◌≡◌ {A = Result X MemberFault} (Err a) (Err b) → a ≡ b
    same_err X a b is = cc

pub below : (n : ℕ) → pos n ≤ℤ pos (2 ^ 62) → n ≤ 2 ^ 62
below n le = omega (arith, ints, le)

pub look_more : {D : Type 0} (state : D → DiskState) (moment : D → ℕ) (left_since : D → ℕ → (ℕ → List ℕ) → Type 0) (d0 d1 d2 : D)
    → LeavesOnly moment left_since d0 d1 (IsImageOf (state d0).files) → ((g : ℕ) → (state d1).files g ≡ (state d0).files g) → LeavesOnly moment left_since d1 d2 (IsImageOf (state d1).files)
    → LeavesOnly moment left_since d0 d2 (IsImageOf (state d0).files)
look_more state moment left_since d0 d1 d2 first same second =
    run_after moment left_since d0 d1 d2 (IsImageOf (state d0).files) first
    (weaker moment left_since d1 d2 (IsImageOf (state d1).files) (IsImageOf (state d0).files) (λ c image g. subst (λ s. IsImage s (c g)) (same g) (image g)) second)
