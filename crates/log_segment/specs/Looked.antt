-- What a reading call leaves of a disk.
use Rattle.std.specs.Prelude.{◌≡◌, ℕ, Bool, IsTrue, List, Result, MatchResult}
use Rattle.cl_base.specs.Disk.{DiskState, LeavesOnly, IsImageOf}
use Rattle.cl_base.specs.Faults.{HasMountCause}
use Rattle.cl_base.specs.Looks.{Looks}
use Rattle.cl_base.specs.declared.fault.MemberFault.{MemberFault}
use Rattle.cl_base.specs.declared.fault.MemberFault.TheVariants as fault

-- It failed only where the disk's count of faults rose, left all that the disk tells as it was, and at any moment of it
-- a crash left what one before could.
pub record Looked {D : Type 0} {T : Type 0} (faults : D → ℕ) (tells honest : D → Bool) (state : D → DiskState) (moment : D → ℕ) (left_since : D → ℕ → (ℕ → List ℕ) → Type 0) (old new : D) (result : Result T MemberFault) : Type 0 where
  pub cause : HasMountCause (faults old) (faults new) result
  pub tells_same : tells new ≡ tells old
  pub honest_same : honest new ≡ honest old
  pub looks : IsTrue (tells old) → Looks fault.Device (state old) (state new) result
  pub run : IsTrue (honest old) → LeavesOnly moment left_since old new (IsImageOf (state old).files)

-- a fault that names a wrong byte
abbrev pub IsDamage : MemberFault → Type 0
IsDamage (fault.Damaged file place) = Unit {0}
IsDamage _ = ⊥

-- a fault that names no wrong byte
abbrev pub IsNoDamage : MemberFault → Type 0
IsNoDamage (fault.Damaged file place) = ⊥
IsNoDamage _ = Unit {0}

-- the answer is this one, unless memory or the disk failed
abbrev pub IsOnly : {T : Type 0} → T → Result T MemberFault → Type 0
IsOnly v result = MatchResult result (λ w. w ≡ v) IsNoDamage
