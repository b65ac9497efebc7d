-- What a call of the tool finds on disks, and leaves of them.
use Rattle.std.specs.Prelude.{◌≡◌, ◌≢◌, ◌⊎◌, ℕ, zero, suc, ◌≤◌, Bool, IsTrue, List, [], ◌∷◌, length, slice_index, Result, IfErr, ⊤}
use Rattle.cl_base.specs.Counts.{Rose}
use Rattle.cl_base.specs.Disk.{FileState, DiskState, OthersStay}
use Rattle.cl_base.specs.Faults.{HasMountCause}
use Rattle.cl_base.specs.declared.fault.MemberFault.{MemberFault}
use Rattle.log_segment.specs.Looked.{IsNoDamage}
use Rattle.node_state.specs.Node.{IsVersionTwo}
use Rattle.member_disk.specs.Kept.{Held}
use Rattle.cluster_tool.specs.declared.status.ToolStatus.{ToolStatus}
use Rattle.cluster_tool.specs.declared.status.ToolStatus.TheVariants as status

-- the bytes of a node state of version 1: there are 32, and the version, at 17, isn't 2
abbrev pub IsOldNode : List ℕ → Type 0
IsOldNode bytes = (length bytes ≡ 32) × (slice_index bytes 17 ≢ 2)

-- the node state, file 0, is of version 1
abbrev pub IsOld : (ℕ → FileState) → Type 0
IsOld files = IsOldNode (files 0).reads

-- no changing call was made: the files are as they were, and what the fuse lets pass
pub record IsUntouched (old new : DiskState) : Type 0 where
  pub files : (g : ℕ) → new.files g ≡ old.files g
  pub lets : new.lets ≡ old.lets
  pub burnt : new.burnt ≡ old.burnt

-- the same disk, of which some was read, without a changing call
pub record IsSeen {D : Type 0} (tells honest : D → Bool) (state : D → DiskState) (faults : D → ℕ) (old new : D) : Type 0 where
  pub same : tells new ≡ tells old
  pub still : honest new ≡ honest old
  pub later : faults old ≤ faults new
  pub untouched : IsTrue (tells old) → IsUntouched (state old) (state new)

-- a disk of this number isn't to be mounted: it is of version 1, where P holds, or failed, where R does, or there was no
-- memory
abbrev pub TurnedBy : Type 0 → Type 0 → ℕ → ToolStatus → Type 0
TurnedBy P R number (status.Old d) = (d ≡ number) × P
TurnedBy P R number (status.DiskFault d) = (d ≡ number) × R
TurnedBy P R number status.NoMemory = ⊤
TurnedBy P R number _ = ⊥

abbrev pub TurnsAway : {D : Type 0} → (D → Bool) → (D → DiskState) → (D → ℕ) → ℕ → D → D → ToolStatus → Type 0
TurnsAway tells state faults number old new given = TurnedBy (IsTrue (tells old) → IsOld (state old).files) (Rose (faults old) (faults new)) number given

-- the same disk, of which no file but perhaps that of the node state was changed; where that is of version 2 no changing
-- call was made
pub record IsRead {D : Type 0} (tells honest : D → Bool) (state : D → DiskState) (faults : D → ℕ) (old new : D) : Type 0 where
  pub same : tells new ≡ tells old
  pub still : honest new ≡ honest old
  pub later : faults old ≤ faults new
  pub others : IsTrue (tells old) → OthersStay 0 (state old).files (state new).files
  pub untouched : IsTrue (tells old) → IsVersionTwo ((state old).files 0).reads → IsUntouched (state old) (state new)

-- the same mounted disk, of which entries were read
pub record IsStill {D : Type 0} (tells honest : D → Bool) (state : D → DiskState) (faults : D → ℕ) (old new : Held D) : Type 0 where
  pub whole : IsTrue new.whole
  pub kept : new.kept ≡ old.kept
  pub disk : IsSeen tells honest state faults old.disk new.disk

-- An entry of a mounted disk was read, or more of them: it failed only where the disk's count rose, and found no wrong
-- byte on a disk that tells.
pub record Reads {D T : Type 0} (tells honest : D → Bool) (state : D → DiskState) (faults : D → ℕ) (old new : Held D) (result : Result T MemberFault) : Type 0 where
  pub still : IsStill tells honest state faults old new
  pub cause : HasMountCause (faults old.disk) (faults new.disk) result
  pub sound : IsTrue (tells old.disk) → IfErr result IsNoDamage

-- a disk of this number wasn't read to its end: it failed, where R holds, or is damaged, or there was no memory
abbrev pub FailsAt : Type 0 → ℕ → ToolStatus → Type 0
FailsAt R number (status.DiskFault d) = (d ≡ number) × R
FailsAt R number (status.Damaged d file place) = d ≡ number
FailsAt R number status.NoMemory = ⊤
FailsAt R number _ = ⊥

-- why a disk of this number isn't mounted
abbrev pub MountFails : {D : Type 0} → (D → ℕ) → ℕ → D → D → ToolStatus → Type 0
MountFails faults number old new given = FailsAt (Rose (faults old) (faults new)) number given

-- how a listing ends for one mounted disk of this number, whose entries were read
abbrev pub EndsFor : {D : Type 0} → (D → Bool) → (D → ℕ) → ℕ → D → D → ToolStatus → Type 0
EndsFor tells faults number old new status.Done = ⊤
EndsFor tells faults number old new status.WriteFault = ⊤
EndsFor tells faults number old new status.NoMemory = ⊤
EndsFor tells faults number old new (status.DiskFault d) = (d ≡ number) × Rose (faults old) (faults new)
EndsFor tells faults number old new (status.Damaged d file place) = (d ≡ number) × (IsTrue (tells old) → ⊥)
EndsFor tells faults number old new _ = ⊥

-- why two mounted disks, numbered 0 and 1, can't be compared
abbrev pub FailsFor : {D : Type 0} → (D → Bool) → (D → ℕ) → D → D → D → D → ToolStatus → Type 0
FailsFor tells faults old new old1 new1 status.NoMemory = ⊤
FailsFor tells faults old new old1 new1 (status.DiskFault d) = ((d ≡ 0) × Rose (faults old) (faults new)) ⊎ ((d ≡ 1) × Rose (faults old1) (faults new1))
FailsFor tells faults old new old1 new1 (status.Damaged d file place) = ((d ≡ 0) × (IsTrue (tells old) → ⊥)) ⊎ ((d ≡ 1) × (IsTrue (tells old1) → ⊥))
FailsFor tells faults old new old1 new1 _ = ⊥

-- the same, or another end
abbrev pub EndsBoth : {D : Type 0} → (D → Bool) → (D → ℕ) → D → D → D → D → ToolStatus → Type 0
EndsBoth tells faults old new old1 new1 status.Done = ⊤
EndsBoth tells faults old new old1 new1 status.WriteFault = ⊤
EndsBoth tells faults old new old1 new1 given = FailsFor tells faults old new old1 new1 given

-- ---- several disks, in order

-- each tells its contents
abbrev pub AllTell : {D : Type 0} → (D → Bool) → List D → Type 0
AllTell tells [] = ⊤
AllTell tells (d ∷ ds) = IsTrue (tells d) × AllTell tells ds

-- they are the same disks, in the same order
abbrev pub AreSeen : {D : Type 0} → (D → Bool) → (D → Bool) → (D → DiskState) → (D → ℕ) → List D → List D → Type 0
AreSeen tells honest state faults [] [] = ⊤
AreSeen tells honest state faults (a ∷ rest) (b ∷ others) = IsSeen tells honest state faults a b × AreSeen tells honest state faults rest others
AreSeen tells honest state faults _ _ = ⊥

abbrev pub AreRead : {D : Type 0} → (D → Bool) → (D → Bool) → (D → DiskState) → (D → ℕ) → List D → List D → Type 0
AreRead tells honest state faults [] [] = ⊤
AreRead tells honest state faults (a ∷ rest) (b ∷ others) = IsRead tells honest state faults a b × AreRead tells honest state faults rest others
AreRead tells honest state faults _ _ = ⊥

-- the count of a disk's faults rose
abbrev pub RoseAt : {D : Type 0} → (D → ℕ) → List D → List D → ℕ → Type 0
RoseAt faults (a ∷ rest) (b ∷ others) zero = Rose (faults a) (faults b)
RoseAt faults (a ∷ rest) (b ∷ others) (suc n) = RoseAt faults rest others n
RoseAt faults _ _ _ = ⊥

-- of the disks that tell their contents none is of version 1
abbrev pub NoneOld : {D : Type 0} → (D → Bool) → (D → DiskState) → List D → Type 0
NoneOld tells state [] = ⊤
NoneOld tells state (d ∷ ds) = (IsTrue (tells d) → IsOld (state d).files → ⊥) × NoneOld tells state ds

-- this disk is of version 1, and those before it aren't, as far as they tell their contents
abbrev pub IsOldAt : {D : Type 0} → (D → Bool) → (D → DiskState) → List D → ℕ → Type 0
IsOldAt tells state [] n = ⊥
IsOldAt tells state (d ∷ ds) zero = IsTrue (tells d) → IsOld (state d).files
IsOldAt tells state (d ∷ ds) (suc n) = (IsTrue (tells d) → IsOld (state d).files → ⊥) × IsOldAt tells state ds n

-- This disk is named as one of version 1, unless a look at one up to it failed, or the call gives up.
abbrev pub NamesOld : ℕ → ToolStatus → Type 0
NamesOld n given = (given ≡ status.Old n) ⊎ (((d : ℕ) × (d ≤ n) × (given ≡ status.DiskFault d)) ⊎ ((given ≡ status.WriteFault) ⊎ (given ≡ status.NoMemory)))
