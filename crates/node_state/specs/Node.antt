-- What the file of the node state stands for.
use Rattle.std.specs.Prelude.{◌≡◌, ◌≢◌, ◌⊎◌, ℕ, ◌+◌, ◌-◌, ◌*◌, ◌%◌, ◌^◌, ◌<◌, ℤ, pos, negsuc, ◌≤ℤ◌, Bool, true, false, ◌==◌, nat_le, if◌then◌else◌, List, [], ◌∷◌, length, replicate, slice_index, Option, Some, None, IfSome}
use Rattle.cl_base.specs.Disk.{FileState, DiskState, IsImage, overwritten, settled_file, left_by}
use Rattle.cl_base.specs.Every.{EveryImage, FileIs}
use Rattle.cl_base.specs.declared.disk.Choice.{Choice}
use Rattle.cl_base.specs.declared.disk.Choice.TheVariants.{Drop, Keep, Fill}
use Rattle.wire_prims.specs.Fields.{i64_at, u32_at}

-- the slot that counts, and what stands in it
pub record Node : Type 0 where
  pub slot : ℕ
  pub term : ℤ
  pub voted : Option ℕ

-- every value above 4 is none
abbrev pub member_of : ℕ → Option ℕ
member_of n = if nat_le n 4 then Some n else None

abbrev pub slot_of : List ℕ → ℕ
slot_of bytes = slice_index bytes 16 % 2

-- the member voted for counts in version 2 alone
abbrev pub voted_in : List ℕ → ℕ → Option ℕ
voted_in bytes slot = if slice_index bytes 17 == 2 then member_of (u32_at (20 + 4 * slot) bytes) else None

abbrev pub IsTerm : ℤ → Type 0
IsTerm z = (negsuc 0 ≤ℤ z) × (z ≤ℤ pos (2 ^ 62))

-- the bytes stand for a candidate term and the member voted for in it
pub record StandsFor (bytes : List ℕ) (node : Node) : Type 0 where
  pub size : length bytes ≡ 32
  pub slot : slot_of bytes ≡ node.slot
  pub term : i64_at (8 * node.slot) bytes ≡ node.term
  pub voted : voted_in bytes node.slot ≡ node.voted
  pub low : negsuc 0 ≤ℤ node.term
  pub high : node.term ≤ℤ pos (2 ^ 62)

-- the same, in version 2
abbrev pub Tells : Node → List ℕ → Type 0
Tells node bytes = StandsFor bytes node × (slice_index bytes 17 ≡ 2)

abbrev pub raised : Node → ℤ → Option ℕ → Node
raised node term voted = record { slot = 1 - node.slot; term = term; voted = voted }

-- the bytes tell one of two
abbrev pub TellsOne : Node → Node → List ℕ → Type 0
TellsOne before after bytes = Tells before bytes ⊎ Tells after bytes

-- file 0 tells one of two, and each other file is as a crash could leave it before
abbrev pub BeforeOrAfter : (ℕ → FileState) → Node → Node → (ℕ → List ℕ) → Type 0
BeforeOrAfter files before after c = FileIs 0 (TellsOne before after) files c

-- the choices that take a byte of the selector along that names this slot
abbrev pub names_slot : ℕ → Choice → Bool
names_slot slot Drop = false
names_slot slot Keep = true
names_slot slot (Fill x) = x % 2 == slot

-- the file is first wrong at this place
abbrev pub IsWrongAt : List ℕ → ℕ → Type 0
IsWrongAt bytes place =
    ((length bytes < 32) × (place ≡ length bytes)) ⊎ (((32 < length bytes) × (place ≡ 32))
    ⊎ ((length bytes ≡ 32) × (IsTerm (i64_at (8 * slot_of bytes) bytes) → ⊥) × (place ≡ 8 * slot_of bytes)))

-- the bytes stand for the node, in either version
abbrev pub Means : Node → List ℕ → Type 0
Means node bytes = StandsFor bytes node

-- each image of file 0 stands for the node, and the other files are as they were
abbrev pub AllStand : Node → (ℕ → FileState) → (ℕ → FileState) → Type 0
AllStand node was files = EveryImage 0 (Means node) was files

-- a crash leaves of file 0 what a read gives
abbrev pub IsSettled : (ℕ → FileState) → Type 0
IsSettled files = (c : List ℕ) → IsImage (files 0) c → c ≡ (files 0).reads

-- the file is of version 2
abbrev pub IsVersionTwo : List ℕ → Type 0
IsVersionTwo bytes = slice_index bytes 17 ≡ 2

-- the changing calls of a mount: none where the file is of version 2
abbrev pub mount_calls : List ℕ → ℕ
mount_calls bytes = if slice_index bytes 17 == 2 then 0 else 4

-- what each choice leaves of file 0 stands for the node
abbrev pub LeavesNode : Node → DiskState → ℕ → Type 0
LeavesNode node left k = (choice : Choice) → StandsFor (left_by choice (left.files 0)) node

-- a candidate term of -1 to 2^62, and a member of 0 to 4
abbrev pub IsInRange : Node → Type 0
IsInRange node = IsTerm node.term × IfSome node.voted (λ m. m < 5)

-- each image of file 0 stands for the node in version 1
pub record AllOld (node : Node) (files : ℕ → FileState) : Type 0 where
  pub this : (c : List ℕ) → IsImage (files 0) c → StandsFor c node × (slice_index c 17 ≢ 2)

-- file 0 stands for the node, and each other file is as a crash could leave it before
abbrev pub Stays : (ℕ → FileState) → Node → (ℕ → List ℕ) → Type 0
Stays files node c = FileIs 0 (Means node) files c

-- nobody in both slots, and version 2
abbrev pub migrated : List ℕ → List ℕ
migrated bytes = overwritten 17 (2 ∷ []) (overwritten 20 (replicate 8 255) bytes)

-- what the file of a new member tells
abbrev pub fresh : Node
fresh = record { slot = 0; term = negsuc 0; voted = None }

-- the file of a new member, all of it on the disk
pub record IsFresh (s : FileState) : Type 0 where
  pub bytes : List ℕ
  pub settled : s ≡ settled_file bytes
  pub tells : Tells fresh bytes
