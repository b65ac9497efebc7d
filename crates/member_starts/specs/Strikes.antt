-- What is said of a stopped member's disk that is mounted, and of a strike on it, clause by clause.
use Rattle.std.specs.Prelude.{◌≡◌, ℕ, Bool, IsTrue, List, length, Result, Ok, OnOk}
use Rattle.cl_base.specs.Disk.{DiskState, LeavesOnly, OthersStay}
use Rattle.cl_base.specs.declared.disk.Choice.{Choice}
use Rattle.cl_base.specs.declared.fault.MemberFault.{MemberFault}
use Rattle.recording_log.specs.declared.entry.RecEntry.{RecEntry}
use Rattle.recording_log.specs.Sets.{HasNoSet, IsLatest, struck as struck_in}
use Rattle.log_segment.specs.Held.{IsHeld, new_terms}
use Rattle.node_state.specs.Node.{mount_calls}
use Rattle.member_disk.specs.Changes.{HaveTerms}
use Rattle.member_disk.specs.CutWell.{IsCutWell, no_file}
use Rattle.member_disk.specs.Kept.{Kept, Held, EachStands, IsSettled, Means, ReadsLike}
use Rattle.member_disk.specs.Parts.{MountEnds}
use Rattle.member_disk.specs.Struck.{IsStruck, with_struck}
use Rattle.service_api.specs.declared.shipped.Kind.{Kind}
use Rattle.run_world.specs.Seat.{Fate, Seat, struck}
use Rattle.run_orders.specs.Stands.{Down, EndedSeen, IsSeat, SeatSeen}

-- a stopped member on this disk
abbrev pub down_seat : {D : Type 0} → Choice → List EndedSeen → D → SeatSeen D
down_seat choice ended disk = record { home = Down disk; choice = choice; ended = ended }

module _ {D : Type 0} (state : D → DiskState) (is_told is_honest : D → Bool) (moment : D → ℕ) (left_since : D → ℕ → (ℕ → List ℕ) → Type 0) where
  -- the disk of a member with so many services was mounted: `MemberDisk::mount` answered Ok; `rests` is that a disk at rest is so still
  pub record Mounted (services : ℕ) (disk : D) (h : Held D) : Type 0 where
    pub honest : is_honest h.disk ≡ is_honest disk
    pub others : IsTrue (is_told disk) → OthersStay 0 (state disk).files (state h.disk).files
    pub once : IsTrue (is_told disk) → (kept : Kept) → ReadsLike kept (state disk).files → IsHeld kept.log → kept.services ≡ services → h.kept ≡ kept
    pub settled : IsTrue (is_honest disk) → IsSettled (state disk).files → EachStands h.kept (state h.disk).files
    pub fuse : IsTrue (is_honest disk) → IsSettled (state disk).files → (kept : Kept) → ReadsLike kept (state disk).files → MountEnds {T = Unit {0}} (mount_calls ((state disk).files 0).reads) kept (state disk) (state h.disk) (Ok tt)
    pub rests : IsTrue (is_honest disk) → IsSettled (state disk).files → IsSettled (state h.disk).files

  -- it wasn't, and this disk came back: it answered Err
  pub record NotMounted (disk back : D) : Type 0 where
    pub honest : is_honest back ≡ is_honest disk
    pub others : IsTrue (is_told disk) → OthersStay 0 (state disk).files (state back).files
    pub run : IsTrue (is_honest disk) → IsSettled (state disk).files → (kept : Kept) → ReadsLike kept (state disk).files → LeavesOnly moment left_since disk back (Means kept)

  -- the latest valid set was to go: what `MemberDisk::invalidate` says, by its clauses of these names; `rests` is that where it answers Ok a disk at rest is so still
  pub record Invalidated (h k : Held D) (result : Result Bool MemberFault) : Type 0 where
    pub nothing : HasNoSet h.kept.services h.kept.entries → k.kept ≡ h.kept
    pub untouched : HasNoSet h.kept.services h.kept.entries → state k.disk ≡ state h.disk
    pub ok : (i : ℕ) (e : RecEntry) → IsLatest h.kept.services h.kept.entries i e → OnOk result (k.kept ≡ record h.kept { entries = struck_in i e h.kept.entries })
    pub honest : is_honest k.disk ≡ is_honest h.disk
    pub strike : IsTrue (is_honest h.disk) → EachStands h.kept (state h.disk).files → (i : ℕ) (e : RecEntry) → IsLatest h.kept.services h.kept.entries i e → IsStruck state moment left_since h.kept (with_struck h.kept i e) h.disk k.disk result
    pub cut_well : IsTrue (is_honest h.disk) → EachStands h.kept (state h.disk).files → HaveTerms h.kept.entries (new_terms 0 h.kept.log) → (i : ℕ) (e : RecEntry) → IsLatest h.kept.services h.kept.entries i e
        → IsCutWell state moment left_since no_file h.kept (with_struck h.kept i e) h.disk k.disk
    pub rests : IsTrue (is_honest h.disk) → IsSettled (state h.disk).files → OnOk result (IsSettled (state k.disk).files)

module _ {D : Type 0} (state : D → DiskState) (kinds : List Kind) where
  -- a strike, which a fault may have cut: by some fate of its disk the member's place stands to the seat whose latest valid set was to go
  pub record HasStruck (s : Seat) (x : SeatSeen D) : Type 0 where
    pub fate : Fate
    pub seat : IsSeat state kinds x (struck (length kinds) fate fate.cut s)
