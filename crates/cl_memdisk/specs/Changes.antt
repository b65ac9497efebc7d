-- What the changes of a file since its last sync, kept beside its bytes, stand for.
use Rattle.std.specs.Prelude.{◌≡◌, ℕ, ◌+◌, ◌<◌, ◌≤◌, max, List, [], ◌∷◌, ◌++◌, length, take, drop, map}
use Rattle.std.specs.Coded.{×_prop, →_prop, Unit-prop, le_prop}
use Rattle.cl_base.specs.Disk.{FileState}
use Rattle.cl_memdisk.specs.declared.change.Change.{Change}

-- the bytes as they were before a change: what it found in its range is there again
abbrev pub taken_back : Change → List ℕ → List ℕ
taken_back c bytes = take c.from bytes ++ c.was.items ++ drop c.end bytes

-- the bytes as they were before these changes, the oldest of them first
abbrev pub before_all : List Change → List ℕ → List ℕ
before_all [] bytes = bytes
before_all (c ∷ later) bytes = taken_back c (before_all later bytes)

-- its first byte, and the one past its last
abbrev pub range_of : Change → ℕ × ℕ
range_of c = (c.from, c.end)

-- A file as it stands in memory: its bytes, its changes since the last sync, the oldest first, and the least and the
-- greatest length that it had since.
pub record FileData : Type 0 where
  pub bytes : List ℕ
  pub changes : List Change
  pub least : ℕ
  pub most : ℕ

-- what it stands for
abbrev pub shown : FileData → FileState
shown d = record {
  reads = d.bytes;
  synced = before_all d.changes d.bytes;
  ranges = map range_of d.changes;
  least = d.least;
  most = d.most;
}

-- all of a file on the disk
abbrev pub settled_data : List ℕ → FileData
settled_data bytes = record { bytes = bytes; changes = []; least = length bytes; most = length bytes }

-- a range is as if written, with its bytes as they were
abbrev pub torn_file : ℕ → ℕ → FileState → FileState
torn_file at end s = record { reads = s.reads; synced = s.synced; ranges = s.ranges ++ (at, end) ∷ []; least = s.least; most = max s.most end }

-- what a change found fills its range
abbrev pub FillsRange : Change → Type 0
FillsRange c = (c.from + length c.was.items ≤ c.end) × (c.end ≤ c.from + length c.was.items)

-- a change can be taken back in place, in a vector with room for so many bytes
abbrev pub InPlace : ℕ → Change → List ℕ → Type 0
InPlace room c bytes = (c.from ≤ length bytes) × ((c.from + length c.was.items ≤ room) × (c.end < length bytes → FillsRange c))

-- and so can all of these, the newest first
abbrev pub AllInPlace : ℕ → List Change → List ℕ → Type 0
AllInPlace room [] bytes = Unit {0}
AllInPlace room (c ∷ later) bytes = InPlace room c (before_all later bytes) × AllInPlace room later bytes

-- which can be so in one way only
pub AllInPlace-prop : (room : ℕ) (changes : List Change) (bytes : List ℕ) → IsProp (AllInPlace room changes bytes)
AllInPlace-prop room [] bytes = Unit-prop
AllInPlace-prop room (c ∷ later) bytes = ×_prop (×_prop le_prop (×_prop le_prop (→_prop (×_prop le_prop le_prop)))) (AllInPlace-prop room later bytes)

-- A file has one change more, of the range from `at` up to `end`: it can be taken back in place, and then gives the
-- bytes from before.
pub record OneMore (room at end : ℕ) (old_bytes new_bytes : List ℕ) (old_changes new_changes : List Change) : Type 0 where
  pub last : Change
  pub pushed : new_changes ≡ old_changes ++ last ∷ []
  pub from : last.from ≡ at
  pub end_is : last.end ≡ end
  pub back : taken_back last new_bytes ≡ old_bytes
  pub in_place : InPlace room last new_bytes
