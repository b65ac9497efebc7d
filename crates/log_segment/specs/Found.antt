-- What stands where a frame, or an entry, may begin.
use Rattle.std.specs.Prelude.{◌≡◌, ◌⊎◌, ℕ, ◌+◌, ◌-◌, ◌%◌, ◌<◌, ◌≤◌, List, length}
use Rattle.wire_prims.specs.Frames.{header_bytes}
use Rattle.entry_log.specs.Log.{frames_len}
use Rattle.log_segment.specs.Segment.{IsAt, IsShut, pad_frame}
use Rattle.log_segment.specs.declared.scan.Found.{Found}
use Rattle.log_segment.specs.declared.scan.Found.TheVariants as found
use Rattle.log_segment.specs.declared.scan.Head.{Head}
use Rattle.log_segment.specs.declared.scan.Head.TheVariants as heads
use Rattle.log_segment.specs.declared.scan.Turn.{Turn}
use Rattle.log_segment.specs.declared.scan.Turn.TheVariants.{First, Later}

-- A frame with these flags that carries so many bytes may be its entry's first, or a later one. All but the last are
-- full, and a last one isn't empty.
abbrev pub MayStand : Turn → ℕ → ℕ → Type 0
MayStand First flags carried = ((flags ≡ 0xC0) × (carried ≤ 1376)) ⊎ ((flags ≡ 0x80) × (carried ≡ 1376))
MayStand Later flags carried = ((flags ≡ 0) × (carried ≡ 1376)) ⊎ ((flags ≡ 0x40) × (0 < carried) × (carried ≤ 1376))

-- the header of a data frame of so many bytes in all
abbrev pub data_header : ℕ → ℕ → ℕ → List ℕ
data_header n flags p = header_bytes n flags 1 p 0x5A

abbrev pub HeadFits : Turn → Head → Type 0
HeadFits turn (heads.Data flags carried) = MayStand turn flags carried
HeadFits turn _ = Unit {0}

-- what is seen of a file where a frame may begin
abbrev pub HeadSeen : ℕ → List ℕ → Head → Type 0
HeadSeen position file heads.Short = length file < position % 65536 + 32
HeadSeen position file heads.Closed = IsShut (position % 65536) file
HeadSeen position file heads.Pad = IsAt (position % 65536) (pad_frame position) file
HeadSeen position file (heads.Data flags carried) = position % 65536 + 32 ≤ length file

-- the frames of an event fit in what is left of the segment
abbrev pub FoundFits : ℕ → Found → Type 0
FoundFits position (found.Event len) = (frames_len len ≤ 65536 - position % 65536) × (len ≤ 65536)
FoundFits position _ = Unit {0}

-- what is seen of a file where an entry may begin
abbrev pub FoundSeen : ℕ → List ℕ → Found → Type 0
FoundSeen position file found.Short = length file < position % 65536 + 32
FoundSeen position file found.Closed = IsShut (position % 65536) file
FoundSeen position file found.Pad = IsAt (position % 65536) (pad_frame position) file
FoundSeen position file (found.Event len) = position % 65536 ≤ length file
