-- Data frames, after Aeron's: a header of 32 bytes and what it carries, up to the next multiple of 32.
use Rattle.std.specs.Prelude.{ℕ, ◌+◌, ◌-◌, ◌/◌, ◌%◌, ◌^◌, pos, int_le, Bool, true, false, ◌||◌, nat_lt, nat_le, ◌==◌, if◌then◌else◌, List, [], ◌∷◌, ◌++◌, length, replicate, slice_index, Option, Some, None, Result, Ok, Err}
use Rattle.wire_prims.specs.Fields.{u16_at, u32_at, i32_at, le16, le32}
use Rattle.wire_prims.specs.Header.{bad, aligned_to}
use Rattle.wire_prims.specs.Strict.{◌or_else◌, unless}
use Rattle.wire_prims.specs.declared.fault.Bad.{Bad}
use Rattle.wire_prims.specs.declared.fault.BadCause.TheVariants.{Short, Value}
use Rattle.wire_prims.specs.declared.frame.FrameHead.{FrameHead}

-- ---- the writing

-- the length that a header names: with what the frame carries, and of a pad the rest of the segment
abbrev pub frame_length : ℕ → Bool → ℕ → ℕ
frame_length position true carried = 65536 - position % 65536
frame_length position false carried = 32 + carried

-- data, or a pad
abbrev pub frame_type : Bool → ℕ
frame_type true = 0
frame_type false = 1

-- a header: the length, version 0, the flags, the type, the offset in the segment, session 1, stream 100, the segment's number, seven bytes 0, and the gate
unfoldable pub header_bytes : ℕ → ℕ → ℕ → ℕ → ℕ → List ℕ
header_bytes named flags type_number position gate =
    le32 named ++ (0 ∷ flags ∷ []) ++ le16 type_number ++ le32 (position % 65536) ++ le32 1 ++ le32 100 ++ le32 (position / 65536 % 2 ^ 32) ++ replicate 7 0 ++ (gate ∷ [])

-- a frame: its header, what it carries, and zeros up to the next multiple of 32
unfoldable pub frame : ℕ → ℕ → ℕ → Bool → List ℕ → List ℕ
frame position gate flags pad body =
    header_bytes (frame_length position pad (length body)) flags (frame_type pad) position gate ++ body ++ replicate (aligned_to (32 + length body) - (32 + length body)) 0

-- the flags of an event in one frame, and of the first, a middle and the last frame of several
abbrev pub are_flags : ℕ → Bool
are_flags flags = flags == 0xC0 || (flags == 0x80 || (flags == 0 || flags == 0x40))

-- ---- the reading

-- the first place, from this one on, at which other bytes stand than these
abbrev pub differs : List ℕ → ℕ → List ℕ → Option Bad
differs [] at bytes = None
differs (w ∷ wanted) at bytes = if slice_index bytes at == w then differs wanted (at + 1) bytes else Some (bad at Value)

-- a pad names the rest of the segment, and data at least the header's length
abbrev pub length_fault : Bool → ℕ → ℕ → List ℕ → Option Bad
length_fault true at position segment = differs (le32 (65536 - position % 65536)) at segment
length_fault false at position segment = unless (int_le (pos 32) (i32_at at segment)) (bad at Value)

abbrev pub flags_fit : Bool → ℕ → Bool
flags_fit true flags = flags == 0xC0
flags_fit false flags = are_flags flags

-- the offset in the segment, session 1, stream 100, the segment's number, and seven bytes 0
unfoldable pub names_fault : ℕ → ℕ → List ℕ → Option Bad
names_fault at position segment =
    differs (le32 (position % 65536)) (at + 8) segment or_else
    differs (le32 1) (at + 12) segment or_else
    differs (le32 100) (at + 16) segment or_else
    differs (le32 (position / 65536 % 2 ^ 32)) (at + 20) segment or_else
    differs (replicate 7 0) (at + 24) segment

-- a data frame is all there
abbrev pub passes_end : Bool → ℕ → List ℕ → Option Bad
passes_end true at segment = None
passes_end false at segment = unless (nat_le (at + aligned_to (u32_at at segment)) (length segment)) (bad (length segment) Short)

-- the first wrong byte of a frame with an open gate; one whose type isn't that of a pad is judged as data
unfoldable pub frame_fault : Bool → ℕ → ℕ → List ℕ → Option Bad
frame_fault pad at position segment =
    length_fault pad at position segment or_else
    unless (slice_index segment (at + 4) == 0) (bad (at + 4) Value) or_else
    unless (flags_fit pad (slice_index segment (at + 5))) (bad (at + 5) Value) or_else
    differs (le16 (frame_type pad)) (at + 6) segment or_else
    names_fault at position segment or_else
    passes_end pad at segment

abbrev pub is_pad_at : ℕ → List ℕ → Bool
is_pad_at at segment = u16_at (at + 6) segment == 0

abbrev pub head_at : ℕ → List ℕ → FrameHead
head_at at segment = record { length = u32_at at segment; pad = is_pad_at at segment; flags = slice_index segment (at + 5) }

abbrev pub fault_or : Option Bad → FrameHead → Result (Option FrameHead) Bad
fault_or None head = Ok (Some head)
fault_or (Some b) head = Err b

-- the header of a frame, none where fewer than 32 bytes are left for it or its gate isn't open
unfoldable pub frame_at : ℕ → List ℕ → Result (Option FrameHead) Bad
frame_at position segment =
    if nat_lt (length segment) (position % 65536 + 32) then Ok None
    else (if slice_index segment (position % 65536 + 31) == 0x5A then fault_or (frame_fault (is_pad_at (position % 65536) segment) (position % 65536) position segment) (head_at (position % 65536) segment) else Ok None)
