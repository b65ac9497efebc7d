-- The state that records restore, or what is first wrong with them.
use Rattle.std.specs.Prelude.{◌≡◌, ℕ, zero, suc, ◌+◌, ◌-◌, ◌^◌, min, List, [], ◌∷◌, length, map, Option, Some, None, Result, Ok, Err}
use Rattle.wire_prims.specs.Fields.{u16_at}
use Rattle.wire_prims.specs.Header.{bad}
use Rattle.wire_prims.specs.declared.fault.Bad.{Bad}
use Rattle.wire_prims.specs.declared.fault.BadCause.TheVariants as causes
use Rattle.sbe_local.specs.declared.piece.Piece.{Piece}
use Rattle.sbe_local.specs.Pieces.{HasPieceSpelling, first_fault_piece, piece_spelling_of, piece_value}
use Rattle.session_manager.specs.declared.session.Session.{Session}
use Rattle.module_state.specs.Module.{Module}
use Rattle.module_state.specs.Recorded.{module_from_pieces, pieces_of, session_piece}

-- the records of a state: its pieces, spelled
abbrev pub records_of : Module → List (List ℕ)
records_of m = map piece_spelling_of (pieces_of m)

-- the record of a session that is there
abbrev pub session_record : Option Session → List (List ℕ)
session_record None = []
session_record (Some s) = piece_spelling_of (session_piece s) ∷ []

abbrev pub piece_of : List ℕ → Piece
piece_of r = piece_value (u16_at 2 r) r

-- bytes are read as a piece, or have this fault
abbrev pub IsReadAs : List ℕ → Result Piece Bad → Type 0
IsReadAs bytes (Ok p) = (first_fault_piece bytes ≡ None) × (p ≡ piece_of bytes) × HasPieceSpelling p
IsReadAs bytes (Err b) = first_fault_piece bytes ≡ Some b

abbrev pub put_piece : Option Bad → Piece → List Piece → List Piece
put_piece None p ps = p ∷ ps
put_piece (Some b) p ps = []

-- the pieces that records spell, up to the first record that spells none
abbrev pub front_pieces : List (List ℕ) → List Piece
front_pieces [] = []
front_pieces (r ∷ rs) = put_piece (first_fault_piece r) (piece_of r) (front_pieces rs)

abbrev pub first_of : Option Bad → Option Bad → Option Bad
first_of None later = later
first_of (Some b) later = Some b

-- the fault of that record
abbrev pub front_fault : List (List ℕ) → Option Bad
front_fault [] = None
front_fault (r ∷ rs) = first_of (first_fault_piece r) (front_fault rs)

-- the bytes of so many records in front, each with its length of four
abbrev pub bytes_before : ℕ → List (List ℕ) → ℕ
bytes_before zero rs = 0
bytes_before (suc n) [] = 0
bytes_before (suc n) (r ∷ rs) = 4 + length r + bytes_before n rs

-- a place, up to 2^64 - 1
abbrev pub capped : ℕ → ℕ
capped n = min n (2 ^ 64 - 1)

-- the fault of the record behind so many; without one a piece is missing
abbrev pub fault_behind : List (List ℕ) → ℕ → Option Bad → Bad
fault_behind rs known None = bad (capped (bytes_before known rs)) causes.Short
fault_behind rs known (Some b) = bad (capped (bytes_before known rs + 4 + b.place)) b.cause

-- What is first wrong, where so many records in front spell pieces, and so many of these weren't taken: the first of those.
abbrev pub first_wrong : List (List ℕ) → ℕ → ℕ → Option Bad → Bad
first_wrong rs known zero fault = fault_behind rs known fault
first_wrong rs known (suc left) fault = bad (capped (bytes_before (known - suc left) rs)) causes.Value

abbrev pub judged : List (List ℕ) → ℕ → Option Bad → Result Module (List Piece) → Result Module Bad
judged rs known None (Ok m) = Ok m
judged rs known (Some b) (Ok m) = Err (first_wrong rs known 0 (Some b))
judged rs known fault (Err left) = Err (first_wrong rs known (length left) fault)

-- the state that records restore, of a member with so many services
abbrev pub restored : ℕ → List (List ℕ) → Result Module Bad
restored services rs = judged rs (length (front_pieces rs)) (front_fault rs) (module_from_pieces services (front_pieces rs))
