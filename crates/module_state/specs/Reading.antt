-- What is read of the piece in front of others.
use Rattle.std.specs.Prelude.{◌≡◌, ℕ, ℤ, pos, int_lt, int_le, unsigned_abs, Bool, false, ◌&&◌, ◌==◌, if◌then◌else◌, List, [], ◌∷◌, Option, Some, None, Result, Ok, Err}
use Rattle.std.specs.Ordering.{int_eq}
use Rattle.sbe_local.specs.declared.piece.Piece.{Piece}
use Rattle.sbe_local.specs.declared.piece.Piece.TheVariants as pieces
use Rattle.session_manager.specs.declared.session.Session.{Session}
use Rattle.module_state.specs.Module.{Module}
use Rattle.module_state.specs.Recorded.{Got, Head, count_of, is_above}

abbrev pub first_piece : List Piece → Option Piece
first_piece [] = None
first_piece (p ∷ ps) = Some p

abbrev pub pieces_behind : List Piece → List Piece
pieces_behind [] = []
pieces_behind (p ∷ ps) = ps

-- the pieces that are left where one in front was read, or wasn't
abbrev pub left_by : {X : Type 0} → Option X → List Piece → List Piece
left_by None ps = ps
left_by (Some x) ps = pieces_behind ps

-- the numbers of Module
abbrev pub head_in : Option Piece → Option Head
head_in (Some (pieces.Module next_session actions entries leader)) =
    Some (record { next_id = next_session; counts = record { actions = unsigned_abs actions; entries = unsigned_abs entries; leader = leader } })
head_in _ = None

-- what the Counter of service v says
abbrev pub count_in : ℕ → Option Piece → Option (ℕ × ℕ)
count_in v (Some (pieces.Counter offered appended service)) = if service == v && int_le appended offered then Some (count_of offered appended) else None
count_in v _ = None

-- the piece is the Pending of service v with this number
abbrev pub is_message : ℕ → ℕ → Piece → Bool
is_message v n (pieces.Pending number service payload) = service == v && int_eq number (pos n)
is_message v n _ = false

abbrev pub payload_in : Piece → Option (List ℕ)
payload_in (pieces.Pending number service payload) = Some payload
payload_in _ = None

abbrev pub message_in : ℕ → ℕ → Option Piece → Option (List ℕ)
message_in v n None = None
message_in v n (Some p) = if is_message v n p then payload_in p else None

-- the piece is a Session above the last one, below the next id
abbrev pub is_session : ℤ → Option ℤ → Piece → Bool
is_session next last (pieces.Session id corr stamp stream closing channel) = is_above last id && int_lt id next
is_session next last _ = false

abbrev pub session_value : Piece → Option Session
session_value (pieces.Session id corr stamp stream closing channel) = Some (record { id = id; corr = corr; stamp = stamp; stream = stream; closing = closing; channel = channel })
session_value _ = None

abbrev pub session_in : ℤ → Option ℤ → Option Piece → Option Session
session_in next last None = None
session_in next last (Some p) = if is_session next last p then session_value p else None

-- the Timer above the last one
abbrev pub timer_in : Option ℤ → Option Piece → Option (ℤ × ℤ)
timer_in last (Some (pieces.Timer corr deadline)) = if is_above last corr then Some (corr, deadline) else None
timer_in last _ = None

-- what a test of the piece in front answers
abbrev pub passes : (Piece → Bool) → Option Piece → Bool
passes f None = false
passes f (Some p) = f p

-- a part was read of the pieces in front, and these are left; or none was, and the first of these mustn't come
abbrev pub Reads : {X : Type 0} → Option X → List Piece → Got X → Type 0
Reads (Some x) left got = got ≡ Ok (x, left)
Reads None left got = got ≡ Err left

-- a state was read of all pieces; or none was, and the first that is left mustn't come
abbrev pub Ends : Option Module → List Piece → Result Module (List Piece) → Type 0
Ends (Some m) left got = (got ≡ Ok m) × (left ≡ [])
Ends None left got = got ≡ Err left
