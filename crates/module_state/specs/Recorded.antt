-- The pieces of a module's snapshot, between its markers, and the state that they restore.
use Rattle.std.specs.Prelude.{◌≡◌, ℕ, ◌^◌, zero, suc, ◌+◌, ◌-◌, ◌≤◌, ◌==◌, ℤ, pos, int_lt, int_le, nat_lt, unsigned_abs, Bool, true, ◌&&◌, if◌then◌else◌, List, [], ◌∷◌, ◌++◌, length, map, Option, Some, None, Result, Ok, Err}
use Rattle.std.specs.Ordering.{int_eq}
use Rattle.sbe_local.specs.declared.piece.Piece.{Piece}
use Rattle.sbe_local.specs.declared.piece.Piece.TheVariants as pieces
use Rattle.session_manager.specs.declared.session.Session.{Session}
use Rattle.session_manager.specs.Sessions.{IsOrdered}
use Rattle.timer_service.specs.Timers.{TimerTable, NamesRise}
use Rattle.pending_messages.specs.Pending.{ServiceOffers, PendingTable, offered_of}
pub use Rattle.module_state.specs.declared.head.Head.{Head}
use Rattle.module_state.specs.Module.{Module}

-- ---- the pieces of a state

abbrev pub counter_of : ℕ → ServiceOffers → Piece
counter_of v o = pieces.Counter (pos (offered_of o)) (pos o.appended) v

-- one Counter for each service, from service v on
abbrev pub counters : ℕ → PendingTable → List Piece
counters v [] = []
counters v (o ∷ os) = counter_of v o ∷ counters (suc v) os

-- the messages of service v that wait, above the number n
abbrev pub waiting_pieces : ℕ → ℕ → List (List ℕ) → List Piece
waiting_pieces v n [] = []
waiting_pieces v n (p ∷ ps) = pieces.Pending (pos (n + 1)) v p ∷ waiting_pieces v (n + 1) ps

abbrev pub pending_pieces : ℕ → PendingTable → List Piece
pending_pieces v [] = []
pending_pieces v (o ∷ os) = waiting_pieces v o.appended o.waiting ++ pending_pieces (suc v) os

abbrev pub session_piece : Session → Piece
session_piece s = pieces.Session s.id s.corr s.stamp s.stream s.closing s.channel

abbrev pub session_pieces : List Session → List Piece
session_pieces l = map session_piece l

abbrev pub timer_piece : ℤ × ℤ → Piece
timer_piece a = pieces.Timer a.0 a.1

abbrev pub timer_pieces : TimerTable → List Piece
timer_pieces l = map timer_piece l

-- Module, the Counters by service, the Pendings by service and number, the Sessions by id, the Timers by name
abbrev pub pieces_of : Module → List Piece
pieces_of m =
    pieces.Module m.sessions.next_id (pos m.counts.actions) (pos m.counts.entries) m.counts.leader
    ∷ (counters 0 m.pending ++ (pending_pieces 0 m.pending ++ (session_pieces m.sessions.listed ++ timer_pieces m.timers)))

-- ---- the state of pieces

-- what was read, with the pieces behind it; or the pieces from the first one that mustn't come, none where one is missing
abbrev pub Got : Type 0 → Type 0
Got X = Result (X × List Piece) (List Piece)

abbrev pub and_then : {X Y : Type 0} → Got X → (X → List Piece → Got Y) → Got Y
and_then (Ok r) f = f r.0 r.1
and_then (Err e) f = Err e

abbrev pub take_head : List Piece → Got Head
take_head (pieces.Module next_session actions entries leader ∷ ps) =
    Ok (record { next_id = next_session; counts = record { actions = unsigned_abs actions; entries = unsigned_abs entries; leader = leader } }, ps)
take_head ps = Err ps

-- what a Counter says: how many were appended, and how many of those offered weren't
abbrev pub count_of : ℤ → ℤ → ℕ × ℕ
count_of offered appended = (unsigned_abs appended, unsigned_abs offered - unsigned_abs appended)

-- no service offers more than 2^47
abbrev pub IsCount : ℕ × ℕ → Type 0
IsCount c = c.0 + c.1 ≤ 2 ^ 47

abbrev pub before_all : {X : Type 0} → X → Got (List X) → Got (List X)
before_all x (Ok r) = Ok (x ∷ r.0, r.1)
before_all x (Err e) = Err e

-- the Counters of n services, from service v on
abbrev pub take_counters : ℕ → ℕ → List Piece → Got (List (ℕ × ℕ))
take_counters zero v ps = Ok ([], ps)
take_counters (suc n) v (pieces.Counter offered appended service ∷ ps) =
    if service == v && int_le appended offered then before_all (count_of offered appended) (take_counters n (suc v) ps) else Err (pieces.Counter offered appended service ∷ ps)
take_counters (suc n) v ps = Err ps

-- n Pendings of service v, above a number
abbrev pub take_waiting : ℕ → ℕ → ℕ → List Piece → Got (List (List ℕ))
take_waiting zero v k ps = Ok ([], ps)
take_waiting (suc n) v k (pieces.Pending number service payload ∷ ps) =
    if service == v && int_eq number (pos (k + 1)) then before_all payload (take_waiting n v (k + 1) ps) else Err (pieces.Pending number service payload ∷ ps)
take_waiting (suc n) v k ps = Err ps

abbrev pub take_pending : ℕ → List (ℕ × ℕ) → List Piece → Got PendingTable
take_pending v [] ps = Ok ([], ps)
take_pending v (c ∷ cs) ps = and_then (take_waiting c.1 v c.0 ps) (λ ws rest. before_all (record { appended = c.0; waiting = ws }) (take_pending (suc v) cs rest))

abbrev pub is_above : Option ℤ → ℤ → Bool
is_above None id = true
is_above (Some last) id = int_lt last id

abbrev pub with_more : {X : Type 0} → X → List X × List Piece → List X × List Piece
with_more x r = (x ∷ r.0, r.1)

-- Sessions as long as they come by rising id below the next one, with room for n
abbrev pub take_sessions : ℤ → Option ℤ → ℕ → List Piece → List Session × List Piece
take_sessions next last n (pieces.Session id corr stamp stream closing channel ∷ ps) =
    if is_above last id && (int_lt id next && nat_lt 0 n)
    then with_more (record { id = id; corr = corr; stamp = stamp; stream = stream; closing = closing; channel = channel }) (take_sessions next (Some id) (n - 1) ps)
    else ([], pieces.Session id corr stamp stream closing channel ∷ ps)
take_sessions next last n ps = ([], ps)

-- Timers as long as they come by rising name, with room for n
abbrev pub take_timers : Option ℤ → ℕ → List Piece → TimerTable × List Piece
take_timers last n (pieces.Timer corr deadline ∷ ps) =
    if is_above last corr && nat_lt 0 n then with_more (corr, deadline) (take_timers (Some corr) (n - 1) ps) else ([], pieces.Timer corr deadline ∷ ps)
take_timers last n ps = ([], ps)

-- nothing may follow
abbrev pub at_end : Module → List Piece → Result Module (List Piece)
at_end m [] = Ok m
at_end m (p ∷ ps) = Err (p ∷ ps)

abbrev pub module_with : Head → PendingTable → List Session × List Piece → TimerTable × List Piece → Result Module (List Piece)
module_with head pending sessions timers =
    at_end (record { sessions = record { listed = sessions.0; next_id = head.next_id }; timers = timers.0; pending = pending; counts = head.counts }) timers.1

abbrev pub with_tables : Head → PendingTable → List Session × List Piece → Result Module (List Piece)
with_tables head pending sessions = module_with head pending sessions (take_timers None 4096 sessions.1)

abbrev pub finished : Got (Head × PendingTable) → Result Module (List Piece)
finished (Ok r) = with_tables r.0.0 r.0.1 (take_sessions r.0.0.next_id None 1024 r.1)
finished (Err e) = Err e

-- the state that pieces restore, of a member with so many services; or the pieces from the first one that mustn't come
abbrev pub module_from_pieces : ℕ → List Piece → Result Module (List Piece)
module_from_pieces services ps =
    finished (and_then (take_head ps) (λ head rest.
    and_then (take_counters services 0 rest) (λ counts rest2.
    and_then (take_pending 0 counts rest2) (λ pending rest3. Ok ((head, pending), rest3)))))

-- what is true of the module of a well-formed log, and makes its pieces restore it
pub record IsRecordable (services : ℕ) (m : Module) : Type 0 where
  pub ordered : IsOrdered m.sessions
  pub names : NamesRise m.timers
  pub services_there : length m.pending ≡ services
  pub few_sessions : length m.sessions.listed ≤ 1024
  pub few_timers : length m.timers ≤ 4096
