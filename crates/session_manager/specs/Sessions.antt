-- The open sessions.
use Rattle.std.specs.Prelude.{ℕ, zero, suc, ◌^◌, ℤ, pos, ◌+ℤ◌, ◌+◌, int_lt, int_le, nat_le, Bool, true, false, not, ◌&&◌, if◌then◌else◌, List, [], ◌∷◌, ◌++◌, map, filter, find, Option, None, Some, ◌<ℤ◌, ⊤}
use Rattle.std.specs.List.{AllByRecursion}
use Rattle.std.specs.Int.{int_max}
use Rattle.std.specs.Ordering.{int_eq}
use Rattle.sbe_events.specs.declared.event.Event.{Event}
use Rattle.sbe_events.specs.declared.event.Event.TheVariants as events
use Rattle.session_manager.specs.declared.session.Session.{Session}

-- the sessions by rising id, and the id of the next one
pub record SessionTable : Type 0 where
  pub listed : List Session
  pub next_id : ℤ

abbrev pub first_sessions : SessionTable
first_sessions = record { listed = []; next_id = pos 1 }

-- no sessions, and the id of the next one
abbrev pub none_before : ℤ → SessionTable
none_before next_id = record { listed = []; next_id = next_id }

-- a session stands behind the others
abbrev pub with_last : Session → SessionTable → SessionTable
with_last s m = record m { listed = m.listed ++ s ∷ [] }

abbrev pub is_of : ℤ → Session → Bool
is_of id s = int_eq s.id id

-- the open session of an id
abbrev pub session_of : SessionTable → ℤ → Option Session
session_of m id = find (is_of id) m.listed

-- the session at a place in the order of ids
abbrev pub session_at : List Session → ℕ → Option Session
session_at [] n = None
session_at (s ∷ ss) zero = Some s
session_at (s ∷ ss) (suc n) = session_at ss n

-- only the next id opens, as long as it isn't past the ids
abbrev pub is_next : SessionTable → ℤ → Bool
is_next m id = int_eq id m.next_id && int_lt m.next_id (pos (2 ^ 62))

abbrev pub opened : SessionTable → Session → SessionTable
opened m s = if is_next m s.id then record { listed = m.listed ++ s ∷ []; next_id = m.next_id +ℤ pos 1 } else m

-- a change of the session of one id
abbrev pub at_id : ℤ → (Session → Session) → Session → Session
at_id id f s = if is_of id s then f s else s

abbrev pub stamped : ℤ → Session → Session
stamped t s = record s { stamp = int_max s.stamp t }

abbrev pub marked : Session → Session
marked s = record s { closing = true }

abbrev pub others : ℤ → List Session → List Session
others id ss = filter (λ s. not (is_of id s)) ss

-- an open opens, a message raises its session's stamp, a close closes
abbrev pub sessions_after : SessionTable → Event → SessionTable
sessions_after m (events.Opened term corr session stamp stream channel) =
    opened m (record { id = session; corr = corr; stamp = stamp; stream = stream; closing = false; channel = channel })
sessions_after m (events.Message term session stamp payload) = record m { listed = map (at_id session (stamped stamp)) m.listed }
sessions_after m (events.Closed term session stamp reason) = record m { listed = others session m.listed }
sessions_after m _ = m

-- a message raises the stamp of one session
abbrev pub stamped_at : ℤ → ℤ → SessionTable → SessionTable
stamped_at id stamp m = record m { listed = map (at_id id (stamped stamp)) m.listed }

-- the session of an id goes
abbrev pub closed_at : ℤ → SessionTable → SessionTable
closed_at id m = record m { listed = others id m.listed }

-- the session of an id is marked
abbrev pub marked_at : ℤ → SessionTable → SessionTable
marked_at id m = record m { listed = map (at_id id marked) m.listed }

-- ids rise
abbrev pub IdsRise : List Session → Type 0
IdsRise [] = ⊤
IdsRise (s ∷ ss) = AllByRecursion (λ (r : Session). s.id <ℤ r.id) ss × IdsRise ss

-- true of every state: ids rise, and all are below the next one
pub record IsOrdered (m : SessionTable) : Type 0 where
  pub below : AllByRecursion (λ (s : Session). s.id <ℤ m.next_id) m.listed
  pub rise : IdsRise m.listed

-- no open or message of the session for 10,000 ms, and the leadership is as old
abbrev pub is_idle : ℕ → ℕ → Session → Bool
is_idle now since s = int_le (s.stamp +ℤ pos 10000) (pos now) && nat_le (since + 10000) now

-- the id of a session that is there and idle
abbrev pub idle_id : ℕ → ℕ → Option Session → List ℤ
idle_id now since None = []
idle_id now since (Some s) = if is_idle now since s then s.id ∷ [] else []

-- the ids of the sessions that are idle
abbrev pub sessions_due : ℕ → ℕ → SessionTable → List ℤ
sessions_due now since m = map (λ (s : Session). s.id) (filter (is_idle now since) m.listed)

-- what a caller sees: the sessions, and how many more can be opened without memory
pub record SessionsSeen : Type 0 where
  pub table : SessionTable
  pub rooms : ℕ
