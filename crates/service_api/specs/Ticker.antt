-- The service that sets timers for clients. Its state is the ids of timers, each with the session that set it, by rising id.
use Rattle.std.specs.Prelude.{◌≡◌, ℕ, suc, zero, ℤ, pos, ◌+ℤ◌, ◌+◌, ◌^◌, ◌≤◌, ◌==◌, ◌&&◌, ◌||◌, nat_lt, if◌then◌else◌, not, is_some, Bool, true, false, List, [], ◌∷◌, ◌++◌, length, slice_index, filter, Option, Some, None, Result, Ok, Err}
use Rattle.std.specs.List.{AllByRecursion}
use Rattle.std.specs.Ordering.{int_cmp, int_eq, is_lt}
use Rattle.std.specs.Int.RustNames.{FitsSigned}
use Rattle.std.specs.Int.{w64}
use Rattle.std.specs.Map.{lookup, keys_of}
use Rattle.std.specs.BTreeMap.{insert_entry, is_at}
use Rattle.std.specs.List.Sorted.{IsStrictlySortedBy}
use Rattle.wire_prims.specs.Fields.{u32_at, u64_at, i64_at, le32, signed64}
use Rattle.wire_prims.specs.Header.{bad}
use Rattle.wire_prims.specs.declared.fault.Bad.{Bad}
use Rattle.wire_prims.specs.declared.fault.BadCause.TheVariants as causes
use Rattle.sbe_events.specs.declared.event.Event.{Event}
use Rattle.sbe_events.specs.declared.event.Event.TheVariants as events
use Rattle.sbe_local.specs.declared.command.Command.TheVariants as commands
use Rattle.service_api.specs.declared.output.Output.{Output}
use Rattle.service_api.specs.declared.output.Output.TheVariants.{Egress, Command}

-- ids of timers, each with its session
abbrev pub Ids : Type 0
Ids = List (ℤ × ℤ)

-- the session that an id is mapped to
abbrev pub session_of : Ids → ℤ → Option ℤ
session_of ids id = lookup (is_at (int_cmp id)) ids

-- an id has room where it is there, or fewer than 4,096 are
abbrev pub has_room : Ids → ℤ → Bool
has_room ids id = nat_lt (length ids) 4096 || is_some (session_of ids id)

-- a timer that is due after a delay, in ms: it is scheduled and mapped to the session where the delay is below 2^32 and the id has room
abbrev pub scheduled : Ids → ℤ → ℤ → ℤ → ℕ → Ids × List Output
scheduled ids session stamp id delay =
    if nat_lt delay (2 ^ 32) && has_room ids id
    then (insert_entry int_cmp ids id session, Command (commands.Schedule id (stamp +ℤ pos delay)) ∷ [])
    else (ids, [])

-- A payload of 16 bytes is an id and a delay, and sets that timer. One of 8 bytes is an id, and cancels that timer. The byte 0x78 closes the session. No other payload does anything.
abbrev pub asked : Ids → ℤ → ℤ → List ℕ → Ids × List Output
asked ids session stamp payload =
    if length payload == 16 then scheduled ids session stamp (i64_at 0 payload) (u64_at 8 payload)
    else (if length payload == 8 then (ids, Command (commands.Cancel (i64_at 0 payload)) ∷ [])
    else (if length payload == 1 && slice_index payload 0 == 0x78 then (ids, Command (commands.CloseSession session) ∷ []) else (ids, [])))

-- the id of a timer that is due goes to the session that it is mapped to
abbrev pub rung : Option ℤ → ℤ → List Output
rung (Some session) id = Egress session (signed64 id) ∷ []
rung None id = []

-- the ids of all other sessions
abbrev pub forgotten : Ids → ℤ → Ids
forgotten ids session = filter (λ e. not (int_eq e.1 session)) ids

-- session messages ask, timers ring, a close forgets the session's ids, and nothing else does anything
abbrev pub ticked : Ids → Event → Ids × List Output
ticked ids (events.Message term session stamp payload) = asked ids session stamp payload
ticked ids (events.Timer term corr stamp) = (ids, rung (session_of ids corr) corr)
ticked ids (events.Closed term session stamp reason) = (forgotten ids session, [])
ticked ids _ = (ids, [])

-- the bytes of ids with their sessions, 8 bytes each
abbrev pub spelled_pairs : Ids → List ℕ
spelled_pairs [] = []
spelled_pairs (e ∷ es) = signed64 e.0 ++ (signed64 e.1 ++ spelled_pairs es)

-- the records: how many ids, in 4 bytes, and then each with its session
abbrev pub spelled_ids : Ids → List ℕ
spelled_ids ids = le32 (length ids) ++ spelled_pairs ids

-- an id is above the one before it, if there is one
abbrev pub rises : Option ℤ → ℤ → Bool
rises None id = true
rises (Some last) id = is_lt (int_cmp last id)

-- the id and the session at a place
abbrev pub pair_at : ℕ → Option ℤ → List ℕ → Result (ℤ × ℤ) Bad
pair_at at last bytes =
    if nat_lt (length bytes) (at + 8) then Err (bad (length bytes) causes.Short)
    else (if not (rises last (i64_at at bytes)) then Err (bad at causes.Value)
    else (if nat_lt (length bytes) (at + 16) then Err (bad (length bytes) causes.Short) else Ok (i64_at at bytes, i64_at (at + 8) bytes)))

-- these, and then what follows
abbrev pub behind : Ids → Result Ids Bad → Result Ids Bad
behind front (Ok ids) = Ok (front ++ ids)
behind front (Err fault) = Err fault

-- a pair, and then those behind it
abbrev pub then_pairs : Result (ℤ × ℤ) Bad → (ℤ → Result Ids Bad) → Result Ids Bad
then_pairs (Ok e) rest = behind (e ∷ []) (rest e.0)
then_pairs (Err fault) rest = Err fault

-- so many ids from a place on, each above the one before it, and then the end
abbrev pub pairs_at : ℕ → ℕ → Option ℤ → List ℕ → Result Ids Bad
pairs_at zero at last bytes = if nat_lt at (length bytes) then Err (bad at causes.Trailing) else Ok []
pairs_at (suc n) at last bytes = then_pairs (pair_at at last bytes) (λ id. pairs_at n (at + 16) (Some id) bytes)

-- what records say: at most 4,096 ids
abbrev pub restored_ids : List ℕ → Result Ids Bad
restored_ids bytes =
    if nat_lt (length bytes) 4 then Err (bad (length bytes) causes.Short)
    else (if nat_lt 4096 (u32_at 0 bytes) then Err (bad 0 causes.Value) else pairs_at (u32_at 0 bytes) 4 None bytes)

-- both numbers of a pair fit 64 bits
abbrev pub Fits : ℤ × ℤ → Type 0
Fits e = FitsSigned w64 e.0 × FitsSigned w64 e.1

-- ids rise, there are at most 4,096, and each number fits 64 bits
pub record IsTable (ids : Ids) : Type 0 where
  pub rising : IsStrictlySortedBy int_cmp (keys_of ids)
  pub few : length ids ≤ 4096
  pub fit : AllByRecursion Fits ids
