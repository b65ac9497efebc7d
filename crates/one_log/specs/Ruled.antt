-- What the module and the shipped services of a cluster do, as the rules of the runs: their records, and what they owe.
use Rattle.std.specs.Prelude.{◌≡◌, ℕ, zero, suc, ◌-◌, ◌≤◌, ℤ, pos, Bool, true, false, List, [], ◌∷◌, ◌++◌, length, map, take, slice_get, Option, Some, None, Ok, Contains}
use Rattle.cl_base.specs.declared.entry.Entry.{Entry}
use Rattle.wire_prims.specs.Fields.{signed32}
use Rattle.entry_log.specs.Durable.{SnapshotEntry, SnapshotSet, latest_set, first_commit}
use Rattle.entry_log.specs.Log.{Log, place, last, IsPrefixOf}
use Rattle.sbe_events.specs.declared.event.Event.{Event}
use Rattle.sbe_events.specs.declared.event.Event.TheVariants as events
use Rattle.sbe_events.specs.Spelling.{event_of}
use Rattle.sbe_local.specs.declared.piece.Mark.{Mark}
use Rattle.sbe_local.specs.declared.piece.Mark.TheVariants.{Begin, End}
use Rattle.sbe_local.specs.declared.piece.Piece.{Piece}
use Rattle.sbe_local.specs.declared.piece.Piece.TheVariants.{Marker, ServiceState}
use Rattle.sbe_local.specs.Pieces.{piece_spelling_of}
use Rattle.sbe_client.specs.Spelling.{egress_spelling_of}
use Rattle.service_api.specs.declared.shipped.Kind.{Kind}
use Rattle.service_api.specs.Shipped.{spelled_of}
use Rattle.service_api.specs.Service.{state_of}
use Rattle.module_state.specs.Places.{stamp_of}
use Rattle.module_state.specs.Services.{module_of}
use Rattle.module_state.specs.Entries.{events_in}
use Rattle.module_state.specs.Recorded.{pieces_of, module_from_pieces}
use Rattle.module_state.specs.Owed.{Sending}
use Rattle.module_state.specs.OwedIn.{owed_of_module, owed_of_service}
use Rattle.world.specs.World.{member}
use Rattle.service_runs.specs.Hosts.{Rules, service_of}
use Rattle.service_runs.specs.Served.{SettledAt}
use Rattle.one_log.specs.Led.{Led}
use Rattle.one_log.specs.Formed.{IsFormed}

abbrev pub is_snapshot : Option Event → Bool
is_snapshot (Some (events.Snapshot term position stamp)) = true
is_snapshot _ = false

abbrev pub stamp_in : Option Event → ℤ
stamp_in None = pos 0
stamp_in (Some e) = stamp_of e

-- the state of a service after the log
abbrev pub state_pieces : Option Kind → Log → List Piece
state_pieces None log = []
state_pieces (Some kind) log = ServiceState (spelled_of (state_of kind log)) ∷ []

-- the records of a seat after the log: the module's at seat 0, service s's at seat s + 1
abbrev pub records_of : List Kind → Log → ℕ → List Piece
records_of kinds log zero = pieces_of (module_of kinds (events_in log))
records_of kinds log (suc s) = state_pieces (slice_get kinds s) log

abbrev pub marker : Log → ℕ → Mark → Piece
marker log seat mark = Marker (service_of seat) (pos (place log)) (last log) mark

-- a snapshot's pieces: the records between two markers
abbrev pub pieces_in : List Kind → Log → ℕ → List (List ℕ)
pieces_in kinds log seat = map piece_spelling_of (marker log seat Begin ∷ (records_of kinds log seat ++ marker log seat End ∷ []))

-- the bytes of a record for a client: its stream and its egress
abbrev pub record_of : Sending → List ℕ
record_of s = signed32 s.stream ++ egress_spelling_of s.egress

abbrev pub owed_by : Option Kind → List Kind → List Event → ℕ → List Sending
owed_by None kinds es i = []
owed_by (Some kind) kinds es i = owed_of_service kinds es i kind

-- what a seat owes by the log's last entry
abbrev pub sendings : List Kind → Log → ℕ → List Sending
sendings kinds log zero = owed_of_module kinds (events_in log) (length log - 1)
sendings kinds log (suc s) = owed_by (slice_get kinds s) kinds (events_in log) (length log - 1)

abbrev pub rules_of : List Kind → Rules
rules_of kinds = record {
  services = length kinds;
  is_action = λ (x : Entry). is_snapshot (event_of x.bytes);
  stamp = λ (x : Entry). stamp_in (event_of x.bytes);
  owed = λ (log : Log) (seat : ℕ). map record_of (sendings kinds log seat);
  pieces = pieces_in kinds;
}

-- the entry's pieces are its two markers and between them the records after the settled front that it names
pub record IsRecorded (kinds : List Kind) (w : Led) (m : ℕ) (s : SnapshotEntry) : Type 0 where
  pub seat : ℕ
  pub front : Log
  pub of_log : IsPrefixOf front (member w.hosted.world m).durable.log
  pub settled : SettledAt w.hosted.world m front
  pub formed : IsFormed kinds w.hosted.world.now front
  pub within : seat ≤ length kinds
  pub service : s.service ≡ service_of seat
  pub term : s.term ≡ last front
  pub position : s.position ≡ place front
  pub pieces : s.pieces ≡ pieces_in kinds front seat
  -- and the module's restore the module of that front
  pub restored : module_from_pieces (length kinds) (records_of kinds front 0) ≡ Ok (module_of kinds (events_in front))

abbrev pub AreRecorded : List Kind → Led → Type 0
AreRecorded kinds w = (m : ℕ) (s : SnapshotEntry) → Contains (member w.hosted.world m).durable.snapshots s → IsRecorded kinds w m s

-- of a disk with a valid set: the set has an entry for the module and for each service, with the records after the front that a start begins with
pub record BeginsWith (kinds : List Kind) (w : Led) (m : ℕ) (b : SnapshotSet) : Type 0 where
  pub position : place (take (first_commit (length kinds) (member w.hosted.world m).durable) (member w.hosted.world m).durable.log) ≡ b.position
  pub seats : (seat : ℕ) → seat ≤ length kinds → (s : SnapshotEntry) × Contains (member w.hosted.world m).durable.snapshots s × (s.service ≡ service_of seat)
      × (s.pieces ≡ pieces_in kinds (take (first_commit (length kinds) (member w.hosted.world m).durable) (member w.hosted.world m).durable.log) seat)
  pub restored : module_from_pieces (length kinds) (records_of kinds (take (first_commit (length kinds) (member w.hosted.world m).durable) (member w.hosted.world m).durable.log) 0)
      ≡ Ok (module_of kinds (events_in (take (first_commit (length kinds) (member w.hosted.world m).durable) (member w.hosted.world m).durable.log)))

abbrev pub StartsRestore : List Kind → Led → Type 0
StartsRestore kinds w = (m : ℕ) (b : SnapshotSet) → latest_set (length kinds) (member w.hosted.world m).durable.snapshots ≡ Some b → BeginsWith kinds w m b
