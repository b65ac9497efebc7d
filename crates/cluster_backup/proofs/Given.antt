-- What a member gives has a spelling.
use Rattle.std.proofs.Common.{◌≡◌, ℕ, suc, ◌<◌, ◌≤◌, ◌^◌, ℤ, pos, ◌≤ℤ◌, List, [], ◌∷◌, length, All, IsSome, Some, None, Option, FitsSigned, w32, w64, refl, sym, subst, arith}
use Rattle.std.proofs.lemmas.Int.{ints}
use Rattle.std.proofs.lemmas.List.Elements.{All-head, All-tail}
use Rattle.sbe_events.specs.Spelling.{event_of, first_fault}
use Rattle.sbe_events.specs.Laws.{free_event}
use Rattle.sbe_events.specs.declared.event.Event.{Event}
use Rattle.snapshot_store.specs.Snapshots.{ArePieces}
use Rattle.cluster_backup.specs.Giving.{IsEvent}
use Rattle.cluster_backup.specs.Spelling.{IsPart, AreParts, HasSpelling}
use Rattle.cluster_backup.specs.declared.packet.BackupPacket.TheVariants.{Log, Snapshot}
use Rattle.cluster_backup.specs.declared.part.Part.TheVariants as part
use Rattle.cluster_backup.proofs.Events.{free_short}

event_part : (bytes : List ℕ) (o : Option Event) → event_of bytes ≡ o → IsSome o → IsPart part.Event bytes
event_part bytes None is some = absurd (cc)
event_part bytes (Some e) is some = let free = free_event bytes e is in (free, free_short bytes free)

pub event_parts : (bs : List (List ℕ)) → All IsEvent bs → AreParts part.Event bs
event_parts [] all = tt
event_parts (b ∷ bs) all = (event_part b (event_of b) refl (All-head IsEvent b bs all), event_parts bs (All-tail IsEvent b bs all))

pub piece_parts : (ps : List (List ℕ)) → ArePieces ps → AreParts part.Piece ps
piece_parts [] all = tt
piece_parts (p ∷ ps) all = (all.0, piece_parts ps all.1)

pub log_fits : (start : ℕ) (events : List (List ℕ)) → start ≤ 2 ^ 62 → 1 ≤ length events → length events ≤ 64 → All IsEvent events → HasSpelling (Log (pos start) events)
log_fits start events low some few all = ((omega (arith, ints), omega (arith, ints, low)), some, few, event_parts events all)

pub snapshot_fits : (recording : ℕ) (term : ℤ) (position : ℕ) (stamp service : ℤ) (pieces : List (List ℕ)) → recording < 1024 → pos 0 ≤ℤ term → term ≤ℤ pos (2 ^ 62) → position ≤ 2 ^ 62 → pos 0 ≤ℤ stamp → stamp ≤ℤ pos (2 ^ 62) → FitsSigned w32 service → length pieces < 2 ^ 31 → ArePieces pieces
    → HasSpelling (Snapshot (pos recording) term (pos position) stamp service pieces)
snapshot_fits recording term position stamp service pieces named tl th ph sl sh fits few all = (record { sfits = omega (arith, named) }, (tl, th), (omega (arith, ints), omega (arith, ints, ph)), (sl, sh), fits, few, piece_parts pieces all)

-- the same, by the numbers that the packet has
pub log_numbered : (z : ℤ) (start : ℕ) (events : List (List ℕ)) → z ≡ pos start → start ≤ 2 ^ 62 → 1 ≤ length events → length events ≤ 64 → All IsEvent events → HasSpelling (Log z events)
log_numbered z start events is low some few all = subst (λ n. HasSpelling (Log n events)) (sym is) (log_fits start events low some few all)

pub snapshot_numbered : (r p : ℤ) (recording : ℕ) (term : ℤ) (position : ℕ) (stamp service : ℤ) (pieces : List (List ℕ)) → r ≡ pos recording → p ≡ pos position → recording < 1024 → pos 0 ≤ℤ term → term ≤ℤ pos (2 ^ 62) → position ≤ 2 ^ 62 → pos 0 ≤ℤ stamp → stamp ≤ℤ pos (2 ^ 62) → FitsSigned w32 service → length pieces < 2 ^ 31 → ArePieces pieces
    → HasSpelling (Snapshot r term p stamp service pieces)
snapshot_numbered r p recording term position stamp service pieces ri pi named tl th ph sl sh fits few all =
    subst (λ n. HasSpelling (Snapshot n term p stamp service pieces)) (sym ri) (subst (λ n. HasSpelling (Snapshot (pos recording) term n stamp service pieces)) (sym pi) (snapshot_fits recording term position stamp service pieces named tl th ph sl sh fits few all))
