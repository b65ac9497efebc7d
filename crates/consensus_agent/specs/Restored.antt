-- What the services and the module of the latest valid set of snapshots are, by the files of the set.
use Rattle.std.specs.Prelude.{◌≡◌, ⊤, ℕ, suc, ◌+◌, ◌<◌, ◌^◌, pos, negsuc, All, List, [], ◌∷◌, length, Ok}
use Rattle.cl_base.specs.Disk.{FileState}
use Rattle.recording_log.specs.declared.entry.RecEntry.{RecEntry}
use Rattle.snapshot_store.specs.Snapshots.{spelled}
use Rattle.member_disk.specs.Kept.{Kept}
use Rattle.member_disk.specs.Changes.{IsLatestPart}
use Rattle.module_state.specs.Module.{Module}
use Rattle.module_state.specs.Restored.{restored}
use Rattle.service_api.specs.declared.shipped.Kind.{Kind}
use Rattle.service_api.specs.declared.shipped.Shipped.{Shipped}
use Rattle.service_api.specs.Shipped.{restored_of}
use Rattle.service_container.specs.Held.{Held as ContainerHeld, begun}
use Rattle.snapshot_pieces.specs.declared.origin.Origin.{Origin}
use Rattle.snapshot_pieces.specs.Pieces.{between, service_pieces_of}
use Rattle.consensus_agent.specs.declared.mounting.Start.{Start}

-- the latest valid set has a snapshot of this origin, and the file that its last entry names reads these pieces
pub record HasPieces (kept : Kept) (files : ℕ → FileState) (o : Origin) (pieces : List (List ℕ)) : Type 0 where
  pub entry : RecEntry
  pub recording : ℕ
  pub latest : IsLatestPart kept.services kept.entries o.service entry
  pub named : entry.recording ≡ pos recording
  pub term : entry.term ≡ o.term
  pub position : entry.position ≡ pos o.position
  pub reads : (files (258 + recording)).reads ≡ spelled pieces

-- the service of this kind and number goes on at this entry, in the state that the records of its snapshot restore
pub record GoesOn (kept : Kept) (files : ℕ → FileState) (base : ℕ) (kind : Kind) (number : ℕ) (c : ContainerHeld) : Type 0 where
  pub begins : c ≡ begun number base c.state
  pub state : (o : Origin) (records : List ℕ) (s : Shipped) → o.service ≡ pos number → length records < 2 ^ 31 → HasPieces kept files o (service_pieces_of o records) → restored_of kind records ≡ Ok s → c.state ≡ s

-- each of the services from a number on does
abbrev pub GoOn : Kept → (ℕ → FileState) → ℕ → List Kind → ℕ → List ContainerHeld → Type 0
GoOn kept files base [] number [] = ⊤
GoOn kept files base (kind ∷ kinds) number (c ∷ cs) = GoesOn kept files base kind number c × GoOn kept files base kinds (suc number) cs
GoOn kept files base _ number _ = ⊥

-- the module of a member with so many services is in the state that the records of its snapshot restore
abbrev pub IsRestored : Kept → (ℕ → FileState) → ℕ → Module → Type 0
IsRestored kept files services m =
    (o : Origin) (records : List (List ℕ)) (n : Module) → o.service ≡ negsuc 0 → All (λ p. length p < 2 ^ 32) records → HasPieces kept files o (between o records) → restored services records ≡ Ok n → m ≡ n

-- the services and the module go on from the latest valid set
pub record IsFromSet (kept : Kept) (files : ℕ → FileState) (kinds : List Kind) (s : Start) : Type 0 where
  pub services : GoOn kept files s.base kinds 0 s.containers.items
  pub state : IsRestored kept files (length kinds) s.module.state
