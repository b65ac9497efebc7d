-- What a snapshot's file is read back as.
use Rattle.std.specs.Prelude.{◌≡◌, ⊤, ℕ, List, ◌∷◌, ◌++◌, [], Result, Ok}
use Rattle.cl_base.specs.declared.fault.MemberFault.{MemberFault}
use Rattle.cl_base.specs.declared.fault.MemberFault.TheVariants.{Device, LogFull, Damaged, NoMemory}
use Rattle.service_api.specs.declared.shipped.Kind.{Kind}
use Rattle.service_api.specs.declared.shipped.Shipped.{Shipped}
use Rattle.service_api.specs.Shipped.{restored_of}
use Rattle.module_state.specs.Module.{Module}
use Rattle.module_state.specs.Restored.{restored}
use Rattle.snapshot_pieces.specs.declared.origin.Origin.{Origin}
use Rattle.snapshot_pieces.specs.Pieces.{between, service_pieces_of}

-- the file is damaged, or no memory was there
abbrev pub NamesFile : ℕ → MemberFault → Type 0
NamesFile file (Damaged f place) = f ≡ file
NamesFile file NoMemory = ⊤
NamesFile file Device = ⊥
NamesFile file (LogFull place) = ⊥

-- the pieces are those of a snapshot of a service of this kind in this state
abbrev pub IsServiceOf : Kind → Origin → List (List ℕ) → Shipped → Type 0
IsServiceOf kind origin ps state = (records : List ℕ) × (ps ≡ service_pieces_of origin records) × (restored_of kind records ≡ Ok state)

-- the pieces are those of a snapshot of the module in this state, of a member with so many services
abbrev pub IsModuleOf : ℕ → Origin → List (List ℕ) → Module → Type 0
IsModuleOf services origin ps m = (records : List (List ℕ)) × (ps ≡ between origin records) × (restored services records ≡ Ok m)
