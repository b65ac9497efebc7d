-- Events of entries.
use Rattle.std.proofs.Common.{◌≡◌, ℕ, List, None, Some, refl}
use Rattle.wire_prims.specs.declared.fault.Bad.{Bad}
use Rattle.sbe_events.specs.Spelling.{event_of, first_fault}

-- bytes with a fault are no event
pub no_event : (bytes : List ℕ) (b : Bad) → first_fault bytes ≡ Some b → event_of bytes ≡ None
unfolding event_of
no_event bytes b fault = rw fault refl
