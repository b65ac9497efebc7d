-- The parts of sets of snapshots that the entries have, in a set that is searched.
use Rattle.std.specs.Prelude.{◌≡◌, ◌⊎◌, Bool, IsTrue, List, ◌↔◌}
use Rattle.std.specs.BTreeSet as tree
use Rattle.std.specs.Ordering.{int_cmp, ordering_then}
use Rattle.std.specs.declared.cmp.Ordering.{Ordering}
use Rattle.recording_log.specs.declared.entry.RecEntry.{RecEntry}
use Rattle.recording_log.specs.declared.parts.Part.{Part}
use Rattle.recording_log.specs.declared.parts.Parts.{Parts}
use Rattle.recording_log.specs.Sets.{HasPart}

-- parts in order: by position, then by term, then by service
abbrev pub part_cmp : Part → Part → Ordering
part_cmp a b = ordering_then (int_cmp a.position b.position) (ordering_then (int_cmp a.term b.term) (int_cmp a.service b.service))

-- the part that an entry is, where it is a valid SNAPSHOT entry
abbrev pub part_of : RecEntry → Part
part_of e = record { position = e.position; term = e.term; service = e.service }

-- the set has this part
abbrev pub has : Parts → Part → Bool
has parts part = tree.contains part_cmp parts.parts part

-- the entries have this part
abbrev pub Have : List RecEntry → Part → Type 0
Have entries part = HasPart entries part.term part.position part.service

-- the set has exactly the parts of the entries
abbrev pub Tells : Parts → List RecEntry → Type 0
Tells parts entries = (part : Part) → IsTrue (has parts part) ↔ Have entries part

-- the set has the parts of the entries, and perhaps one more
pub record TellsWith (more : Part) (parts : Parts) (entries : List RecEntry) : Type 0 where
  pub each : (part : Part) → Have entries part → IsTrue (has parts part)
  pub only : (part : Part) → IsTrue (has parts part) → Have entries part ⊎ (part ≡ more)
