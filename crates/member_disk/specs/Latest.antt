-- What is read for the latest valid set.
use Rattle.std.specs.Prelude.{◌≡◌, ℕ, ℤ, pos, List}
use Rattle.recording_log.specs.declared.entry.RecEntry.{RecEntry}
use Rattle.member_disk.specs.declared.durable.SetEntry.{SetEntry}
use Rattle.member_disk.specs.Changes.{IsLatestPart}

-- what was read for the entry of a service, or of the module, in the latest valid set
pub record IsLatestEntry (services : ℕ) (entries : List RecEntry) (service : ℤ) (s : SetEntry) : Type 0 where
  pub entry : RecEntry
  pub latest : IsLatestPart services entries service entry
  pub recording : entry.recording ≡ pos s.recording
  pub term : entry.term ≡ s.term
  pub position : entry.position ≡ pos s.position
  pub stamp : entry.stamp ≡ s.stamp
