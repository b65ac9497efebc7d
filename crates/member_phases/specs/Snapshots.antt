-- A snapshot that a phase puts, as an entry of the world.
use Rattle.std.specs.Prelude.{List, [], ◌∷◌}
use Rattle.consensus_core.specs.Member.{Member, Whole, puts}
use Rattle.entry_log.specs.Durable.{SnapshotEntry}
use Rattle.consensus_agent.specs.Written.{Snapshot}
use Rattle.service_runs.specs.Hosts.{Due}

-- its entry, with its pieces
abbrev pub snapshot_as : Snapshot → SnapshotEntry
snapshot_as s = record { recording = s.head.recording; service = s.head.service; term = s.head.term; position = s.head.position; stamp = s.head.stamp; pieces = s.pieces }

-- the entry of what is due
abbrev pub snap_in : Due → SnapshotEntry
snap_in d = d.snap

-- the member once all that is due is put
abbrev pub all_put : List Due → Member → Member
all_put [] x = x
all_put (d ∷ due) x = all_put due (puts d.snap Whole x)
