-- Where sets are listed, one is valid.
use Rattle.std.proofs.Common.{ℕ, ◌<◌, List, length, pos}
use Rattle.std.specs.Prelude.{slice_index_or}
use Rattle.recording_log.specs.declared.entry.RecEntry.{RecEntry}
use Rattle.recording_log.specs.declared.entry.SnapshotAt.{SnapshotAt}
use Rattle.recording_log.specs.Listed.{AreSets}
use Rattle.member_disk.specs.Changes.{HasSome}

pub some_set : (services : ℕ) (entries : List RecEntry) (sets : List SnapshotAt) → AreSets services entries sets → 0 < length sets → HasSome services entries
some_set services entries sets are some =
    let none : SnapshotAt = record { recording = 0; term = pos 0; position = 0 } in
    let first = are.each 0 none some in
    record { term = (slice_index_or sets 0 none).term; position = pos (slice_index_or sets 0 none).position; set = first.whole }
