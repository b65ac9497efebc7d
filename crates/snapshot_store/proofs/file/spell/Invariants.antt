use Rattle.std.proofs.Common.{◌≡◌, take}
use Rattle.snapshot_store.specs.Snapshots.{spelled}
use Rattle.snapshot_store.proofs.file.spell.Given as goal

abbrev pub invariant-loop-piece : goal.invariant-loop-piece
invariant-loop-piece l = l.out.items ≡ spelled (take l.piece-index l.pieces)
