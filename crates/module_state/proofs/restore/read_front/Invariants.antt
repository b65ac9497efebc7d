use Rattle.std.proofs.Common.{◌≡◌, ◌++◌, drop}
use Rattle.std.specs.List.{AllByRecursion}
use Rattle.sbe_local.specs.Pieces.{HasPieceSpelling}
use Rattle.module_state.specs.Restored.{front_pieces, front_fault}
use Rattle.module_state.proofs.restore.read_front.Given as goal

abbrev pub invariant-loop-record : goal.invariant-loop-record
invariant-loop-record l = record {
  pieces : l.pieces.items ++ front_pieces (drop l.record-index l.records) ≡ front_pieces l.records;
  spelled : AllByRecursion HasPieceSpelling l.pieces.items;
  fault : front_fault (drop l.record-index l.records) ≡ front_fault l.records;
}
