use Rattle.std.proofs.Common.{◌≡◌, ◌++◌, drop, map}
use Rattle.sbe_local.specs.Pieces.{piece_spelling_of}
use Rattle.module_state.specs.Recorded.{pending_pieces}
use Rattle.module_state.proofs.records.add_pending.Given as goal

abbrev pub invariant-loop-service : goal.invariant-loop-service
invariant-loop-service l = l.found ++ map piece_spelling_of (pending_pieces l.service (drop l.service l.pending)) ≡ l.initial.found ++ map piece_spelling_of (pending_pieces 0 l.pending)
