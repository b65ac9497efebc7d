use Rattle.std.proofs.Common.{◌≡◌, ◌++◌, drop, map}
use Rattle.sbe_local.specs.Pieces.{piece_spelling_of}
use Rattle.module_state.specs.Recorded.{counters}
use Rattle.module_state.proofs.records.add_counters.Given as goal

abbrev pub invariant-loop-service : goal.invariant-loop-service
invariant-loop-service l = l.found ++ map piece_spelling_of (counters l.service (drop l.service l.pending)) ≡ l.initial.found ++ map piece_spelling_of (counters 0 l.pending)
