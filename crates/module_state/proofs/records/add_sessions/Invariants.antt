use Rattle.std.proofs.Common.{◌≡◌, ◌++◌, drop, map}
use Rattle.sbe_local.specs.Pieces.{piece_spelling_of}
use Rattle.module_state.specs.Recorded.{session_pieces}
use Rattle.module_state.proofs.records.add_sessions.Given as goal

abbrev pub invariant-loop-place : goal.invariant-loop-place
invariant-loop-place l = l.found ++ map piece_spelling_of (session_pieces (drop l.place l.sessions.table.listed)) ≡ l.initial.found ++ map piece_spelling_of (session_pieces l.sessions.table.listed)
