-- A log and its shape.
use Rattle.std.proofs.Common.{◌≡◌}
use Rattle.entry_log.specs.Log.{Log, place, last}
use Rattle.entry_log.specs.Shape.{shape_of, end_of, last_term_of, end_from-shape_of, last_term_from-shape_of}

pub place_is : (log : Log) → end_of (shape_of log) ≡ place log
place_is log = end_from-shape_of 0 log

pub last_is : (log : Log) → last_term_of (shape_of log) ≡ last log
last_is log = last_term_from-shape_of _ log
