use Rattle.std.proofs.Common.{◌≤◌, length, vec_len, vec_capacity}
use Rattle.recording_log.specs.Listed.{HaveThese, Rise}
use Rattle.recording_log.proofs.log.RecordingLog.list_sets.Given as goal

abbrev pub invariant-loop-entry : goal.invariant-loop-entry
invariant-loop-entry l = record {
  these : HaveThese l.fn.services l.entries l.entry-index l.sets.items;
  rise : Rise l.sets.items;
  few : vec_len l.sets ≤ l.entry-index;
  room : length l.entries ≤ vec_capacity l.sets;
}
