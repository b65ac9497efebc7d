use Rattle.std.proofs.Common.{◌≡◌, ◌≤◌, ◌+◌, ◌-◌, ◌^◌, drop}
use Rattle.module_state.specs.Restored.{bytes_before, capped}
use Rattle.module_state.proofs.restore.bytes_before.Given as goal

abbrev pub invariant-loop-record : goal.invariant-loop-record
invariant-loop-record l = record {
  bound : l.sum ≤ 2 ^ 64 - 1;
  so_far : capped (l.sum + bytes_before l.left (drop l.record-index l.records)) ≡ capped (bytes_before l.count l.records);
}
