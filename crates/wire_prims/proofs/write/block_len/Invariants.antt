use Rattle.std.proofs.Common.{◌≡◌, ◌+◌, drop}
use Rattle.wire_prims.specs.Strict.{block_size}
use Rattle.wire_prims.proofs.write.block_len.Given as goal

abbrev pub invariant-loop-field : goal.invariant-loop-field
invariant-loop-field l = l.size + block_size (drop l.field-index l.fields) ≡ block_size l.fields
