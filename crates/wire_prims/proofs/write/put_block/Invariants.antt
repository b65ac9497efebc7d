use Rattle.std.proofs.Common.{◌≡◌, ◌++◌, drop}
use Rattle.wire_prims.specs.Strict.{block_bytes}
use Rattle.wire_prims.proofs.write.put_block.Given as goal

abbrev pub invariant-loop-field : goal.invariant-loop-field
invariant-loop-field l = l.out.items ++ block_bytes (drop l.field-index l.fields) ≡ l.initial.out.items ++ block_bytes l.fields
