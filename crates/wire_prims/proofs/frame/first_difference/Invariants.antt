use Rattle.std.proofs.Common.{◌≡◌, ◌+◌, drop}
use Rattle.wire_prims.specs.Frames.{differs}
use Rattle.wire_prims.proofs.frame.first_difference.Given as goal

abbrev pub invariant-loop-byte : goal.invariant-loop-byte
invariant-loop-byte l = (differs (drop l.byte-index l.wanted) l.place l.bytes ≡ differs l.wanted l.at l.bytes) × (l.place ≡ l.at + l.byte-index)
