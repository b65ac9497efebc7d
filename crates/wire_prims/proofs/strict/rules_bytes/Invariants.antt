use Rattle.std.proofs.Common.{◌≡◌, ◌+◌, drop}
use Rattle.wire_prims.specs.Strict.{rules_size}
use Rattle.wire_prims.proofs.strict.rules_bytes.Given as goal

abbrev pub invariant-loop-rule : goal.invariant-loop-rule
invariant-loop-rule l = l.size + rules_size (drop l.rule-index l.rules) ≡ rules_size l.rules
