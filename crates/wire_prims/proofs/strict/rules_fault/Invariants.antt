use Rattle.std.proofs.Common.{◌≡◌, ◌+◌, drop}
use Rattle.wire_prims.specs.Strict.{rules_size, rules_fault}
use Rattle.wire_prims.proofs.strict.rules_fault.Given as goal

abbrev pub invariant-loop-rule : goal.invariant-loop-rule
invariant-loop-rule l =
    (rules_fault (drop l.rule-index l.rules) l.place l.bytes ≡ rules_fault l.rules l.at l.bytes) × (l.place + rules_size (drop l.rule-index l.rules) ≡ l.at + rules_size l.rules)
